-- `Row::bad_value` meets its contract: its tests are the definition's. Assumes nothing.
use Rattle.std.proofs.Common.{eq-eqb, ne_eqb}
use Rattle.rule.specs.Stamp.{silence}
use Rattle.links.specs.Links.{bad_value}
use Rattle.links.proofs.Row.bad_value.Goals as goal

pub returns-else-value-ne-SILENT : goal.returns-else-value-ne-SILENT
unfolding bad_value
returns-else-value-ne-SILENT c = rw (c.if-faulty.true, eq-eqb c.args.value silence c.if-value-ne-SILENT.false)

pub returns-then-value-ne-SILENT : goal.returns-then-value-ne-SILENT
unfolding bad_value
returns-then-value-ne-SILENT c = rw (c.if-faulty.true, ne_eqb c.args.value silence c.if-value-ne-SILENT.true)

pub returns : goal.returns
unfolding bad_value
returns c = rw c.if-faulty.false c.no_delay.ensures
