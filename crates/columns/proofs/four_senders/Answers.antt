-- `four_senders` meets its contract: its tests are the definition's. Assumes nothing.
use borrow.Author.Tests.{eq-eqb, ne_eqb}
use Rattle.columns.specs.Window.{four_senders}
use Rattle.columns.proofs.four_senders.Goals as goal

pub returns-then-c-eq2 : goal.returns-then-c-eq2
unfolding four_senders
returns-then-c-eq2 c = rw (eq-eqb c.args.c 2 c.if-c-eq2.true)

pub returns-else-c-eq2 : goal.returns-else-c-eq2
unfolding four_senders
returns-else-c-eq2 c = rw (ne_eqb c.args.c 2 c.if-c-eq2.false)
