-- `Clock::first_tick` meets its contract: the code is the definition, and a phase is less than the reading that is asked for. Assumes nothing.
use mathlib.Core.Path.{◌∙◌}
use Prim.Native.Nat.{◌-◌, ◌*◌}
use native.Mathlib.Omega.{arith}
use Rattle.rule.specs.Clock.{first_tick}
use Rattle.settings.proofs.Laws.Rounding.{up_is}
use Rattle.rule.proofs.clock.Clock.first_tick.Goals as goal

pub returns : goal.returns
unfolding first_tick
returns c = c.div_ceil.ensures ∙ up_is (c.args.v * 1000000 - c.args.self.phase) (omega arith)
