-- A chain of turns leads from the start to the state. The measure is how many steps are left. Assumes nothing.
use mathlib.Core.Path.{◌≡◌}
use lib.ListN.{length, take}
use Rattle.row.specs.Row.{pulses}
use Rattle.file.specs.Stands.{steps_left}
use Rattle.stream.specs.State.{Standing}
use Rattle.asked.specs.Asked.{step_for}
use Rattle.pass.proofs.run.Given as goal

abbrev pub invariant-loop-asked : goal.invariant-loop-asked
invariant-loop-asked g l =
    (length l.input ≡ 65536) × (length l.output ≡ 65536) × (length l.links ≡ 770) × (length l.row ≡ 256) × (length l.letters ≡ 256)
    × Standing (step_for l.asked (take 16 l.given)) 0 l.state l.kept l.input (pulses l.row l.letters) l.output

abbrev pub decreases-loop-asked : goal.decreases-loop-asked
decreases-loop-asked g l = steps_left l.state.wall
