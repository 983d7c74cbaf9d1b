-- `step` meets its contract. Assumes nothing.
use mathlib.Core.Path.{sym}
use Prim.Native.Nat.{◌<◌}
use native.Mathlib.Omega.{arith}
use borrow.Author.Tests.{ne_eqb}
use Rattle.layout.specs.Words.{refused_number}
use Rattle.layout.specs.Promises.{RefusalsStay}
use Rattle.layout.proofs.Promises.{refusals_stay}
use Rattle.wall_calls.specs.Answers.{step_answer, wall_left}
use Rattle.wall_calls.proofs.step.Goals as goal

-- the words of a file that is turned away stay
pub returns-then-number-ne0-clause-wall : goal.returns-then-number-ne0-clause-wall
unfolding step_answer wall_left RefusalsStay
returns-then-number-ne0-clause-wall c =
    let ws = c.args.wall.now in
    let some : 0 < refused_number ws = omega (arith, c.refused_number-number.ensures, c.if-number-ne0.true) in
    rw (ne_eqb (refused_number ws) 0 (λ e. omega (arith, some, e))) (sym (refusals_stay ws c.told-wall some))
