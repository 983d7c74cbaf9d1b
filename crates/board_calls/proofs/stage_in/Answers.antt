-- `stage_in` meets its contract. Assumes nothing.
use Rattle.std.proofs.Common.{◌≢◌}
use native.Mathlib.Omega.{arith}
use borrow.Author.Tests.{ne_eqb}
use Rattle.board_calls.specs.Words.{stage_in}
use Rattle.board_calls.proofs.stage_in.Goals as goal

pub returns-in-0 : goal.returns-in-0
unfolding stage_in
returns-in-0 c = rw c.in-0.is

pub returns-in-1 : goal.returns-in-1
unfolding stage_in
returns-in-1 c = rw c.in-1.is

pub returns-in_default : goal.returns-in_default
unfolding stage_in
returns-in_default c = let n = c.args.word in
    let a : n ≢ 0 = omega arith in
    let b : n ≢ 1 = omega arith in
    rw (ne_eqb n 0 a, ne_eqb n 1 b)
