-- `staged` meets its contract. Assumes nothing.
use Rattle.std.proofs.Common.{◌≢◌}
use native.Mathlib.Omega.{arith}
use borrow.Author.Tests.{ne_eqb}
use Rattle.layout.specs.Words.{staged}
use Rattle.layout.proofs.staged.Goals as goal

pub returns-in-0 : goal.returns-in-0
unfolding staged
returns-in-0 c = rw c.in-0.is

pub returns-in-1 : goal.returns-in-1
unfolding staged
returns-in-1 c = rw c.in-1.is

pub returns-in-2 : goal.returns-in-2
unfolding staged
returns-in-2 c = rw c.in-2.is

pub returns-in-3 : goal.returns-in-3
unfolding staged
returns-in-3 c = rw c.in-3.is

pub returns-in_default : goal.returns-in_default
unfolding staged
returns-in_default c = let n = c.args.stage in
    let a : n ≢ 0 = omega arith in
    let b : n ≢ 1 = omega arith in
    let d : n ≢ 2 = omega arith in
    let e : n ≢ 3 = omega arith in
    rw (ne_eqb n 0 a, ne_eqb n 1 b, ne_eqb n 2 d, ne_eqb n 3 e)
