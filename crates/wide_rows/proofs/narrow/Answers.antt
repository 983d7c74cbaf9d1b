-- `narrow` meets its contract. Assumes nothing.
use mathlib.Core.Path.{◌≡◌, ap}
use mathlib.Core.Bool.{false}
use Prim.Native.Nat.{ℕ, max}
use lib.Dec.{leb}
use native.Mathlib.Omega.{arith}
use borrow.Author.Tests.{le-leb, lt-leb}
use Rattle.seam.specs.Seam.{latest}
use Rattle.wide.specs.Wide.{half_ticks, are_narrow}
use Rattle.wide.proofs.Laws.Seam.{half_ticks_is}
use Rattle.wide_rows.proofs.narrow.Goals as goal

pub returns-then-max-le-LATEST : goal.returns-then-max-le-LATEST
unfolding are_narrow
returns-then-max-le-LATEST c = let a = c.args in
    let size : c.abs_diff.result ≡ half_ticks a.left a.right = omega (arith, c.abs_diff.ensures, half_ticks_is a.left a.right) in
    rw (le-leb (max a.left a.right) latest (omega (arith, c.max.ensures, c.if-max-le-LATEST.true))) (ap (λ (g : ℕ). leb g a.limit) size)

pub returns-else-max-le-LATEST : goal.returns-else-max-le-LATEST
unfolding are_narrow
returns-else-max-le-LATEST c = let a = c.args in
    let late : leb (max a.left a.right) latest ≡ false = lt-leb (max a.left a.right) latest (omega (arith, c.max.ensures, c.if-max-le-LATEST.false)) in
    rw (c.max.ensures, late)
