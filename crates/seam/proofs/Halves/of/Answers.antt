-- `Halves::of` meets its contract: the whole sum and gap fit, their casts lose nothing, and one product with one
-- half is exact. Assumes nothing.
use mathlib.Core.Path.{◌≡◌, refl}
use Prim.Native.Nat.{ℕ, ◌+◌, ◌≤◌}
use native.Mathlib.Omega.{arith}
use lib.IntN.{pos, ◌+ℤ◌, ◌-ℤ◌}
use mir.Syntax.{w64}
use mir.Val.{SFits, to_z, of_z}
use mir.ValLaws.{to_z_pos, to_z-of_z}
use Rattle.rule.proofs.Laws.Signed.{minus_fits}
use Rattle.seam.specs.Seam.{latest, halves}
use Rattle.seam.proofs.Laws.{halved, cast_whole, gap_small, sum_small}
use Rattle.seam.proofs.Halves.of.Goals as goal

module _ (a b : ℕ) (i : a ≤ latest) (k : b ≤ latest) where
  sum_fits : SFits w64 (to_z w64 a +ℤ to_z w64 b)
  sum_fits = rw (to_z_pos w64 a (omega arith), to_z_pos w64 b (omega arith)) (record { sfits = omega arith })

  gap_fits : SFits w64 (to_z w64 a -ℤ to_z w64 b)
  gap_fits = rw (to_z_pos w64 a (omega arith), to_z_pos w64 b (omega arith)) (minus_fits a b (omega arith) (omega arith))

  sum_read : to_z w64 (of_z w64 (to_z w64 a +ℤ to_z w64 b)) ≡ pos (a + b)
  sum_read = rw (to_z-of_z w64 (to_z w64 a +ℤ to_z w64 b) sum_fits, to_z_pos w64 a (omega arith), to_z_pos w64 b (omega arith))

  gap_read : to_z w64 (of_z w64 (to_z w64 a -ℤ to_z w64 b)) ≡ pos a -ℤ pos b
  gap_read = rw (to_z-of_z w64 (to_z w64 a -ℤ to_z w64 b) gap_fits, to_z_pos w64 a (omega arith), to_z_pos w64 b (omega arith))

pub overflow_add-sum : goal.overflow_add-sum
overflow_add-sum c = sum_fits c.args.left c.args.right c.requires.0 c.requires.1

pub overflow_sub-gap : goal.overflow_sub-gap
overflow_sub-gap c = gap_fits c.args.right c.args.left c.requires.1 c.requires.0

pub int_to_float-whole_sum : goal.int_to_float-whole_sum
int_to_float-whole_sum c = let l = c.args.left in
    let r = c.args.right in
    let i = c.requires in
    rw (sum_read l r i.0 i.1) (cast_whole (pos (l + r)) (sum_small l r i.0 i.1))

pub int_to_float-whole_gap : goal.int_to_float-whole_gap
int_to_float-whole_gap c = let l = c.args.left in
    let r = c.args.right in
    let i = c.requires in
    rw (gap_read r l i.1 i.0) (cast_whole (pos r -ℤ pos l) (gap_small r l i.1 i.0))

pub returns : goal.returns
unfolding halves
returns c = let l = c.args.left in
    let r = c.args.right in
    let i = c.requires in
    rw (
      sum_read l r i.0 i.1,
      gap_read r l i.1 i.0,
      halved (pos (l + r)) (sum_small l r i.0 i.1),
      halved (pos r -ℤ pos l) (gap_small r l i.1 i.0),
    )
    refl
