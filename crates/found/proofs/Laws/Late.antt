-- No row of a wall file has a seam that is turned away. Assumes nothing.
use mathlib.Core.Path.{◌≡◌}
use mathlib.Core.Bool.{Bool, true, false}
use Prim.Native.Nat.{ℕ, suc, ◌≤◌, ◌<◌}
use native.Mathlib.Omega.{arith}
use Rattle.settings.proofs.Laws.Cases.{by_order, by_equal}
use Rattle.columns.specs.Columns.{are_neighbours}
use Rattle.columns.proofs.Laws.Columns.{next, first_third, third_last}
use Rattle.settings.specs.Refusal.{number_in}
use Rattle.seam.specs.Seam.{latest, seam_of}
use Rattle.seam.proofs.Laws.{over_late, refused_left, refused_right}
use Rattle.places.specs.Seams.{seam_left, seam_right}
use Rattle.places.proofs.Laws.Seams.{left_first, left_inner, left_last, right_first, right_inner, right_last}
use Rattle.steps.specs.Shown.{Shown, lines, turned_away}
use Rattle.file.specs.Promises.{SeamsHold}
use Rattle.wide.specs.Promises.{InTime}
use Rattle.wide.proofs.Laws.First.{all}
use Rattle.found.specs.Promises.{NotLate}

-- the columns of a seam are two neighbours of the row
record Beside (w i : ℕ) : Type 0 where
  pub left : seam_left w i < w
  pub right : seam_right w i < w
  pub neighbours : are_neighbours w (seam_left w i) (seam_right w i) ≡ true

beside : (w i : ℕ) → 6 ≤ w → i ≤ w → Beside w i
beside w i six j =
    by_order 2 i
    (λ k. by_order w (suc i)
    (λ l. by_order w i
    (λ m. made (left_last w i k l) (right_last w i k m) (omega arith) (omega arith) (next w (seam_left w i) (seam_right w i) (omega (arith, left_last w i k l, right_last w i k m))))
    (λ m. made (left_last w i k l) (right_inner w i k m) (omega arith) (omega arith) (third_last w (seam_left w i) (seam_right w i) (omega (arith, left_last w i k l, l, m)) (omega (arith, right_inner w i k m, l, m)))))
    (λ l. made (left_inner w i k l) (right_inner w i k (omega arith)) (omega arith) (omega arith) (next w (seam_left w i) (seam_right w i) (omega (arith, left_inner w i k l, right_inner w i k (omega arith))))))
    (λ k. by_order 1 i
    (λ l. made (left_first w i k) (right_first w i k) (omega arith) (omega arith) (first_third w (seam_left w i) (seam_right w i) (left_first w i k) (omega (arith, right_first w i k, k, l))))
    (λ l. made (left_first w i k) (right_first w i k) (omega arith) (omega arith) (next w (seam_left w i) (seam_right w i) (omega (arith, left_first w i k, right_first w i k, l)))))
  where
    made : {a b : ℕ} → seam_left w i ≡ a → seam_right w i ≡ b → a < w → b < w → are_neighbours w (seam_left w i) (seam_right w i) ≡ true → Beside w i
    made e f p q n = record { left = omega (arith, e, p); right = omega (arith, f, q); neighbours = n }

-- a seam that is not turned away is in time
early_left : (l r : ℕ) (lf rf : Bool) → number_in (seam_of l lf r rf) ≡ 0 → lf ≡ false → l ≤ latest
early_left l r lf rf e f =
    by_order l latest (λ i. i) (λ i. let z = rw (f, refused_left l false r rf (over_late l i)) at e in let never : ⊥ = omega (arith, z) in absurd never)

early_right : (l r : ℕ) (lf rf : Bool) → number_in (seam_of l lf r rf) ≡ 0 → rf ≡ false → r ≤ latest
early_right l r lf rf e f =
    by_order r latest (λ i. i) (λ i. let z = rw (f, refused_right l lf r false (over_late r i)) at e in let never : ⊥ = omega (arith, z) in absurd never)

pub not_late : (n : ℕ) (x : Shown) → SeamsHold x → NotLate n x
unfolding SeamsHold NotLate InTime
not_late n (lines w l ms r) h =
    by_equal _ 0 (λ e. e)
    (λ k. let late = ((all n w r.times ms).late k).1 in
    let b = beside w late.seam h.0 late.is.place in
    let z = (h.1 (seam_left w late.seam) (seam_right w late.seam) b.left b.right b.neighbours).0 in
    absurd (late.is.late (early_left _ _ _ _ z, early_right _ _ _ _ z)))
not_late n (turned_away k at) h = tt
