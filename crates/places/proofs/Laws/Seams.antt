-- The columns of a seam by its place, and the seams in the order of the printed lines: column by column, the text of the seams on its
-- right. Assumes nothing.
use mathlib.Core.Path.{◌≡◌, refl, sym, ◌∙◌, ap}
use mathlib.Core.Bool.{false, not}
use mathlib.Core.List.{List, [], ◌++◌, append_assoc, append-nil}
use mathlib.Core.Logic.{inl, inr}
use Prim.Native.Nat.{ℕ, zero, suc, ◌+◌, ◌-◌, ◌≤◌, ◌<◌}
use lib.Dec.{eqb}
use native.Mathlib.Omega.{arith}
use borrow.Author.Tests.{eqb-true, lt-ltb, le-ltb, not-false}
use Rattle.settings.proofs.Laws.Refusal.{neither}
use Rattle.columns.specs.Marks.{mark_bytes}
use Rattle.lines.specs.Row.{each_below, each_of, right_neighbours}
use Rattle.seam_lines.proofs.Laws.Neighbours.{right_none, right_one, right_two, text_none, text_one, text_two}
use Rattle.places.specs.Seams.{seam_left, seam_right, other_lengths}

module _ (w i : ℕ) where
  pub left_first : i < 2 → seam_left w i ≡ 0
  unfolding seam_left
  left_first a = rw (lt-ltb i 2 a)

  pub left_inner : 2 ≤ i → suc i < w → seam_left w i ≡ i - 1
  unfolding seam_left
  left_inner a b = rw (le-ltb i 2 a, lt-ltb (suc i) w b)

  pub left_last : 2 ≤ i → w ≤ suc i → seam_left w i ≡ i - 2
  unfolding seam_left
  left_last a b = rw (le-ltb i 2 a, le-ltb (suc i) w b)

  pub right_first : i < 2 → seam_right w i ≡ suc i
  unfolding seam_right
  right_first a = rw (lt-ltb i 2 a)

  pub right_inner : 2 ≤ i → i < w → seam_right w i ≡ i
  unfolding seam_right
  right_inner a b = rw (le-ltb i 2 a, lt-ltb i w b)

  pub right_last : 2 ≤ i → w ≤ i → seam_right w i ≡ w - 1
  unfolding seam_right
  right_last a b = rw (le-ltb i 2 a, le-ltb i w b)

-- what is not turned away with 21
pub right_lengths : (w n m : ℕ) → other_lengths w n m ≡ false → (n ≡ w) × (m ≡ mark_bytes w)
unfolding other_lengths
right_lengths w n m e =
    let (a, b) = neither (not (eqb n w)) (not (eqb m (mark_bytes w))) e in
    (eqb-true n w (not-false (eqb n w) a), eqb-true m (mark_bytes w) (not-false (eqb m (mark_bytes w)) b))

-- the text of each seam, whatever it is
module _ (w : ℕ) (wide : 6 ≤ w) (text : ℕ → ℕ → List ℕ) where
  abbrev on_right : ℕ → List ℕ
  on_right a = each_of (right_neighbours w a) (text a)

  abbrev placed : ℕ → List ℕ
  placed i = text (seam_left w i) (seam_right w i)

  same : (a b c d : ℕ) → a ≡ c → b ≡ d → text a b ≡ text c d
  same a b c d e f = rw (e, f)

  is_placed : (i a b : ℕ) → seam_left w i ≡ a → seam_right w i ≡ b → text a b ≡ placed i
  is_placed i a b e f = same a b (seam_left w i) (seam_right w i) (sym e) (sym f)

  one_right : (a : ℕ) → (a ≡ 0 → ⊥) → (a + 3 ≡ w → ⊥) → a + 1 < w → on_right a ≡ text a (a + 1)
  one_right a m n i = sym (text_one (text a) (right_neighbours w a) (a + 1) (right_one w a wide m n i))

  -- the seams up to a column before the third from the last
  early : (m : ℕ) → m + 4 ≤ w → each_below (suc m) on_right ≡ each_below (suc (suc m)) placed
  unfolding each_below
  early zero i =
      sym (text_two (text 0) (right_neighbours w 0) 1 2 (right_two w 0 wide (inl refl)))
      ∙ rw (is_placed 0 0 1 (left_first w 0 (omega arith)) (right_first w 0 (omega arith)), is_placed 1 0 2 (left_first w 1 (omega arith)) (right_first w 1 (omega arith)))
  early (suc m) i =
      rw (early m (omega arith))
      (ap (λ (t : List ℕ). each_below (suc (suc m)) placed ++ t)
      (one_right (suc m) (omega arith) (omega arith) (omega arith)
      ∙ is_placed (suc (suc m)) (suc m) (suc m + 1)
      (left_inner w (suc (suc m)) (omega arith) (omega arith) ∙ omega arith)
      (right_inner w (suc (suc m)) (omega arith) (omega arith) ∙ omega arith)))

  -- the last three columns
  module _ (v : ℕ) (e : w ≡ suc (suc (suc (suc v)))) where
    third_last : on_right (suc v) ≡ placed (suc (suc v)) ++ placed (suc (suc (suc v)))
    third_last =
        sym (text_two (text (suc v)) (right_neighbours w (suc v)) (suc v + 1) (suc v + 2) (right_two w (suc v) wide (inr (omega arith))))
        ∙ ap (λ (t : List ℕ). t ++ text (suc v) (suc v + 2))
        (is_placed (suc (suc v)) (suc v) (suc v + 1)
        (left_inner w (suc (suc v)) (omega arith) (omega arith) ∙ omega arith)
        (right_inner w (suc (suc v)) (omega arith) (omega arith) ∙ omega arith))
        ∙ ap (λ (t : List ℕ). placed (suc (suc v)) ++ t)
        (is_placed (suc (suc (suc v))) (suc v) (suc v + 2)
        (left_last w (suc (suc (suc v))) (omega arith) (omega arith) ∙ omega arith)
        (right_inner w (suc (suc (suc v))) (omega arith) (omega arith) ∙ omega arith))

    second_last : on_right (suc (suc v)) ≡ placed (suc (suc (suc (suc v))))
    second_last =
        one_right (suc (suc v)) (omega arith) (omega arith) (omega arith)
        ∙ is_placed (suc (suc (suc (suc v)))) (suc (suc v)) (suc (suc v) + 1)
        (left_last w (suc (suc (suc (suc v)))) (omega arith) (omega arith) ∙ omega arith)
        (right_last w (suc (suc (suc (suc v)))) (omega arith) (omega arith) ∙ omega arith)

    none_last : on_right (suc (suc (suc v))) ≡ []
    none_last = sym (text_none (text (suc (suc (suc v)))) (right_neighbours w (suc (suc (suc v)))) (right_none w (suc (suc (suc v))) wide (omega arith)))

    all_placed : each_below (suc (suc (suc (suc v)))) on_right ≡ each_below (suc (suc (suc (suc (suc v))))) placed
    unfolding each_below
    all_placed =
        rw (early v (omega arith), third_last, second_last, none_last)
        (simp (append_assoc, append-nil))

  pub in_order : each_below w on_right ≡ each_below (suc w) placed
  in_order =
      let e : w ≡ suc (suc (suc (suc (w - 4)))) = omega arith in
      ap (λ (n : ℕ). each_below n on_right) e ∙ all_placed (w - 4) e ∙ sym (ap (λ (n : ℕ). each_below (suc n) placed) e)
