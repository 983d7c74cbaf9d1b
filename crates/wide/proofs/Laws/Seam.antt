-- The laws of one seam and of the seams of a row from a place on. Assumes nothing.
use mathlib.Core.Path.{◌≡◌, refl, sym, ◌∙◌, ap}
use mathlib.Core.Bool.{Bool, true, false, and-eq-true_iff}
use mathlib.Core.List.{List}
use Prim.Native.Nat.{ℕ, suc, ◌+◌, ◌-◌, ◌≤◌, ◌<◌, max}
use lib.Dec.{leb}
use lib.ListN.{length}
use native.Mathlib.Numerals.{add-one}
use native.Mathlib.Omega.{arith}
use borrow.Author.Tests.{eq-eqb, lt-ltb, le-ltb, leb-true}
use lib.IntN.{pos, ◌-ℤ◌}
use Rattle.std.specs.Prelude.{Option, Some, None, Result, Ok, Err}
use Rattle.settings.specs.Refusal.{first, or_else, answer}
use Rattle.settings.specs.Settings.{settings_cause, settings_refusal}
use Rattle.settings.specs.declared.Settings.{Settings}
use Rattle.settings.specs.declared.refusal.Refusal.{Refusal}
use Rattle.settings.specs.declared.refusal.Refusal.TheVariants.{Lengths}
use Rattle.settings.proofs.Laws.Refusal.{none_of}
use Rattle.settings.proofs.Laws.Cases.{by_order}
use Rattle.columns.specs.Marks.{mark_bytes}
use Rattle.rule.proofs.Laws.Signed.{minus, sub_pos, sub_neg}
use Rattle.seam.specs.Seam.{latest, joined, seam_of}
use Rattle.seam.proofs.Laws.{within_late, faulty_late, accepted}
use Rattle.places.specs.Seams.{seam_left, seam_right, other_lengths}
use Rattle.wide.specs.Wide.{unsigned, half_ticks, wide_at, if_over, if_wide, are_narrow, seam_first, or_then, first_from, rest_first, row_first, first_wide}
use Rattle.wide.specs.declared.Wide.{Wide}

-- the half gap in half ticks is the larger time less the smaller
pub half_ticks_is : (l r : ℕ) → half_ticks l r ≡ r - l + (l - r)
unfolding half_ticks unsigned
half_ticks_is l r =
    rw (minus r l)
    (by_order l r (λ i. rw (sub_pos r l i) (omega (arith, i))) (λ i. rw (sub_neg r l i) (omega (arith, i))))

-- a closed seam by its half gap
module _ (n a b g : ℕ) where
  pub not_over : g ≤ n → if_over n a b g ≡ None
  unfolding if_over
  not_over i = rw (le-ltb n g i)

  pub is_over : n < g → if_over n a b g ≡ Some (wide_at a b g)
  unfolding if_over
  is_over i = rw (lt-ltb n g i)

-- times that are in time and not over the limit, whatever the marks
pub narrow : (n a b l r : ℕ) (lf rf : Bool) → l ≤ latest → r ≤ latest → half_ticks l r ≤ n → if_wide n a b (half_ticks l r) (seam_of l lf r rf) ≡ Ok None
unfolding if_wide joined
narrow n a b l r true true i j k = rw (accepted l true r true (faulty_late l) (faulty_late r))
narrow n a b l r true false i j k = rw (accepted l true r false (faulty_late l) (within_late r j))
narrow n a b l r false true i j k = rw (accepted l false r true (within_late l i) (faulty_late r))
narrow n a b l r false false i j k = rw (accepted l false r false (within_late l i) (within_late r j)) (ap Ok (not_over n a b (half_ticks l r) k))

-- by the test on two times
module _ (n l r : ℕ) where
  pub narrow_says : are_narrow n l r ≡ true → (l ≤ latest) × (r ≤ latest) × (half_ticks l r ≤ n)
  unfolding are_narrow
  narrow_says e =
      let both = (and-eq-true_iff (leb (max l r) latest) (leb (half_ticks l r) n)).0 e in
      let later = leb-true (max l r) latest both.0 in
      (omega (arith, later), omega (arith, later), leb-true (half_ticks l r) n both.1)

  pub narrow_none : (a b : ℕ) (lf rf : Bool) → are_narrow n l r ≡ true → if_wide n a b (half_ticks l r) (seam_of l lf r rf) ≡ Ok None
  narrow_none a b lf rf e = let says = narrow_says e in narrow n a b l r lf rf says.0 says.1 says.2

-- one seam more of a row
module _ (n w : ℕ) (ts ms : List ℕ) (i : ℕ) where
  abbrev here : Result (Option Wide) Refusal
  here = seam_first n ts ms (seam_left w i) (seam_right w i)

  abbrev rest : Result (Option Wide) Refusal
  rest = rest_first n w ts ms i

  step : i ≤ w → rest ≡ or_then here (rest_first n w ts ms (i + 1))
  unfolding rest_first first_from
  step j = let more : suc w - i ≡ suc (suc w - (i + 1)) = omega (arith, j) in rw (more, add-one)

  pub goes_on : i ≤ w → here ≡ Ok None → rest ≡ rest_first n w ts ms (i + 1)
  unfolding or_then
  goes_on j e = step j ∙ rw e

  pub stops_wide : {x : Wide} → i ≤ w → here ≡ Ok (Some x) → rest ≡ Ok (Some x)
  unfolding or_then
  stops_wide j e = step j ∙ rw e

  pub stops_late : {k : Refusal} → i ≤ w → here ≡ Err k → rest ≡ Err k
  unfolding or_then
  stops_late j e = step j ∙ rw e

-- the operation, by its refusals
module _ (s : Settings) (ts ms : List ℕ) (n : ℕ) where
  pub settings_wrong : (r : Refusal) → settings_cause s ≡ Some r → first_wide s ts ms n ≡ Err r
  unfolding first_wide or_else answer
  settings_wrong r e = rw e

  module _ (pass : settings_refusal s ≡ 0) where
    passes : settings_cause s ≡ None
    unfolding settings_refusal
    passes = none_of (settings_cause s) pass

    pub lengths_wrong : other_lengths s.width (length ts) (length ms) ≡ true → first_wide s ts ms n ≡ Err Lengths
    unfolding first_wide first or_else answer
    lengths_wrong e = rw (passes, e)

    pub lengths_right : other_lengths s.width (length ts) (length ms) ≡ false → first_wide s ts ms n ≡ row_first n s.width ts ms
    unfolding first_wide first or_else answer
    lengths_right e = rw (passes, e)

    -- a row that is lent as it should be
    pub row_lent : length ts ≡ s.width → length ms ≡ mark_bytes s.width → first_wide s ts ms n ≡ row_first n s.width ts ms
    unfolding other_lengths
    row_lent e f = lengths_right (rw (eq-eqb (length ts) s.width e, eq-eqb (length ms) (mark_bytes s.width) f))
