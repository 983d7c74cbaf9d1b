-- What comes first along the seams of a row, in plain words. Assumes nothing.
use mathlib.Core.Path.{◌≡◌, refl, subst}
use mathlib.Core.Bool.{Bool, true, false, true≢false}
use mathlib.Core.List.{List}
use mathlib.Core.Logic.{◌⊎◌, inl, inr}
use mathlib.Core.Option.{none, some}
use Prim.Native.Nat.{ℕ, zero, suc, ◌+◌, ◌≤◌, ◌<◌}
use native.Mathlib.Omega.{arith}
use lib.ListN.{get_or}
use Rattle.std.specs.Prelude.{Option, Some, None, Result, Ok, Err}
use Rattle.settings.specs.Refusal.{number_in}
use Rattle.settings.specs.declared.refusal.Refusal.{Refusal}
use Rattle.settings.specs.declared.refusal.Refusal.TheVariants.{LateSide}
use Rattle.settings.proofs.Laws.Cases.{by_order}
use Rattle.columns.specs.Marks.{marked}
use Rattle.seam.specs.Seam.{latest, joined, seam_of}
use Rattle.seam.proofs.Laws.{within_late, over_late, faulty_late, refused_left, refused_right, accepted}
use Rattle.places.specs.Seams.{seam_left, seam_right}
use Rattle.wide.specs.Wide.{half_ticks, wide_at, if_wide, seam_first, or_then, first_from, row_first, SeamWide, wide_of}
use Rattle.wide.specs.Promises.{ClosedAt, InTime, Narrow, Passed, WideFound, LateFound}
use Rattle.wide.specs.declared.Wide.{Wide}
use Rattle.wide.proofs.Laws.Seam.{half_ticks_is, not_over, is_over}

never : ◌≡◌ {A = ℕ} 0 1 → ⊥
never e = omega (arith, e)

-- what a seam of two tiles is
module _ (n a b l r : ℕ) (lf rf : Bool) where
  abbrev Early : Type 0
  Early = (lf ≡ false → l ≤ latest) × (rf ≡ false → r ≤ latest)

  data Sort : Result (Option Wide) Refusal → Type 0 where
    passes : Early → ((lf ≡ false) × (rf ≡ false) → (r ≤ l + n) × (l ≤ r + n)) → Sort (Ok None)
    is_wide : {g : ℕ} → (lf ≡ false) × (rf ≡ false) → Early → (g + l ≡ r) ⊎ (g + r ≡ l) → n < g → Sort (Ok (Some (wide_at a b g)))
    is_late : (Early → ⊥) → Sort (Err LateSide)

-- by its marks
module _ (n a b l r : ℕ) where
  abbrev here : (lf rf : Bool) → Result (Option Wide) Refusal
  here lf rf = if_wide n a b (half_ticks l r) (seam_of l lf r rf)

  gap : (half_ticks l r + l ≡ r) ⊎ (half_ticks l r + r ≡ l)
  gap = by_order l r (λ i. inl (omega (arith, half_ticks_is l r, i))) (λ i. inr (omega (arith, half_ticks_is l r, i)))

  sorted : (lf rf : Bool) → Sort n a b l r lf rf (here lf rf)
  unfolding if_wide joined
  sorted true true =
      rw (accepted l true r true (faulty_late l) (faulty_late r)) (passes (λ e. absurd (true≢false e), λ e. absurd (true≢false e)) (λ e. absurd (true≢false e.0)))
  sorted true false =
      by_order r latest
      (λ i. rw (accepted l true r false (faulty_late l) (within_late r i)) (passes (λ e. absurd (true≢false e), λ _. i) (λ e. absurd (true≢false e.0))))
      (λ i. rw (refused_right l true r false (over_late r i)) (is_late (λ e. let z = e.1 refl in omega (arith, i, z))))
  sorted false true =
      by_order l latest
      (λ i. rw (accepted l false r true (within_late l i) (faulty_late r)) (passes (λ _. i, λ e. absurd (true≢false e)) (λ e. absurd (true≢false e.1))))
      (λ i. rw (refused_left l false r true (over_late l i)) (is_late (λ e. let z = e.0 refl in omega (arith, i, z))))
  sorted false false =
      by_order l latest
      (λ i. by_order r latest
      (λ j. let is = accepted l false r false (within_late l i) (within_late r j) in
      by_order (half_ticks l r) n
      (λ k. rw (is, not_over n a b (half_ticks l r) k) (passes (λ _. i, λ _. j) (λ _. (omega (arith, half_ticks_is l r, k), omega (arith, half_ticks_is l r, k)))))
      (λ k. rw (is, is_over n a b (half_ticks l r) k) (is_wide (refl, refl) (λ _. i, λ _. j) gap k)))
      (λ j. rw (refused_right l false r false (over_late r j)) (is_late (λ e. let z = e.1 refl in omega (arith, j, z)))))
      (λ i. rw (refused_left l false r false (over_late l i)) (is_late (λ e. let z = e.0 refl in omega (arith, i, z))))

-- the seams from a place on, where those before it are passed
module _ (n w : ℕ) (ts ms : List ℕ) where
  pub record From (x : Result (Option Wide) Refusal) : Type 0 where
    pub wide : (s : SeamWide) → wide_of x ≡ some s → WideFound w ts ms n s
    pub none_wide : wide_of x ≡ none → number_in x ≡ 0 → Passed w ts ms n (suc w)
    pub late : (number_in x ≡ 0 → ⊥) → (number_in x ≡ 31) × LateFound w ts ms n

  -- a wide seam by its three numbers
  abbrev wide_as : (a b g : ℕ) → SeamWide
  wide_as a b g = record { left = a; right = b; half_gap = g }

  module _ (i : ℕ) (place : i ≤ w) (before : Passed w ts ms n i) where
    abbrev at : Result (Option Wide) Refusal → Type 0
    at = Sort n (seam_left w i) (seam_right w i) (get_or ts (seam_left w i) 0) (get_or ts (seam_right w i) 0) (marked ms (seam_left w i)) (marked ms (seam_right w i))

    by_sort : {x : Result (Option Wide) Refusal} (y : Result (Option Wide) Refusal) → at x → (Passed w ts ms n (suc i) → From y) → From (or_then x y)
    unfolding or_then wide_at wide_of Passed InTime Narrow ClosedAt
    by_sort y (passes e k) on = on (λ j l. by_order i j (λ m. let same : j ≡ i = omega (arith, l, m) in rw same (e, k)) (λ m. before j m))
    by_sort y (is_wide {g} c e h o) on =
        record {
          wide = λ s q.
              let is : wide_as (seam_left w i) (seam_right w i) g ≡ s = cc in
              record { seam = i; is = rw (← is) (record { place = place; left = refl; right = refl; closed = c; in_time = e; half_gap = h; over = o; passed = before }) };
          none_wide = λ q z. let f : ◌≡◌ {A = ℕ} 0 1 = cc in absurd (never f);
          late = λ k. absurd (k refl);
        }
    by_sort y (is_late k) on =
        record {
          wide = λ s q. let f : ◌≡◌ {A = ℕ} 0 1 = cc in absurd (never f);
          none_wide = λ q z. let f : ⊥ = omega (arith, z) in absurd f;
          late = λ _. (refl, record { seam = i; is = record { place = place; late = k; passed = before } });
        }

  from : (m i : ℕ) → m + i ≡ suc w → Passed w ts ms n i → From (first_from n w ts ms m i)
  unfolding first_from wide_of seam_first
  from zero i e before =
      record {
        wide = λ s q. let f : ◌≡◌ {A = ℕ} 0 1 = cc in absurd (never f);
        none_wide = λ _ _. subst (λ (k : ℕ). Passed w ts ms n k) (omega (arith, e)) before;
        late = λ k. absurd (k refl);
      }
  from (suc m) i e before =
      let l = get_or ts (seam_left w i) 0 in
      let r = get_or ts (seam_right w i) 0 in
      by_sort i (omega (arith, e)) before _ (sorted n (seam_left w i) (seam_right w i) l r (marked ms (seam_left w i)) (marked ms (seam_right w i))) (λ passed. from m (suc i) (omega (arith, e)) passed)

  pub all : From (row_first n w ts ms)
  unfolding row_first Passed
  all = from (suc w) 0 (omega arith) (λ j l. let none : ⊥ = omega (arith, l) in absurd none)
