-- The largest reach over rows, and that each row of a wall is surveyed. Assumes nothing.
use mathlib.Core.Path.{◌≡◌, refl, sym, ◌∙◌, ap}
use mathlib.Core.Bool.{Bool, true, false, cond}
use mathlib.Core.List.{List, [], ◌∷◌}
use Prim.Native.Nat.{ℕ, zero, suc, ◌+◌, ◌-◌, ◌≤◌, ◌<◌, max}
use lib.ListN.{length, get_or, take}
use native.Mathlib.Omega.{arith}
use borrow.Author.Tests.{le-ltb}
use Rattle.std.specs.Prelude.{Option, Some, None, Result, Ok, Err}
use Rattle.settings.specs.Settings.{settings_cause, settings_refusal}
use Rattle.rule.specs.Stamp.{latest_stamp}
use Rattle.settings.specs.declared.Settings.{Settings}
use Rattle.settings.specs.declared.refusal.Refusal.{Refusal}
use Rattle.settings.proofs.Laws.Refusal.{passed, accepted}
use Rattle.settings.proofs.Laws.Settings.{limits}
use Rattle.runs.specs.Run.{row_at}
use Rattle.runs.specs.Reach.{widest_gap}
use Rattle.reach.specs.Search.{gap_of, range_of, range_within, reach_of, outside_wall}
use Rattle.reach.specs.Survey.{surveyed, with_reach, with_gap, surveyed_of, last_reach, largest_of}
use Rattle.reach.specs.declared.Range.{Range}
use Rattle.reach.specs.declared.survey.Surveyed.{Surveyed}
use Rattle.reach.proofs.Laws.Gap.{gap_small}
use Rattle.reach.proofs.Laws.Search.{by_gap, in_wall}
use Rattle.reach.proofs.Laws.Answers.{gap_found, reach_inside}

module _ (s : Settings) (ok : settings_refusal s ≡ 0) where
  pub row_surveyed : (l m : ℕ) (ts : List ℕ) → l < s.rows → length ts ≡ s.width → ((c : ℕ) → c < s.width → get_or ts c 0 ≤ latest_stamp) →
      surveyed_of s l m ts ≡ Ok (Some (surveyed (widest_gap s.width ts) (max m (last_reach s l ts))))
  unfolding last_reach surveyed_of with_gap with_reach range_of
  row_surveyed l m ts i long early =
      let w = s.width in
      let b = widest_gap w ts in
      let small = gap_small w ts early in
      let wide = (limits s ok).width in
      let inside : outside_wall s b (s.rows - l) 0 ≡ false =
      by_gap s b (s.rows - l) 0 (λ z. omega (arith, z, i)) (omega (arith, i)) (omega (arith, wide)) ∙ le-ltb latest_stamp b small in
      rw (gap_found s ts ok long, reach_inside s b (s.rows - l) 0 ok inside)

-- a row that is surveyed is one before the last
module _ (s : Settings) (l m : ℕ) where
  -- what has a range lies in the wall
  is_inside : (b n : ℕ) (r : Range) → range_within s b n 0 ≡ Some r → outside_wall s b n 0 ≡ false
  unfolding range_within
  is_inside b n r e = go (outside_wall s b n 0) refl e
    where
      go : (p : Bool) → outside_wall s b n 0 ≡ p → cond p None (Some (range_of s b n 0)) ≡ Some r → outside_wall s b n 0 ≡ false
      go true d z = cc z
      go false d z = d

  reached_later : (b n : ℕ) (r : Range) → reach_of s b n 0 ≡ Ok (Some r) → (settings_refusal s ≡ 0) × (0 < n)
  unfolding reach_of settings_refusal
  reached_later b n r e =
      let ok = passed (settings_cause s) (range_within s b n 0) e in
      let z : ◌≡◌ {A = Result (Option Range) Refusal} (Ok (range_within s b n 0)) (Ok (Some r)) = sym (accepted (settings_cause s) (range_within s b n 0) ok) ∙ e in
      let v : range_within s b n 0 ≡ Some r = cc z in
      (ok, (in_wall s b n 0 (is_inside b n r v)).some)

  pub surveyed_early : (ts : List ℕ) (x : Surveyed) → surveyed_of s l m ts ≡ Ok (Some x) → (settings_refusal s ≡ 0) × (l < s.rows)
  unfolding surveyed_of with_gap with_reach
  surveyed_early ts x e = by_gap_of (gap_of s ts) e
    where
      by_reach : (g : ℕ) (a : Result (Option Range) Refusal) → reach_of s g (s.rows - l) 0 ≡ a → with_reach g m a ≡ Ok (Some x) → (settings_refusal s ≡ 0) × (l < s.rows)
      by_reach g (Ok (Some r)) d z = let (p, q) = reached_later g (s.rows - l) r d in (p, omega (arith, q))
      by_reach g (Ok None) d z = absurd (cc z)
      by_reach g (Err k) d z = absurd (cc z)

      by_gap_of : (g : Result ℕ Refusal) → with_gap s l m g ≡ Ok (Some x) → (settings_refusal s ≡ 0) × (l < s.rows)
      by_gap_of (Ok g) z = by_reach g (reach_of s g (s.rows - l) 0) refl z
      by_gap_of (Err k) z = absurd (cc z)

-- the largest is no smaller than any
module _ (s : Settings) where
  pub largest_more : (l m : ℕ) (rs : List (List ℕ)) → m ≤ largest_of s l m rs
  unfolding largest_of
  largest_more l m [] = omega arith
  largest_more l m (ts ∷ rs) = let rest = largest_more (suc l) (max m (last_reach s l ts)) rs in omega (arith, rest)

  pub largest_each : (l m f : ℕ) (rs : List (List ℕ)) → f < length rs → last_reach s (l + f) (get_or rs f []) ≤ largest_of s l m rs
  unfolding largest_of
  largest_each l m f [] i = let never : ⊥ = omega arith in absurd never
  largest_each l m zero (ts ∷ rs) i =
      let rest = largest_more (suc l) (max m (last_reach s l ts)) rs in
      let here : l + 0 ≡ l = omega arith in
      rw here (omega (arith, rest))
  largest_each l m (suc f) (ts ∷ rs) i =
      let rest = largest_each (suc l) (max m (last_reach s l ts)) f rs (omega arith) in
      let here : l + suc f ≡ suc l + f = omega arith in
      rw here rest

-- the rows before the last
pub taken_length : {A : Type 0} (n : ℕ) (xs : List A) → n ≤ length xs → length (take n xs) ≡ n
taken_length zero xs i = refl
taken_length (suc n) [] i = let never : ⊥ = omega arith in absurd never
taken_length (suc n) (x ∷ xs) i = ap suc (taken_length n xs (omega arith))

pub taken_at : {A : Type 0} (n f : ℕ) (xs : List A) (d : A) → f < n → get_or (take n xs) f d ≡ get_or xs f d
taken_at zero f xs d i = let never : ⊥ = omega arith in absurd never
taken_at (suc n) f [] d i = refl
taken_at (suc n) zero (x ∷ xs) d i = refl
taken_at (suc n) (suc f) (x ∷ xs) d i = taken_at n f xs d (omega arith)

pub row_is : (ts : List ℕ) (rs : List (List ℕ)) (f : ℕ) → get_or (ts ∷ rs) f [] ≡ row_at ts rs f
unfolding row_at
row_is ts rs zero = refl
row_is ts rs (suc f) = refl
