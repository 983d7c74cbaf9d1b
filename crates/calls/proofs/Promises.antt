-- The proofs of what specs/Promises.antt states. Assumes nothing.
use mathlib.Core.Path.{◌≡◌, refl}
use mathlib.Core.List.{List, [], ◌∷◌}
use Prim.Native.Nat.{ℕ, suc, ◌+◌, ◌≤◌, ◌<◌, max}
use lib.ListN.{length, get_or}
use native.Mathlib.Omega.{arith}
use Rattle.settings.specs.Settings.{settings_refusal}
use Rattle.settings.specs.declared.Settings.{Settings}
use Rattle.runs.specs.Reach.{widest_gap}
use Rattle.reach.specs.Survey.{surveyed, surveyed_of, last_reach, largest_of}
use Rattle.reach.proofs.Laws.Survey.{row_surveyed}
use Rattle.calls.specs.Answers.{left_within, survey_left}
use Rattle.calls.specs.Promises.{surveys, OfWall, SurveysLargest}

module _ (s : Settings) (ok : settings_refusal s ≡ 0) where
  -- from row l on, with the largest m
  abbrev Ends : (l m : ℕ) (rows : List (List ℕ)) (survey : List ℕ) → Type 0
  Ends l m rs held = (get_or held 0 0 ≡ l + length rs) × (get_or held 2 0 ≡ largest_of s l m rs)

  one : (l b m : ℕ) (ts : List ℕ) → l < s.rows → OfWall s ts →
      survey_left (surveyed_of s l m ts) (l ∷ b ∷ m ∷ []) ≡ (l + 1) ∷ widest_gap s.width ts ∷ max m (last_reach s l ts) ∷ []
  unfolding survey_left left_within surveyed
  one l b m ts i w = rw (row_surveyed s ok l m ts i w.long w.early)

  from : (l b m : ℕ) (rs : List (List ℕ)) → l + length rs ≤ s.rows → ((f : ℕ) → f < length rs → OfWall s (get_or rs f [])) →
      Ends l m rs (surveys s rs (l ∷ b ∷ m ∷ []))
  unfolding surveys largest_of
  from l b m [] i w = (omega arith, refl)
  from l b m (ts ∷ rs) i w =
      let here = one l b m ts (omega (arith, i)) (w 0 (omega arith)) in
      let next : l + 1 ≡ suc l = omega arith in
      let rest = from (suc l) (widest_gap s.width ts) (max m (last_reach s l ts)) rs (omega (arith, i)) (λ f j. w (suc f) (omega (arith, j))) in
      rw (here, next) (omega (arith, rest.0), rest.1)

pub surveys_largest : SurveysLargest
unfolding SurveysLargest
surveys_largest s rs ok i w = let all = from s ok 0 0 0 rs (omega (arith, i)) w in (omega (arith, all.0), all.1)
