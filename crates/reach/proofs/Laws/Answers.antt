-- Each answer by the inequalities that decide it. Assumes nothing.
use mathlib.Core.Path.{◌≡◌, refl, sym, ◌∙◌}
use Rattle.std.specs.Prelude.{Option, Some, None, Ok, Err}
use mathlib.Core.Bool.{true, false, not, ◌||◌, or-true, and-false}
use mathlib.Core.List.{List}
use mathlib.Core.Logic.{◌⊎◌, inl, inr}
use Prim.Native.Nat.{ℕ, ◌-◌, ◌≤◌, ◌<◌}
use lib.Dec.{eqb, ltb}
use lib.ListN.{length}
use native.Mathlib.Omega.{arith}
use borrow.Author.Tests.{eq-eqb, ne_eqb, lt-ltb, le-ltb}
use Rattle.settings.specs.Refusal.{first, or_else, answer}
use Rattle.settings.specs.Settings.{settings_cause, settings_refusal}
use Rattle.settings.specs.declared.Settings.{Settings}
use Rattle.settings.specs.declared.refusal.Refusal.{Refusal}
use Rattle.settings.specs.declared.refusal.Refusal.TheVariants.{Lengths}
use Rattle.settings.proofs.Laws.Refusal.{none_of}
use Rattle.settings.proofs.Laws.Settings.{limits}
use Rattle.rule.specs.Stamp.{latest_stamp}
use Rattle.runs.specs.Reach.{widest_gap}
use Rattle.reach.specs.Search.{gap_of, outside_wall, range_of, range_within, reach_of, reach_in_row}
use Rattle.reach.specs.Survey.{surveyed, with_reach, with_gap, surveyed_of, last_reach}
use Rattle.reach.specs.Answers.{gap_B, reached_outside, reached_ticks, reached_first, reached_last, surveyed_outside, surveyed_B, surveyed_largest, GapIs, ReachedIs, SurveyedIs, GapAnswer, ReachAnswer, RowAnswer, SurveyAnswer}
use Rattle.reach.proofs.Laws.Search.{by_gap}

-- settings that are turned away have a refusal, and others have none
module _ (s : Settings) where
  pub given : (settings_refusal s ≡ 0 → ⊥) → (r : Refusal) × (settings_cause s ≡ Some r)
  unfolding settings_refusal
  given n = go (settings_cause s) refl
    where
      go : (c : Option Refusal) → settings_cause s ≡ c → (r : Refusal) × (settings_cause s ≡ Some r)
      go None e = absurd (n (rw e))
      go (Some r) e = (r, e)

  pub passes : settings_refusal s ≡ 0 → settings_cause s ≡ None
  unfolding settings_refusal
  passes ok = none_of _ ok

-- B of a row
module _ (s : Settings) (row : List ℕ) where
  pub gap_refused : (r : Refusal) → settings_cause s ≡ Some r → gap_of s row ≡ Err r
  unfolding gap_of or_else answer
  gap_refused r e = rw e

  pub gap_unlike : settings_refusal s ≡ 0 → (length row ≡ s.width → ⊥) → gap_of s row ≡ Err Lengths
  unfolding gap_of first or_else answer
  gap_unlike ok n = rw (passes s ok, ne_eqb (length row) s.width n)

  pub gap_found : settings_refusal s ≡ 0 → length row ≡ s.width → gap_of s row ≡ Ok (widest_gap s.width row)
  unfolding gap_of first or_else answer
  gap_found ok e = rw (passes s ok, eq-eqb (length row) s.width e)

  pub gap_answer : GapAnswer s row
  unfolding GapIs gap_B settings_refusal
  gap_answer =
      record {
        settings = λ n. let g = given s n in rw (gap_refused g.0 g.1, g.1) (refl, refl);
        other_length = λ ok n. rw (gap_unlike ok n) (refl, refl);
        found = λ ok e. rw (gap_found ok e) (refl, refl);
      }

-- a reach: no row, no column or no gap, each by itself, is outside
module _ (s : Settings) (b n k : ℕ) where
  outside_row : (n ≡ 0) ⊎ (s.rows < n) → outside_wall s b n k ≡ true
  unfolding outside_wall
  outside_row (inl e) = rw (eq-eqb n 0 e)
  outside_row (inr i) = rw (lt-ltb s.rows n i, or-true (eqb n 0))

  outside_column : s.width ≤ k → outside_wall s b n k ≡ true
  unfolding outside_wall
  outside_column i = rw (le-ltb k s.width i) (or-true (eqb n 0 || ltb s.rows n))

  outside_gap : latest_stamp < b → outside_wall s b n k ≡ true
  unfolding outside_wall
  outside_gap i = rw (lt-ltb latest_stamp b i, or-true (not (ltb k s.width))) (or-true (eqb n 0 || ltb s.rows n))

  pub reach_refused : (r : Refusal) → settings_cause s ≡ Some r → reach_of s b n k ≡ Err r
  unfolding reach_of answer
  reach_refused r e = rw e

  pub reach_within : settings_refusal s ≡ 0 → reach_of s b n k ≡ Ok (range_within s b n k)
  unfolding reach_of answer
  reach_within ok = rw (passes s ok)

  pub reach_outside : settings_refusal s ≡ 0 → outside_wall s b n k ≡ true → reach_of s b n k ≡ Ok None
  unfolding reach_of range_within answer
  reach_outside ok e = rw (passes s ok, e)

  pub reach_inside : settings_refusal s ≡ 0 → outside_wall s b n k ≡ false → reach_of s b n k ≡ Ok (Some (range_of s b n k))
  unfolding reach_of range_within answer
  reach_inside ok e = rw (passes s ok, e)

  reach_found : settings_refusal s ≡ 0 → 0 < n → n ≤ s.rows → k < s.width → b ≤ latest_stamp → reach_of s b n k ≡ Ok (Some (range_of s b n k))
  reach_found ok i j l m =
      reach_inside ok (by_gap s b n k (λ z. omega (arith, z, i)) j l ∙ le-ltb latest_stamp b m)

  pub reach_answer : ReachAnswer s b n k
  unfolding ReachedIs reached_outside reached_ticks reached_first reached_last range_of settings_refusal
  reach_answer =
      record {
        settings = λ m. let g = given s m in rw (reach_refused g.0 g.1, g.1) (refl, refl, refl, refl, refl);
        no_row = λ ok i. rw (reach_outside ok (outside_row i)) (refl, refl, refl, refl, refl);
        no_column = λ ok i. rw (reach_outside ok (outside_column i)) (refl, refl, refl, refl, refl);
        no_gap = λ ok i. rw (reach_outside ok (outside_gap i)) (refl, refl, refl, refl, refl);
        found = λ ok i j l m. rw (reach_found ok i j l m) (refl, refl, refl, refl, refl);
      }

-- in a row of the wall
module _ (s : Settings) (b f l k : ℕ) where
  pub row_refused : (r : Refusal) → settings_cause s ≡ Some r → reach_in_row s b f l k ≡ Err r
  unfolding reach_in_row answer
  row_refused r e = rw e

  pub row_outside : settings_refusal s ≡ 0 → (l ≤ f) ⊎ (s.rows < l) → reach_in_row s b f l k ≡ Ok None
  unfolding reach_in_row answer
  row_outside ok (inl i) = rw (passes s ok, le-ltb f l i)
  row_outside ok (inr i) = rw (passes s ok, lt-ltb s.rows l i, and-false (ltb f l))

  pub row_within : settings_refusal s ≡ 0 → f < l → l ≤ s.rows → reach_in_row s b f l k ≡ Ok (range_within s b (l - f) k)
  unfolding reach_in_row answer
  row_within ok i j = rw (passes s ok, lt-ltb f l i, le-ltb s.rows l j)

  pub row_later : settings_refusal s ≡ 0 → f < l → l ≤ s.rows → reach_in_row s b f l k ≡ reach_of s b (l - f) k
  row_later ok i j = row_within ok i j ∙ sym (reach_within s b (l - f) k ok)

  pub row_answer : RowAnswer s b f l k
  unfolding ReachedIs reached_outside reached_ticks reached_first reached_last settings_refusal
  row_answer =
      record {
        settings = λ m. let g = given s m in rw (row_refused g.0 g.1, g.1) (refl, refl, refl, refl, refl);
        no_row = λ ok i. rw (row_outside ok i) (refl, refl, refl, refl, refl);
        later = row_later;
      }

-- a survey
module _ (s : Settings) (l m : ℕ) (row : List ℕ) where
  abbrev b : ℕ
  b = widest_gap s.width row

  pub survey_answer : SurveyAnswer s l m row
  unfolding SurveyedIs surveyed_outside surveyed_B surveyed_largest surveyed_of surveyed with_gap with_reach last_reach range_of settings_refusal
  survey_answer =
      record {
        settings = λ n. let g = given s n in rw (gap_refused s row g.0 g.1, g.1) (refl, refl, refl, refl);
        other_length = λ ok n. rw (gap_unlike s row ok n) (refl, refl, refl, refl);
        no_row = λ ok e i. let none : s.rows - l ≡ 0 = omega (arith, i) in
            rw (gap_found s row ok e, reach_outside s b (s.rows - l) 0 ok (outside_row s b (s.rows - l) 0 (inl none))) (refl, refl, refl, refl);
        no_gap = λ ok e i. rw (gap_found s row ok e, reach_outside s b (s.rows - l) 0 ok (outside_gap s b (s.rows - l) 0 i)) (refl, refl, refl, refl);
        found = λ ok e i j. let wide = (limits s ok).width in
            rw (gap_found s row ok e, reach_found s b (s.rows - l) 0 ok (omega (arith, i)) (omega (arith, i)) (omega (arith, wide)) j) (refl, refl, refl, refl);
      }
