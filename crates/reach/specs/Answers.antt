-- What the answers say: their number, whether they lie outside the wall, and each of their values. The statements are proved in
-- proofs/Promises.antt, under their names in small letters. Assumes nothing.
use Rattle.std.specs.Prelude.{◌≡◌, Bool, true, false, List, ◌⊎◌, ℕ, ◌-◌, ◌≤◌, ◌<◌, max, length, Option, Some, None, Result, Ok, Err}
use Rattle.std.proofs.Math.Option.{none, some}
use Rattle.std.proofs.Math.Option as maybe
use Rattle.settings.specs.Refusal.{number_in}
use Rattle.settings.specs.Settings.{settings_refusal}
use Rattle.settings.specs.declared.Settings.{Settings}
use Rattle.settings.specs.declared.refusal.Refusal.{Refusal}
use Rattle.rule.specs.Stamp.{latest_stamp}
use Rattle.runs.specs.Reach.{widest_gap, reach_ticks}
use Rattle.reach.specs.Span.{first_within, last_within}
use Rattle.reach.specs.Search.{gap_of, reach_of, reach_in_row}
use Rattle.reach.specs.Survey.{surveyed_of, last_reach}
use Rattle.reach.specs.declared.Range.{Range}
use Rattle.reach.specs.declared.survey.Surveyed.{Surveyed}

-- §13.3 the B that an answer has
unfoldable pub gap_B : Result ℕ Refusal → maybe.Option ℕ
gap_B (Ok b) = some b
gap_B (Err n) = none

-- §13.3 whether a reach is outside the wall
unfoldable pub reached_outside : Result (Option Range) Refusal → Bool
reached_outside (Ok (Some x)) = false
reached_outside (Ok None) = true
reached_outside (Err n) = false

-- §13.3 its ticks
unfoldable pub reached_ticks : Result (Option Range) Refusal → maybe.Option ℕ
reached_ticks (Ok (Some x)) = some x.ticks
reached_ticks (Ok None) = none
reached_ticks (Err n) = none

-- §13.3 its first column
unfoldable pub reached_first : Result (Option Range) Refusal → maybe.Option ℕ
reached_first (Ok (Some x)) = some x.first
reached_first (Ok None) = none
reached_first (Err n) = none

-- §13.3 its last column
unfoldable pub reached_last : Result (Option Range) Refusal → maybe.Option ℕ
reached_last (Ok (Some x)) = some x.last
reached_last (Ok None) = none
reached_last (Err n) = none

-- §13.3 whether a survey is outside the wall
unfoldable pub surveyed_outside : Result (Option Surveyed) Refusal → Bool
surveyed_outside (Ok (Some x)) = false
surveyed_outside (Ok None) = true
surveyed_outside (Err n) = false

-- §13.3 its B
unfoldable pub surveyed_B : Result (Option Surveyed) Refusal → maybe.Option ℕ
surveyed_B (Ok (Some x)) = some x.gap
surveyed_B (Ok None) = none
surveyed_B (Err n) = none

-- §13.3 its largest reach
unfoldable pub surveyed_largest : Result (Option Surveyed) Refusal → maybe.Option ℕ
surveyed_largest (Ok (Some x)) = some x.largest
surveyed_largest (Ok None) = none
surveyed_largest (Err n) = none

-- §13.3 an answer for B by its number and value
unfoldable pub GapIs : Result ℕ Refusal → (number : ℕ) → (B : maybe.Option ℕ) → Type 0
GapIs a n b = (number_in a ≡ n) × (gap_B a ≡ b)

-- §13.3 a reach by its number and values
unfoldable pub ReachedIs : Result (Option Range) Refusal → (number : ℕ) → (outside : Bool) → (ticks first last : maybe.Option ℕ) → Type 0
ReachedIs a n o t i j =
    (number_in a ≡ n) × (reached_outside a ≡ o) × (reached_ticks a ≡ t) × (reached_first a ≡ i) × (reached_last a ≡ j)

-- §13.3 a survey by its number and values
unfoldable pub SurveyedIs : Result (Option Surveyed) Refusal → (number : ℕ) → (outside : Bool) → (B largest : maybe.Option ℕ) → Type 0
SurveyedIs a n o b m =
    (number_in a ≡ n) × (surveyed_outside a ≡ o) × (surveyed_B a ≡ b) × (surveyed_largest a ≡ m)

-- §15.1 1 to 9; 21 for a row that has not W times; otherwise B
pub record GapAnswer (s : Settings) (row : List ℕ) : Type 0 where
  pub settings : (settings_refusal s ≡ 0 → ⊥) → GapIs (gap_of s row) (settings_refusal s) none
  pub other_length : settings_refusal s ≡ 0 → (length row ≡ s.width → ⊥) → GapIs (gap_of s row) 21 none
  pub found : settings_refusal s ≡ 0 → length row ≡ s.width → GapIs (gap_of s row) 0 (some (widest_gap s.width row))

-- §13.4 all settings and rows are answered so
unfoldable pub GapAnswered : Type 0
GapAnswered = (s : Settings) (row : List ℕ) → GapAnswer s row

-- §15.2 n rows later, of a tile of column k, where B is b: 1 to 9; outside where n is not 1 to R, k is no column, or b is over 2^41 - 1;
-- otherwise the ticks of §12.3, and the columns within n hops (`SpanRight`)
pub record ReachAnswer (s : Settings) (b n k : ℕ) : Type 0 where
  pub settings : (settings_refusal s ≡ 0 → ⊥) → ReachedIs (reach_of s b n k) (settings_refusal s) false none none none
  pub no_row : settings_refusal s ≡ 0 → (n ≡ 0) ⊎ (s.rows < n) → ReachedIs (reach_of s b n k) 0 true none none none
  pub no_column : settings_refusal s ≡ 0 → s.width ≤ k → ReachedIs (reach_of s b n k) 0 true none none none
  pub no_gap : settings_refusal s ≡ 0 → latest_stamp < b → ReachedIs (reach_of s b n k) 0 true none none none
  pub found : settings_refusal s ≡ 0 → 0 < n → n ≤ s.rows → k < s.width → b ≤ latest_stamp →
      ReachedIs (reach_of s b n k) 0 false (some (reach_ticks s b n)) (some (first_within s.width k n)) (some (last_within s.width k n))

-- §15.2 of rows f and L the same, L - f rows later; outside where L is no later row of the wall
pub record RowAnswer (s : Settings) (b f l k : ℕ) : Type 0 where
  pub settings : (settings_refusal s ≡ 0 → ⊥) → ReachedIs (reach_in_row s b f l k) (settings_refusal s) false none none none
  pub no_row : settings_refusal s ≡ 0 → (l ≤ f) ⊎ (s.rows < l) → ReachedIs (reach_in_row s b f l k) 0 true none none none
  pub later : settings_refusal s ≡ 0 → f < l → l ≤ s.rows → reach_in_row s b f l k ≡ reach_of s b (l - f) k

-- §13.4 all settings, gaps, rows and columns are answered so
unfoldable pub ReachAnswered : Type 0
ReachAnswered = (s : Settings) (b f l n k : ℕ) → ReachAnswer s b n k × RowAnswer s b f l k

-- §15.3 row l, with the largest reach m of the rows before it: 1 to 9, 21; outside where l is not before R, or B is over 2^41 - 1;
-- otherwise B, and the larger of m and the reach in row R
pub record SurveyAnswer (s : Settings) (l m : ℕ) (row : List ℕ) : Type 0 where
  pub settings : (settings_refusal s ≡ 0 → ⊥) → SurveyedIs (surveyed_of s l m row) (settings_refusal s) false none none
  pub other_length : settings_refusal s ≡ 0 → (length row ≡ s.width → ⊥) → SurveyedIs (surveyed_of s l m row) 21 false none none
  pub no_row : settings_refusal s ≡ 0 → length row ≡ s.width → s.rows ≤ l → SurveyedIs (surveyed_of s l m row) 0 true none none
  pub no_gap : settings_refusal s ≡ 0 → length row ≡ s.width → latest_stamp < widest_gap s.width row →
      SurveyedIs (surveyed_of s l m row) 0 true none none
  pub found : settings_refusal s ≡ 0 → length row ≡ s.width → l < s.rows → widest_gap s.width row ≤ latest_stamp →
      SurveyedIs (surveyed_of s l m row) 0 false (some (widest_gap s.width row)) (some (max m (last_reach s l row)))

-- §13.4 all settings, rows and largest so far are answered so
unfoldable pub SurveyAnswered : Type 0
SurveyAnswered = (s : Settings) (l m : ℕ) (row : List ℕ) → SurveyAnswer s l m row
