-- The largest reach over a wall: its rows are gone through in their order, from row 0 to the last but one. Assumes nothing.
use Rattle.std.specs.Prelude.{◌≡◌, List, [], ◌∷◌, ℕ, suc, ◌-◌, ◌≤◌, ◌<◌, max, length, get_or, Option, Some, None, Result, Ok, Err}
use Rattle.settings.specs.Settings.{settings_refusal}
use Rattle.rule.specs.Stamp.{latest_stamp}
use Rattle.settings.specs.declared.Settings.{Settings}
use Rattle.settings.specs.declared.refusal.Refusal.{Refusal}
use Rattle.runs.specs.Reach.{widest_gap, reach_ticks}
use Rattle.reach.specs.Search.{gap_of, reach_of}
use Rattle.reach.specs.declared.Range.{Range}
use Rattle.reach.specs.declared.survey.Surveyed.{Surveyed}

-- §15.3 the record of B of a row and the largest reach so far
unfoldable pub surveyed : (gap largest : ℕ) → Surveyed
surveyed b m = record { gap = b; largest = m }

-- §15.3 B of a row, and the larger of its reach and the largest before it
unfoldable pub with_reach : (gap largest : ℕ) → Result (Option Range) Refusal → Result (Option Surveyed) Refusal
with_reach b m (Ok (Some r)) = Ok (Some (surveyed b (max m r.ticks)))
with_reach b m (Ok None) = Ok None
with_reach b m (Err n) = Err n

-- §15.3 the reach of row l is that in the last row, R - l rows later
unfoldable pub with_gap : Settings → (l largest : ℕ) → Result ℕ Refusal → Result (Option Surveyed) Refusal
with_gap s l m (Ok b) = with_reach b m (reach_of s b (s.rows - l) 0)
with_gap s l m (Err n) = Err n

-- §15.3 row l, with the largest reach of the rows before it
unfoldable pub surveyed_of : Settings → (l largest : ℕ) → (row : List ℕ) → Result (Option Surveyed) Refusal
surveyed_of s l m ts = with_gap s l m (gap_of s ts)

-- §15.3 the reach of a row l in the last row
unfoldable pub last_reach : Settings → (l : ℕ) → (row : List ℕ) → ℕ
last_reach s l ts = reach_ticks s (widest_gap s.width ts) (s.rows - l)

-- §15.3 the largest reach of rows from row l on
unfoldable pub largest_of : Settings → (l largest : ℕ) → (rows : List (List ℕ)) → ℕ
largest_of s l m [] = m
largest_of s l m (ts ∷ rs) = largest_of s (suc l) (max m (last_reach s l ts)) rs

-- §15.3 each row of a wall is surveyed: its times are those of W tiles, below 2^41
unfoldable pub RowSurveyed : Type 0
RowSurveyed =
    (s : Settings) (l m : ℕ) (ts : List ℕ) → settings_refusal s ≡ 0 → l < s.rows → length ts ≡ s.width →
    ((c : ℕ) → c < s.width → get_or ts c 0 ≤ latest_stamp) →
    surveyed_of s l m ts ≡ Ok (Some (surveyed (widest_gap s.width ts) (max m (last_reach s l ts))))
