-- How far one broken tile reaches: the widest gap of its row, and its reach in a later row in ticks and in columns.
-- Assumes nothing.
use Rattle.std.specs.Prelude.{Bool, cond, not, ◌&&◌, ◌||◌, List, [], ◌∷◌, ℕ, ◌-◌, eqb, ltb, length, Option, Some, None, Result}
use Rattle.settings.specs.Refusal.{◌when◌, first, or_else, answer}
use Rattle.settings.specs.Settings.{settings_cause}
use Rattle.rule.specs.Stamp.{latest_stamp}
use Rattle.settings.specs.declared.Settings.{Settings}
use Rattle.settings.specs.declared.refusal.Refusal.{Refusal}
use Rattle.settings.specs.declared.refusal.Refusal.TheVariants.{Lengths}
use Rattle.runs.specs.Reach.{widest_gap, reach_ticks}
use Rattle.reach.specs.Span.{first_within, last_within}
use Rattle.reach.specs.declared.Range.{Range}

-- §15.1 B of a row, or 1 to 9, 21
unfoldable pub gap_of : Settings → (row : List ℕ) → Result ℕ Refusal
gap_of s ts =
    answer (or_else (settings_cause s) (first (Lengths when not (eqb (length ts) s.width) ∷ []))) (widest_gap s.width ts)

-- §15.2 no later row of the wall, no column of it, or a gap over 2^41 - 1
unfoldable pub outside_wall : Settings → (gap rows column : ℕ) → Bool
outside_wall s b n k = (eqb n 0 || ltb s.rows n) || (not (ltb k s.width) || ltb latest_stamp b)

-- §15.2 the record of the ticks and columns that a broken tile reaches so many rows later
unfoldable pub range_of : Settings → (gap rows column : ℕ) → Range
range_of s b n k = record { ticks = reach_ticks s b n; first = first_within s.width k n; last = last_within s.width k n }

-- §15.2 the same of a wall that is not turned away, or that it is outside
unfoldable pub range_within : Settings → (gap rows column : ℕ) → Option Range
range_within s b n k = cond (outside_wall s b n k) None (Some (range_of s b n k))

-- §15.2 the ticks and columns that a broken tile reaches so many rows later, or 1 to 9, or that it is outside
unfoldable pub reach_of : Settings → (gap rows column : ℕ) → Result (Option Range) Refusal
reach_of s b n k = answer (settings_cause s) (range_within s b n k)

-- §15.2 for rows f and L: L is a later row of the wall
unfoldable pub reach_in_row : Settings → (gap f later column : ℕ) → Result (Option Range) Refusal
reach_in_row s b f l k =
    answer (settings_cause s) (cond (ltb f l && not (ltb s.rows l)) (range_within s b (l - f) k) None)
