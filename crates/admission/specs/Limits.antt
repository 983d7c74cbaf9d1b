-- The limits of a row call in numbers and inequalities alone, apart from the tests of the refusals. Assumes nothing.
use Rattle.std.specs.Prelude.{◌≡◌, ◌↔◌, ◌⊎◌, true, false, List, ℕ, ◌+◌, ◌-◌, ◌*◌, ◌≤◌, ◌<◌, length, get_or}
use Rattle.settings.specs.Limits.{Limits}
use Rattle.settings.specs.declared.Settings.{Settings}
use Rattle.columns.specs.Marks.{marked}
use Rattle.admission.specs.Call.{Call}
use Rattle.admission.specs.Refusal.{row_refusal}

-- §1.3 column k is a predecessor of a tile in column c: c itself, the columns beside it, and the third from an end for that end, and
-- the other way round
pub data Hears (w c k : ℕ) : Type 0 where
  own : k ≡ c → Hears w c k
  next : k ≡ c + 1 → Hears w c k
  previous : k + 1 ≡ c → Hears w c k
  first_third : c ≡ 0 → k ≡ 2 → Hears w c k
  third_first : c ≡ 2 → k ≡ 0 → Hears w c k
  third_last : c + 3 ≡ w → k + 1 ≡ w → Hears w c k
  last_third : c + 1 ≡ w → k + 3 ≡ w → Hears w c k

-- §7.3 the link value to tile c from its predecessor k is number n of the row, counted tile after tile, senders from left to right:
-- each tile has three, and those in columns 2 and W - 3 have four
pub data LinkAt (w c k n : ℕ) : Type 0 where
  to_first_three : c ≤ 2 → n ≡ 3 * c + k → LinkAt w c k n
  to_others : 3 ≤ c → c + 3 ≤ w → n ≡ 2 * c + k + 2 → LinkAt w c k n
  to_last_two : w ≤ c + 2 → n + w ≡ 3 * c + k + 5 → LinkAt w c k n

-- §7.4 marks, drifts, phases (§E4.3) and link values within their limits
pub record TileLimits (s : Settings) (marks drifts phases links : List ℕ) : Type 0 where
  -- no mark past the last column
  pub no_stray : (k : ℕ) → s.width ≤ k → marked marks k ≡ false
  -- of a tile's predecessors one at most is faulty
  pub one_faulty : (c j k : ℕ) → c < s.width → j < s.width → k < s.width → Hears s.width c j → Hears s.width c k →
      marked marks j ≡ true → marked marks k ≡ true → j ≡ k
  -- each drift is at most r
  pub slow : (c : ℕ) → c < s.width → get_or drifts c 0 ≤ s.drift
  -- each phase is at most 999,999
  pub in_phase : (c : ℕ) → c < s.width → get_or phases c 0 ≤ 999999
  -- a correct sender's link value is a delay from d - u to d
  pub delay : (c k n : ℕ) → c < s.width → k < s.width → Hears s.width c k → LinkAt s.width c k n → marked marks k ≡ false →
      (s.delay - s.uncertainty ≤ get_or links n 0) × (get_or links n 0 ≤ s.delay)
  -- a faulty sender's is an arrival up to 2^40 - 1, or 2^64 - 1 for silence
  pub arrival : (c k n : ℕ) → c < s.width → k < s.width → Hears s.width c k → LinkAt s.width c k n → marked marks k ≡ true →
      (get_or links n 0 ≤ 1099511627775) ⊎ (get_or links n 0 ≡ 18446744073709551615)

-- §7.4 a row call within its limits: W times of the row before, W / 8 rounded up bytes of marks, W drifts, W phases (§E4.2),
-- 3W + 2 link values and room for W times and W letters (§E3.4); a correct tile's time is at most 2^40 - 1
pub record RowLimits (s : Settings) (before : List ℕ) (x : Call) : Type 0 where
  pub settings : Limits s
  pub before_long : length before ≡ s.width
  pub marks_long : (s.width ≤ 8 * length x.marks) × (8 * length x.marks ≤ s.width + 7)
  pub drifts_long : length x.drifts ≡ s.width
  pub phases_long : length x.phases ≡ s.width
  pub links_long : length x.links ≡ 3 * s.width + 2
  pub room_long : x.room ≡ s.width
  pub letters_long : x.letter_room ≡ s.width
  pub early : (c : ℕ) → c < s.width → marked x.marks c ≡ false → get_or before c 0 ≤ 1099511627775
  pub tiles : TileLimits s x.marks x.drifts x.phases x.links

-- §7.4 a row call keeps its limits exactly where it is not turned away
unfoldable pub RowPlain : Type 0
RowPlain = (s : Settings) (before : List ℕ) (x : Call) → RowLimits s before x ↔ (row_refusal s before x ≡ 0)
