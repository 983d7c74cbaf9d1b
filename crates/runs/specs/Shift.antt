-- A wave that starts later: by how much its pulses can be later. Assumes nothing.
use Rattle.std.specs.Prelude.{◌≡◌, true, false, List, ℕ, ◌+◌, ◌≤◌, ◌<◌, length, get_or}
use Rattle.rule.specs.Stamp.{silence}
use Rattle.settings.specs.declared.Settings.{Settings}
use Rattle.columns.specs.Columns.{is_predecessor, link}
use Rattle.admission.specs.Call.{Call}
use Rattle.columns.specs.Marks.{marked}
use Rattle.runs.specs.Run.{accepted_calls, rows, call_at, row_at}

-- §11.7 the accepted calls of two runs alike but for faulty arrivals, which come n later in the second
pub record Later (w n : ℕ) (xs ys : List Call) : Type 0 where
  pub as_many : length xs ≡ length ys
  pub drifts : (l : ℕ) → l < length xs → (call_at xs l).drifts ≡ (call_at ys l).drifts
  pub phases : (l : ℕ) → l < length xs → (call_at xs l).phases ≡ (call_at ys l).phases
  pub marks : (l c : ℕ) → l < length xs → c < w → marked (call_at xs l).marks c ≡ marked (call_at ys l).marks c
  pub delays :
      (l c j : ℕ) → l < length xs → c < w → j < w → is_predecessor w c j ≡ true → marked (call_at xs l).marks j ≡ false →
      link w (call_at ys l).links c j ≡ link w (call_at xs l).links c j
  -- silence stays silence
  pub silences :
      (l c j : ℕ) → l < length xs → c < w → j < w → is_predecessor w c j ≡ true → marked (call_at xs l).marks j ≡ true →
      link w (call_at xs l).links c j ≡ silence → link w (call_at ys l).links c j ≡ silence
  pub arrivals :
      (l c j : ℕ) → l < length xs → c < w → j < w → is_predecessor w c j ≡ true → marked (call_at xs l).marks j ≡ true →
      (link w (call_at xs l).links c j ≡ silence → ⊥) →
      (link w (call_at ys l).links c j ≡ link w (call_at xs l).links c j + n) × (link w (call_at ys l).links c j ≡ silence → ⊥)

-- §11.7 with row 0 n later too, a pulse of row l is never earlier, and at most n + l later
unfoldable pub ShiftBounded : Type 0
ShiftBounded =
    (s : Settings) (ts us : List ℕ) (xs ys : List Call) (n : ℕ) → ((c : ℕ) → c < s.width → get_or us c 0 ≡ get_or ts c 0 + n) →
    Later s.width n (accepted_calls s xs ts) (accepted_calls s ys us) → (l c : ℕ) → l ≤ length (rows s xs ts) → c < s.width →
    (get_or (row_at ts (rows s xs ts) l) c 0 ≤ get_or (row_at us (rows s ys us) l) c 0)
    × (get_or (row_at us (rows s ys us) l) c 0 ≤ get_or (row_at ts (rows s xs ts) l) c 0 + (n + l))
