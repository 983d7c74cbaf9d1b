-- How late a pulse can be: bounds that keep every number small and a wall from being turned away half-way. Assumes nothing.
use Rattle.std.specs.Prelude.{◌≡◌, false, List, ℕ, ◌+◌, ◌*◌, ◌≤◌, ◌<◌, length, get_or}
use Rattle.settings.specs.Refusal.{any_below}
use Rattle.settings.specs.Settings.{settings_refusal}
use Rattle.settings.specs.declared.Settings.{Settings}
use Rattle.admission.specs.Call.{Call}
use Rattle.columns.specs.Marks.{marked}
use Rattle.pulse.specs.Pulse.{pulse}
use Rattle.admission.specs.Refusal.{late_time, row_refusal}
use Rattle.runs.specs.Run.{rows, row_at}

-- §12.1 a pulse is at most the latest correct time of the row before, and d + A + 3h
unfoldable pub PulseGrows : Type 0
PulseGrows =
    (s : Settings) (ts : List ℕ) (x : Call) (T c : ℕ) → row_refusal s ts x ≡ 0 → ((k : ℕ) → k < s.width → marked x.marks k ≡ false → get_or ts k 0 ≤ T) →
    c < s.width → pulse s ts x c ≤ T + (s.delay + s.hold + 3 * s.unit)

-- §8.4 so the times of an accepted row are below 2^41, and number 31 cannot arise
unfoldable pub RowSmall : Type 0
RowSmall = (s : Settings) (ts : List ℕ) (x : Call) (c : ℕ) → row_refusal s ts x ≡ 0 → c < s.width → pulse s ts x c ≤ 1099513815275

-- §12.1 from row 0 times up to 2^39 - 1 number 23 cannot arise in R rows, whatever the marks
unfoldable pub NeverLate : Type 0
NeverLate =
    (s : Settings) (ts : List ℕ) (xs : List Call) (l : ℕ) (ms : List ℕ) → settings_refusal s ≡ 0 →
    ((c : ℕ) → c < s.width → get_or ts c 0 ≤ 549755813887) → l ≤ length (rows s xs ts) → l ≤ 1024 →
    any_below s.width (late_time (row_at ts (rows s xs ts) l) ms) ≡ false
