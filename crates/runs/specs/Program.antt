-- The reach of a faulty tile, of the program: lists of calls of the row operation itself, known by its contract alone. Assumes nothing.
use Rattle.std.specs.Prelude.{◌≡◌, List, [], ◌∷◌, ℕ, length, Result}
use Rattle.settings.specs.declared.Settings.{Settings}
use Rattle.settings.specs.declared.refusal.Refusal.{Refusal}
use Rattle.settings.specs.Refusal.{number_in}
use Rattle.admission.specs.Call.{Call, call}
use Rattle.row.specs.Row.{Pulses, planned, written, lettered}
use Rattle.runs.specs.Reach.{Alike, AlikeAmong, TwoRuns, Reach}
use Rattle.row.specs.declared.Ends.{Ends}

-- §13.4 the call that `plan` is given, with the lengths of the rows to write
abbrev pub call_with : (marks drifts phases links : List ℕ) → (held : Pulses) → Call
call_with ms ds qs ls held = call ms ds qs ls (length held.times) (length held.letters)

-- §13.4 what `plan` ensures of a call: its answer, and what the lent rows hold afterwards
pub record Ensured (s : Settings) (before marks drifts phases links : List ℕ) (held : Pulses) (answer : Result Ends Refusal) (after : Pulses) : Type 0 where
  pub answered : answer ≡ planned s before (call_with marks drifts phases links held)
  pub wrote : after.times ≡ written s before (call_with marks drifts phases links held) held.times
  pub letters : after.letters ≡ lettered s before (call_with marks drifts phases links held) held.letters

-- §11.1 calls of `plan`, from a row on. An accepted one hands the row that it wrote on to the next; whether it is accepted is
-- taken from its answer, the row from what it wrote. `xs` are the accepted calls, `rs` their rows.
pub data Calls (s : Settings) : (row : List ℕ) → (xs : List Call) → (rs : List (List ℕ)) → Type 0 where
  done : {ts : List ℕ} → Calls s ts [] []
  refused : {ts : List ℕ} {xs : List Call} {rs : List (List ℕ)} (marks drifts phases links : List ℕ) (held : Pulses) (answer : Result Ends Refusal) (after : Pulses) →
      Ensured s ts marks drifts phases links held answer after → (number_in answer ≡ 0 → ⊥) → Calls s ts xs rs → Calls s ts xs rs
  accepted : {ts : List ℕ} {xs : List Call} {rs : List (List ℕ)} (marks drifts phases links : List ℕ) (held : Pulses) (answer : Result Ends Refusal) (after : Pulses) →
      Ensured s ts marks drifts phases links held answer after → number_in answer ≡ 0 → Calls s after.times xs rs →
      Calls s ts (call_with marks drifts phases links held ∷ xs) (after.times ∷ rs)

-- §12.3 the reach of one faulty tile, of the rows that a caller of `plan` holds
unfoldable pub ProgramOneFault : Type 0
ProgramOneFault =
    (s : Settings) (ts : List ℕ) (xs ys : List Call) (rs qs : List (List ℕ)) (f k : ℕ) → Calls s ts xs rs → Calls s ts ys qs →
    TwoRuns Alike s.width f k xs ys → Reach s ts f k rs qs

-- §12.3 the same where other tiles are faulty too
unfoldable pub ProgramOneMoreFault : Type 0
ProgramOneMoreFault =
    (s : Settings) (ts : List ℕ) (xs ys : List Call) (rs qs : List (List ℕ)) (f k : ℕ) → Calls s ts xs rs → Calls s ts ys qs →
    TwoRuns AlikeAmong s.width f k xs ys → Reach s ts f k rs qs
