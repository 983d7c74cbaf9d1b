-- The proofs of what specs/Promises.antt states. Assumes nothing.
use mathlib.Core.Path.{◌≡◌, refl, sym, ◌∙◌}
use mathlib.Core.List.{List}
use Prim.Native.Nat.{ℕ}
use native.Mathlib.Omega.{arith}
use borrow.Author.Tests.{eq-eqb, ne_eqb}
use Rattle.settings.specs.declared.Settings.{Settings}
use Rattle.std.specs.Prelude.{Result, Ok, Err, IsErrAnd}
use Rattle.settings.specs.declared.refusal.Refusal.{Refusal}
use Rattle.settings.specs.Refusal.{answer, number_in}
use Rattle.settings.proofs.Laws.Refusal.{answered_number, handed_on}
use Rattle.settings.proofs.Laws.Refusal.{accepted as answer_accepted}
use Rattle.settings.proofs.Laws.Settings.{limits}
use Rattle.admission.specs.Call.{Call}
use Rattle.row.specs.declared.Ends.{Ends}
use Rattle.row.specs.Row.{row_of, letters_of, least_of, most_of, ends_at, planned, written, lettered, earliest_of, latest_of}
use Rattle.row.specs.Promises.{RowAnswered, RowEnds, RunningEnds}
use Rattle.admission.specs.Refusal.{row_cause, row_refusal}
use Rattle.pulse.specs.Pulse.{pulsed_at}
use Rattle.admission.proofs.Laws.Accepted.{accepted}
use Rattle.pulse.proofs.Laws.Stampable.{pulse_small}
use Rattle.row.proofs.Laws.Ends.{list_ends}
use Rattle.row.proofs.Laws.Progress.{row_length, row_at, none_so_far, tile_more, so_far_ends, all_so_far, row_whole, letters_whole}

-- the answer and the row, accepted and refused
pub planned_accepted : (s : Settings) (ts : List ℕ) (x : Call) → row_refusal s ts x ≡ 0 → planned s ts x ≡ Ok (ends_at (least_of (row_of s ts x)) (most_of (row_of s ts x)))
unfolding planned row_refusal
planned_accepted s ts x e = answer_accepted (row_cause s ts x) _ e

-- a refusal of the check that is handed on
pub planned_refused : (s : Settings) (ts : List ℕ) (x : Call) (r : Result Ends Refusal) {q : Refusal} →
    IsErrAnd r (λ d. d ≡ q) → answer (row_cause s ts x) (tt {0}) ≡ Err q → r ≡ planned s ts x
unfolding planned
planned_refused s ts x r h e = handed_on r (row_cause s ts x) tt (ends_at (least_of (row_of s ts x)) (most_of (row_of s ts x))) h e

pub written_accepted : (s : Settings) (ts : List ℕ) (x : Call) (held : List ℕ) → row_refusal s ts x ≡ 0 → written s ts x held ≡ row_of s ts x
unfolding written
written_accepted s ts x held e = rw (eq-eqb (row_refusal s ts x) 0 e)

pub written_refused : (s : Settings) (ts : List ℕ) (x : Call) (held : List ℕ) → (row_refusal s ts x ≡ 0 → ⊥) → written s ts x held ≡ held
unfolding written
written_refused s ts x held n = rw (ne_eqb (row_refusal s ts x) 0 n)

pub lettered_accepted : (s : Settings) (ts : List ℕ) (x : Call) (held : List ℕ) → row_refusal s ts x ≡ 0 → lettered s ts x held ≡ letters_of s ts x
unfolding lettered
lettered_accepted s ts x held e = rw (eq-eqb (row_refusal s ts x) 0 e)

pub lettered_refused : (s : Settings) (ts : List ℕ) (x : Call) (held : List ℕ) → (row_refusal s ts x ≡ 0 → ⊥) → lettered s ts x held ≡ held
unfolding lettered
lettered_refused s ts x held n = rw (ne_eqb (row_refusal s ts x) 0 n)

-- the answer's number is the call's
pub planned_number : (s : Settings) (ts : List ℕ) (x : Call) → number_in (planned s ts x) ≡ row_refusal s ts x
unfolding planned row_refusal
planned_number s ts x = answered_number (row_cause s ts x) _

-- the answer
pub row_answered : RowAnswered
unfolding RowAnswered
row_answered s ts x held = (
  planned_number s ts x,
  λ n. (written_refused s ts x held.times n, lettered_refused s ts x held.letters n),
  λ e. (written_accepted s ts x held.times e, lettered_accepted s ts x held.letters e),
)

-- its earliest and latest time, as the row is filled
pub running_ends : RunningEnds
unfolding RunningEnds
running_ends s ts x held e room letter_room =
    let r = accepted s ts x e in
    record {
      first = none_so_far s ts x held;
      tile = λ row done f i. tile_more f {p = pulsed_at s ts x done.next} (omega arith) (omega arith) i refl refl refl refl;
      ends = λ row done f i. so_far_ends f (λ c j. pulse_small r c j) i;
      last = λ row done f w. (
        row_whole f w room ∙ sym (written_accepted s ts x held.times e),
        letters_whole f w letter_room ∙ sym (lettered_accepted s ts x held.letters e),
        rw (planned_accepted s ts x e, f.is_least, f.is_largest, all_so_far f w),
      );
    }

-- and after its last tile
pub row_ends : RowEnds
unfolding RowEnds earliest_of latest_of
row_ends s ts x held e =
    let r = accepted s ts x e in
    let ends = list_ends (row_of s ts x) (omega (arith, row_length s ts x, (limits s r.settings).width))
    (λ c i. rw (row_at s ts x c (omega (arith, row_length s ts x))) (pulse_small r c (omega (arith, row_length s ts x)))) in
    rw (written_accepted s ts x held e, planned_accepted s ts x e)
    (refl, refl, rw (row_length s ts x) at ends)
