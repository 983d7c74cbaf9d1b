-- One row call: what is lent. Assumes nothing.
use Rattle.std.specs.Prelude.{List, ℕ}

-- §7.1 marks, drifts, phases (§E4.2), link values, and the lengths of the rows to write, of times and of letters (§E3.4). The times of the
-- row before stand apart, since in a run they are what the last accepted call wrote.
pub record Call : Type 0 where
  pub marks : List ℕ
  pub drifts : List ℕ
  pub phases : List ℕ
  pub links : List ℕ
  pub room : ℕ
  pub letter_room : ℕ

-- §7.1 the record of these
unfoldable pub call : (marks drifts phases links : List ℕ) → (room letter_room : ℕ) → Call
call ms ds qs ls room letter_room = record { marks = ms; drifts = ds; phases = qs; links = ls; room = room; letter_room = letter_room }
