-- What is promised of the tile as it runs, beside what specs/Program.antt states. Each statement is proved in proofs/Promises.antt, under its
-- name in small letters. Assumes nothing.
use Rattle.std.specs.Prelude.{◌≡◌, List, ◌++◌, ℕ, ◌+◌, ◌*◌, ◌≤◌, ◌<◌, replicate, None}
use Rattle.senders.specs.Due.{due}
use Rattle.settings.specs.declared.Settings.{Settings}
use Rattle.rule.specs.Stamp.{latest_stamp}
use Rattle.rule.specs.Promises.{OneFree}
use Rattle.board.specs.Stand.{stand}
use Rattle.board.specs.State.{started, closed_many}
use Rattle.board.specs.Events.{Event, close}
use Rattle.board.specs.declared.Board.{Board}
use Rattle.board.specs.declared.Started.{Started}
use Rattle.board.specs.declared.Closed.{Closed}
use Rattle.board.specs.declared.stand.Answer.TheVariants as answer
use Rattle.board.specs.declared.stand.Answer.TheVariants.{Waits, Done}
use Rattle.board.specs.declared.stand.Stage.TheVariants.{Running, Pulsed}
use Rattle.board_runs.specs.Reading.{closes, first_pulse, neighbour_pulses}
use Rattle.board_runs.specs.Program.{Call, Calls, all_events}

-- §E5.7 the full stamps, of each sender's first pulse in the whole list: all but one sender's are heard, by 2^41 - 1, and no two of those are more than
-- A - 9h apart
pub record Correct (s : Settings) (count reading : ℕ) (es : List Event) : Type 0 where
  pub lo : ℕ
  pub hi : ℕ
  pub one_free : OneFree lo hi (first_pulse reading 0 es) (neighbour_pulses count reading es)
  pub on_time : hi ≤ latest_stamp
  pub near : hi + 9 * s.unit ≤ lo + s.hold

-- §E5.7 the reading P + A, P by the rule on the full stamps
unfoldable pub full_due : Settings → (count reading : ℕ) → List Event → ℕ
full_due s n v es = due s (first_pulse v 0 es) (neighbour_pulses n v es)

-- §E5.7 a tile after some calls, whatever events follow them: while the reading P + A is not closed it runs; once it is closed, it has pulsed at that
-- close
unfoldable pub InTime : Settings → (count reading : ℕ) → List Call → (after : Board) → Type 0
InTime s n v cs t =
    (later : List Event) →
    let es = all_events cs ++ later in
    Correct s n v es →
    (v + closes (all_events cs) ≤ full_due s n v es → t.stand ≡ stand (v + closes (all_events cs)) Running)
    × (full_due s n v es < v + closes (all_events cs) → t.stand ≡ stand (full_due s n v es) Pulsed)

-- §E5.7 so it is after any calls from a start
unfoldable pub PulsesInTime : Type 0
PulsesInTime =
    (s : Settings) (n v : ℕ) (r : Started) (cs : List Call) (t : Board) → r ≡ started s n v → r.refusal ≡ None → Calls r.board cs t → InTime s n v cs t

-- §E5.7 and so it is told: closes wait before that reading is closed, pulse where they close it, and are done after it
unfoldable pub ToldInTime : Type 0
ToldInTime =
    (s : Settings) (n v : ℕ) (r : Started) (cs : List Call) (t : Board) (later : List Event) (k : ℕ) (q : Closed) →
    r ≡ started s n v → r.refusal ≡ None → Calls r.board cs t → q ≡ closed_many t k →
    let es = all_events cs ++ (replicate k close ++ later) in
    let y = v + closes (all_events cs) in
    Correct s n v es →
    (y + k ≤ full_due s n v es → q.answer ≡ Waits)
    × (y ≤ full_due s n v es → full_due s n v es < y + k → q.answer ≡ answer.Pulsed)
    × (full_due s n v es < y → q.answer ≡ Done)
