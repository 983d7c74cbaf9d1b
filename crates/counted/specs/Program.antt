-- What is promised of lists of calls, each known by its operation's contract alone. Each statement is proved in proofs/Promises.antt, under its name in
-- small letters. Assumes nothing.
use Rattle.std.specs.Prelude.{◌≡◌, List, [], ◌∷◌, ℕ, None}
use Rattle.settings.specs.declared.Settings.{Settings}
use Rattle.board.specs.State as board
use Rattle.board.specs.declared.Board.{Board}
use Rattle.board.specs.declared.Started as board_started
use Rattle.board_runs.specs.Reading.{run_of}
use Rattle.board_runs.specs.Program.{Call, pulses, closes_one, closes_many, all_events}
use Rattle.board_runs.specs.Program as plain
use Rattle.board_runs.specs.Promises.{InTime}
use Rattle.counted.specs.State.{started, pulsed, closed, closed_many}
use Rattle.counted.specs.Reading.{counts_in}
use Rattle.counted.specs.declared.Counted.{Counted}
use Rattle.counted.specs.declared.Started.{Started}
use Rattle.counted.specs.declared.Heard.{Heard}
use Rattle.counted.specs.declared.Closed.{Closed}

-- §E6.2 calls from one state to another. Each leaves the state that the next is given; of each only what its operation ensures is known.
pub data Calls : (from : Counted) → List Call → (to : Counted) → Type 0 where
  none : {x : Counted} → Calls x [] x
  hear : {x t : Counted} {cs : List Call} (k : ℕ) (r : Heard) → r ≡ pulsed x k → Calls r.tile cs t → Calls x (pulses k r.refusal ∷ cs) t
  shut : {x t : Counted} {cs : List Call} (r : Closed) → r ≡ closed x → Calls r.tile cs t → Calls x (closes_one r.answer ∷ cs) t
  shut_many : {x t : Counted} {cs : List Call} (n : ℕ) (r : Closed) → r ≡ closed_many x n → Calls r.tile cs t →
      Calls x (closes_many n r.answer ∷ cs) t

-- §E6.2 after any calls from a start the counts are what a plain reading of the events that count gives
unfoldable pub CountsRead : Type 0
CountsRead =
    (s : Settings) (n v : ℕ) (r : Started) (cs : List Call) (t : Counted) → r ≡ started s n v → r.refusal ≡ None → Calls r.tile cs t →
    t.repeats ≡ counts_in n (run_of s n v (all_events cs)).events

-- §E6.3 the counts do not act: without them a start is that of a tile that counts nothing,
unfoldable pub StartApart : Type 0
StartApart =
    (s : Settings) (n v : ℕ) →
    ((started s n v).refusal ≡ (board.started s n v).refusal) × ((started s n v).tile.board ≡ (board.started s n v).board)

-- §E6.3 and from any state, calls leave without them what the same calls leave of such a tile, and each is answered as its call is
unfoldable pub CallsApart : Type 0
CallsApart = (x t : Counted) (cs : List Call) → Calls x cs t → plain.Calls x.board cs t.board

-- §E6.3 so what holds after all calls from a start on such a tile, by their answers too, holds after all calls here
unfoldable pub Carried : Type 1
Carried =
    (Q : Settings → (count reading : ℕ) → List Call → Board → Type 0) →
    ((s : Settings) (n v : ℕ) (r : board_started.Started) (cs : List Call) (t : Board) → r ≡ board.started s n v → r.refusal ≡ None → plain.Calls r.board cs t → Q s n v cs t) →
    (s : Settings) (n v : ℕ) (r : Started) (cs : List Call) (t : Counted) → r ≡ started s n v → r.refusal ≡ None → Calls r.tile cs t → Q s n v cs t.board

-- §E6.3 as that the tile pulses in time (§E5.7)
unfoldable pub PulsesInTime : Type 0
PulsesInTime =
    (s : Settings) (n v : ℕ) (r : Started) (cs : List Call) (t : Counted) → r ≡ started s n v → r.refusal ≡ None → Calls r.tile cs t →
    InTime s n v cs t.board
