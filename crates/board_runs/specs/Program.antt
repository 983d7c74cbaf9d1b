-- Lists of calls from a start, known by the operations' contracts alone, and what a plain reading of their events says that each is to
-- answer. Assumes nothing.
use Rattle.std.specs.Prelude.{◌≡◌, true, cond, List, [], ◌∷◌, ◌++◌, ℕ, ◌+◌, ◌≤◌, ltb, replicate, Option, Some, None}
use Rattle.settings.specs.declared.Settings.{Settings}
use Rattle.settings.specs.declared.refusal.Refusal.{Refusal}
use Rattle.settings.specs.declared.refusal.Refusal.TheVariants.{Sender}
use Rattle.board.specs.Stand.{told, is_running}
use Rattle.board.specs.State.{fits, started, pulsed, closed, closed_many}
use Rattle.board.specs.Events.{Event, pulse, close}
use Rattle.board.specs.declared.Board.{Board}
use Rattle.board.specs.declared.Started.{Started}
use Rattle.board.specs.declared.Heard.{Heard}
use Rattle.board.specs.declared.Closed.{Closed}
use Rattle.board.specs.declared.stand.Stage.{Stage}
use Rattle.board.specs.declared.stand.Answer.{Answer}
use Rattle.board.specs.declared.stand.Answer.TheVariants as answer
use Rattle.board_runs.specs.Reading.{run_of, board_of}

-- §E5.6 a call with its answer: a pulse and why it is turned away, a close, or many
pub data Call : Type 0 where
  pulses : (sender : ℕ) → (refusal : Option Refusal) → Call
  closes_one : Answer → Call
  closes_many : (n : ℕ) → Answer → Call

-- §E5.6 calls from one state to another. Each leaves the state that the next is given; of each only what its operation ensures is known.
pub data Calls : (from : Board) → List Call → (to : Board) → Type 0 where
  none : {b : Board} → Calls b [] b
  hear : {b t : Board} {cs : List Call} (k : ℕ) (r : Heard) → r ≡ pulsed b k → Calls r.board cs t → Calls b (pulses k r.refusal ∷ cs) t
  shut : {b t : Board} {cs : List Call} (r : Closed) → r ≡ closed b → Calls r.board cs t → Calls b (closes_one r.answer ∷ cs) t
  shut_many : {b t : Board} {cs : List Call} (n : ℕ) (r : Closed) → r ≡ closed_many b n → Calls r.board cs t →
      Calls b (closes_many n r.answer ∷ cs) t

-- §E5.6 the events of a call
unfoldable pub events_of : Call → List Event
events_of (pulses k x) = pulse k ∷ []
events_of (closes_one x) = close ∷ []
events_of (closes_many n x) = replicate n close

-- §E5.6 the events of some calls
unfoldable pub all_events : List Call → List Event
all_events [] = []
all_events (c ∷ cs) = events_of c ++ all_events cs

-- §E5.2 why a pulse is turned away: 54 from no predecessor, while the run is not over
unfoldable pub refusal_in : (count : ℕ) → Stage → (sender : ℕ) → Option Refusal
refusal_in n x k = cond (is_running x) (cond (ltb n k) (Some Sender) None) None

-- §E5.3 what closes answer, by the stage before them and after: done where the run was over
unfoldable pub answer_in : (before after : Stage) → Answer
answer_in x y = cond (is_running x) (told y) answer.Done

-- §E5.6 each call is answered by a plain reading of the events before it and its own
unfoldable pub Answered : Settings → (count reading : ℕ) → (before : List Event) → List Call → Type 0
Answered s n v es [] = Unit {0}
Answered s n v es (pulses k x ∷ cs) = (x ≡ refusal_in n (run_of s n v es).stage k) × Answered s n v (es ++ pulse k ∷ []) cs
Answered s n v es (closes_one x ∷ cs) =
    (x ≡ answer_in (run_of s n v es).stage (run_of s n v (es ++ close ∷ [])).stage) × Answered s n v (es ++ close ∷ []) cs
Answered s n v es (closes_many k x ∷ cs) =
    (x ≡ answer_in (run_of s n v es).stage (run_of s n v (es ++ replicate k close)).stage) × Answered s n v (es ++ replicate k close) cs

-- §E5.6 after any calls from a start the state is what a plain reading of all events gives, and each answer was
unfoldable pub CallsRead : Type 0
CallsRead =
    (s : Settings) (n v : ℕ) (r : Started) (cs : List Call) (t : Board) → r ≡ started s n v → r.refusal ≡ None → Calls r.board cs t →
    (t ≡ board_of s n v (run_of s n v (all_events cs))) × Answered s n v [] cs

-- §E5.9 the state after them fits
unfoldable pub CallsFit : Type 0
CallsFit =
    (s : Settings) (n v : ℕ) (r : Started) (cs : List Call) (t : Board) → r ≡ started s n v → r.refusal ≡ None → Calls r.board cs t → fits t ≡ true

-- §E5.8 1 for a call that pulses, or 0
unfoldable pub pulsed_once : Answer → ℕ
pulsed_once answer.Pulsed = 1
pulsed_once answer.Waits = 0
pulsed_once answer.Done = 0

-- §E5.8 how many calls pulse
unfoldable pub times_pulsed : List Call → ℕ
times_pulsed [] = 0
times_pulsed (pulses k x ∷ cs) = times_pulsed cs
times_pulsed (closes_one x ∷ cs) = pulsed_once x + times_pulsed cs
times_pulsed (closes_many n x ∷ cs) = pulsed_once x + times_pulsed cs

-- §E5.8 from whatever state and whatever the calls, at most one pulses
unfoldable pub PulsesOnce : Type 0
PulsesOnce = (b t : Board) (cs : List Call) → Calls b cs t → times_pulsed cs ≤ 1
