-- What a plain reading of a list of events gives: each sender's first reading, the open reading, whether and when the tile pulsed. Assumes nothing.
--
-- Throughout: settings s, count n, the first reading v.
use Rattle.std.specs.Prelude.{Bool, true, false, cond, List, [], ◌∷◌, ◌++◌, map, ℕ, suc, ◌+◌, eqb, leb}
use Rattle.settings.specs.declared.Settings.{Settings}
use Rattle.rule.specs.Stamp.{Stamp, heard, silent, silence, code_of}
use Rattle.senders.specs.Due.{reaches}
use Rattle.senders.specs.Senders.{last, neighbours}
use Rattle.board.specs.Stand.{stand}
use Rattle.board.specs.Events.{Event, pulse, close}
use Rattle.board.specs.declared.Board.{Board}
use Rattle.senders.specs.declared.Senders.{Senders}
use Rattle.board.specs.declared.stand.Stage.{Stage}
use Rattle.board.specs.declared.stand.Stage.TheVariants.{Running, Pulsed, Ended}

-- §E5.6 how many closes there are: the open reading is the first one and these
unfoldable pub closes : List Event → ℕ
closes [] = 0
closes (pulse k ∷ es) = closes es
closes (close ∷ es) = suc (closes es)

-- §E5.6 a sender's stamp, from an open reading on: the reading at which its first pulse comes, silence where none comes
unfoldable pub first_pulse : (reading sender : ℕ) → List Event → Stamp
first_pulse v k [] = silent
first_pulse v k (pulse j ∷ es) = cond (eqb j k) (heard v) (first_pulse v k es)
first_pulse v k (close ∷ es) = first_pulse (suc v) k es

-- §E5.6 the neighbours' stamps
unfoldable pub neighbour_pulses : (count reading : ℕ) → List Event → List Stamp
neighbour_pulses n v es = map (λ k. first_pulse v k es) (neighbours n)

-- §E5.3 a close after these events pulses: P + A, by the stamps so far, is reached
unfoldable pub pulses_after : Settings → (count reading : ℕ) → List Event → Bool
pulses_after s n v es = reaches s (first_pulse v 0 es) (neighbour_pulses n v es) (v + closes es)

-- §E5.3 a close after these events is that of the last reading
unfoldable pub last_after : (reading : ℕ) → List Event → Bool
last_after v es = eqb (v + closes es) last

-- §E5.6 a run: the events that count, and how it stands after them
pub record Run : Type 0 where
  pub events : List Event
  pub stage : Stage

-- §E5.6 so many events, and a stage
unfoldable pub run : List Event → Stage → Run
run es x = record { events = es; stage = x }

-- §E5.4 a close: it ends the run where it pulses or where its reading is the last, and otherwise the run goes on
unfoldable pub unless_over : (pulses at_last : Bool) → (before : List Event) → (on : Run) → Run
unless_over true l es on = run es Pulsed
unless_over false true es on = run es Ended
unless_over false false es on = on

-- §E5.6 the run of a list of events, which come after others: what counts ends before the close that ends the run
unfoldable pub run_from : Settings → (count reading : ℕ) → (before : List Event) → List Event → Run
run_from s n v before [] = run before Running
run_from s n v before (pulse k ∷ es) = run_from s n v (before ++ pulse k ∷ []) es
run_from s n v before (close ∷ es) =
    unless_over (pulses_after s n v before) (last_after v before) before (run_from s n v (before ++ close ∷ []) es)

-- §E5.6 the run of all events since the start
unfoldable pub run_of : Settings → (count reading : ℕ) → List Event → Run
run_of s n v es = run_from s n v [] es

-- §E5.6 a number for own and for each neighbour, at four places; one past the count holds a number of its own
unfoldable pub at_places : (count past : ℕ) → (of_sender : ℕ → ℕ) → List ℕ
at_places n d f = map (λ k. cond (leb k n) (f k) d) (0 ∷ 1 ∷ 2 ∷ 3 ∷ [])

-- §E5.6 what is known of the senders after events that count: their stamps' numbers, and silence past the count
unfoldable pub senders_of : (count reading : ℕ) → List Event → Senders
senders_of n v es = record { count = n; stamps = at_places n silence (λ k. code_of (first_pulse v k es)) }

-- §E5.6 the state that a run is read as
unfoldable pub board_of : Settings → (count reading : ℕ) → Run → Board
board_of s n v r = record { settings = s; senders = senders_of n v r.events; stand = stand (v + closes r.events) r.stage }
