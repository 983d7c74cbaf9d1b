-- Calls known by their contracts: the state that they leave is what their events leave, and so is each answer. Assumes nothing.
use mathlib.Core.Path.{◌≡◌, sym, ◌∙◌, ap}
use mathlib.Core.List.{List, [], ◌∷◌, ◌++◌, append-nil, append_assoc}
use Prim.Native.Nat.{ℕ, ◌+◌, ◌≤◌}
use lib.ListN.{replicate}
use native.Mathlib.Omega.{arith}
use Rattle.senders.specs.Senders.{last}
use Rattle.settings.specs.declared.Settings.{Settings}
use Rattle.board.specs.Stand.{stand, is_running}
use Rattle.board.specs.State.{pulsed, shut as shut_once, shut_many as shut_often, answered, closed, closed_many}
use Rattle.board.specs.Events.{Event, pulse, close, happens}
use Rattle.board.specs.declared.Board.{Board}
use Rattle.board.specs.declared.stand.Stage.{Stage}
use Rattle.board.specs.declared.stand.Stage.TheVariants.{Running, Pulsed, Ended}
use Rattle.board_runs.specs.Reading.{closes, Run, run, run_of, board_of}
use Rattle.board_runs.specs.Program.{Call, Calls, none, hear, shut, shut_many, events_of, all_events, refusal_in, answer_in, Answered}
use Rattle.board_runs.proofs.Laws.Run.{run_inside}
use Rattle.board_runs.proofs.Laws.State.{Accepted, runs_as, pulse_here, pulsed_over, happens_of, after_of, many_closes}

module _ {s : Settings} {n v : ℕ} (a : Accepted s n v) where
  abbrev read : List Event → Board
  read es = board_of s n v (run_of s n v es)

  abbrev stage_at : List Event → Stage
  stage_at es = (run_of s n v es).stage

  pub inside : (es : List Event) → v + closes (run_of s n v es).events ≤ last
  unfolding run_of closes
  inside es = run_inside s n v [] es (omega (arith, a.early))

  -- why a pulse is turned away
  refusal_is : (es : List Event) (k : ℕ) → (pulsed (read es) k).refusal ≡ refusal_in n (stage_at es) k
  unfolding run
  refusal_is es k = pick (run_of s n v es) (inside es)
    where
      pick : (r : Run) → v + closes r.events ≤ last → (pulsed (board_of s n v r) k).refusal ≡ refusal_in n r.stage k
      pick r small = by_stage r.stage
        where
          by_stage : (x : Stage) → (pulsed (board_of s n v (run r.events x)) k).refusal ≡ refusal_in n x k
          by_stage Running = unfold refusal_in is_running in (pulse_here a r.events small k).1
          by_stage Pulsed = unfold refusal_in is_running in (pulsed_over _ k (runs_as a (run r.events Pulsed) small)).1
          by_stage Ended = unfold refusal_in is_running in (pulsed_over _ k (runs_as a (run r.events Ended) small)).1

  -- the answer of closes
  pub answer_is : (es fs : List Event) (b : Board) → b ≡ read (es ++ fs) → (answered (read es) b).answer ≡ answer_in (stage_at es) (stage_at (es ++ fs))
  unfolding answered answer_in board_of stand
  answer_is es fs b e = rw (e, runs_as a (run_of s n v es) (inside es))

  -- one call more
  pub after_pulse : (es : List Event) (k : ℕ) → (pulsed (read es) k).board ≡ read (es ++ pulse k ∷ [])
  unfolding happens
  after_pulse es k = happens_of a es (pulse k)

  after_close : (es : List Event) → shut_once (read es) ≡ read (es ++ close ∷ [])
  unfolding happens closed answered
  after_close es = happens_of a es close

  pub after_closes : (es : List Event) (k : ℕ) → shut_often k (read es) ≡ read (es ++ replicate k close)
  after_closes es k = many_closes k (read es) ∙ after_of a es (replicate k close)

  -- what calls make of a state that is read from events
  pub record ReadOn (es : List Event) (cs : List Call) (t : Board) : Type 0 where
    pub state : t ≡ read (es ++ all_events cs)
    pub answers : Answered s n v es cs

  moved : (es fs : List Event) (cs : List Call) (t : Board) → t ≡ read ((es ++ fs) ++ all_events cs) → t ≡ read (es ++ (fs ++ all_events cs))
  moved es fs cs t e = e ∙ ap read (append_assoc es fs (all_events cs))

  pub reads_on : {b t : Board} {cs : List Call} (es : List Event) → b ≡ read es → Calls b cs t → ReadOn es cs t
  unfolding Answered all_events events_of closed closed_many answered
  reads_on es e none = record { state = e ∙ ap read (sym (append-nil es)); answers = tt }
  reads_on {t = t} es e (hear {cs = cs} k r q c) =
      let next : r.board ≡ read (es ++ pulse k ∷ []) = rw (q, e) (after_pulse es k) in
      let on = reads_on (es ++ pulse k ∷ []) next c in
      record { state = moved es (pulse k ∷ []) cs t on.state; answers = (rw (q, e) (refusal_is es k), on.answers) }
  reads_on {t = t} es e (shut {cs = cs} r q c) =
      let next : r.board ≡ read (es ++ close ∷ []) = rw (q, e) (after_close es) in
      let on = reads_on (es ++ close ∷ []) next c in
      record { state = moved es (close ∷ []) cs t on.state; answers = (rw (q, e) (answer_is es (close ∷ []) _ (after_close es)), on.answers) }
  reads_on {t = t} es e (shut_many {cs = cs} k r q c) =
      let next : r.board ≡ read (es ++ replicate k close) = rw (q, e) (after_closes es k) in
      let on = reads_on (es ++ replicate k close) next c in
      record { state = moved es (replicate k close) cs t on.state; answers = (rw (q, e) (answer_is es (replicate k close) _ (after_closes es k)), on.answers) }
