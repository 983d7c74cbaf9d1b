-- The proofs of what specs/Program.antt and specs/Promises.antt state. Assumes nothing.
use mathlib.Core.Path.{◌≡◌, refl, sym, ◌∙◌, ap}
use mathlib.Core.Bool.{Bool, true, false, cond}
use mathlib.Core.List.{List, [], ◌++◌, append_assoc}
use Prim.Native.Nat.{ℕ, zero, suc, ◌+◌, ◌≤◌}
use lib.ListN.{replicate}
use native.Mathlib.Omega.{arith}
use Rattle.std.specs.Prelude.{None}
use Rattle.settings.specs.declared.Settings.{Settings}
use Rattle.rule.specs.Stamp.{silence, code_of}
use Rattle.senders.specs.Senders.{unheard_all}
use Rattle.board.specs.Stand.{stand, told, is_running}
use Rattle.board.specs.State.{runs, start_cause, fresh, first_stage, started, answered, closed, closed_many, shut as shut_once, shut_many as shut_often}
use Rattle.board.specs.declared.Board.{Board}
use Rattle.board.specs.declared.Started.{Started}
use Rattle.board.specs.declared.Closed.{Closed}
use Rattle.board.specs.Events.{close}
use Rattle.board.specs.declared.stand.Stage.{Stage}
use Rattle.board.specs.declared.stand.Stage.TheVariants as stage
use Rattle.board.specs.declared.stand.Answer.{Answer}
use Rattle.board.specs.declared.stand.Answer.TheVariants as answer
use Rattle.board.proofs.Laws.State.{shut_over, many_over}
use Rattle.settings.specs.Limits.{SettingsPlain}
use Rattle.settings.proofs.Limits.{settings_plain}
use Rattle.board.specs.Promises.{StartPlain}
use Rattle.board.proofs.Promises.{start_plain}
use Rattle.board_runs.specs.Reading.{closes, first_pulse, senders_of, Run, run, run_from, run_of, board_of}
use Rattle.board_runs.specs.Program.{Call, Calls, none, hear, shut, shut_many, all_events, answer_in, CallsRead, CallsFit, pulsed_once, times_pulsed, PulsesOnce}
use Rattle.board_runs.specs.Promises.{full_due, InTime, PulsesInTime, ToldInTime}
use Rattle.board_runs.proofs.Laws.Events.{closes_++}
use Rattle.board_runs.proofs.Laws.Places.{places_none}
use Rattle.board_runs.proofs.Laws.State.{Accepted, fits_as, pulsed_over}
use Rattle.board_runs.proofs.Laws.Calls.{inside as stays_inside, ReadOn, answer_is, after_closes, reads_on}
use Rattle.board_runs.proofs.Laws.InTime.{begun, runs_on}

-- what a start that is accepted leaves
module _ (s : Settings) (n v : ℕ) (z : start_cause s n v ≡ None) where
  pub accepts : Accepted s n v
  unfolding StartPlain SettingsPlain started
  accepts =
      let (l, i, k, m) = (start_plain s n v).1 z in
      record { checked = (settings_plain s).0 l; two = i; three = k; early = omega (arith, m) }

  pub starts_as : fresh s n (stand v stage.Running) ≡ board_of s n v (run_of s n v [])
  unfolding fresh unheard_all board_of run_of run_from run senders_of closes stand first_pulse code_of
  starts_as =
      let e : v + 0 ≡ v = omega arith in
      rw (e, places_none n silence (λ k. code_of (first_pulse v k [])) (λ k. refl))

module _ (s : Settings) (n v : ℕ) (r : Started) (e : r ≡ started s n v) (z : r.refusal ≡ None) where
  pub not_refused : start_cause s n v ≡ None
  unfolding started
  not_refused = ap (λ (x : Started). x.refusal) (sym e) ∙ z

  pub left_open : r.board ≡ fresh s n (stand v stage.Running)
  unfolding started first_stage
  left_open = rw (e, not_refused)

  read_from : {cs : List Call} {t : Board} → Calls r.board cs t → ReadOn (accepts s n v not_refused) [] cs t
  read_from c = reads_on (accepts s n v not_refused) [] (left_open ∙ starts_as s n v not_refused) c

pub calls_read : CallsRead
unfolding CallsRead
calls_read s n v r cs t e z c = let on = read_from s n v r e z c in (on.state, on.answers)

pub calls_fit : CallsFit
unfolding CallsFit
calls_fit s n v r cs t e z c =
    let a = accepts s n v (not_refused s n v r e z) in
    rw (read_from s n v r e z c).state (fits_as a (run_of s n v (all_events cs)) (stays_inside a (all_events cs)))

none_closed : closes [] ≡ 0
unfolding closes
none_closed = refl

pub pulses_in_time : PulsesInTime
unfolding PulsesInTime InTime board_of run_of run stand
pulses_in_time s n v r cs t e z c later m =
    let a = accepts s n v (not_refused s n v r e z) in
    let es = all_events cs in
    let on = read_from s n v r e z c in
    let o = runs_on a (es ++ later) m [] es later refl (omega (arith, none_closed, begun a (es ++ later) m)) in (
      λ i. ap (λ (b : Board). b.stand) on.state ∙ ap (λ (q : Run). stand (v + closes q.events) q.stage) (o.before i),
      λ i. ap (λ (b : Board). b.stand) on.state ∙ rw ((o.after i).0, (o.after i).1),
    )

-- so many closes
closes_many : (k : ℕ) → closes (replicate k close) ≡ k
unfolding closes
closes_many zero = refl
closes_many (suc k) = omega (arith, closes_many k)

pub told_in_time : ToldInTime
unfolding ToldInTime closed_many run run_of run_from
told_in_time s n v r cs t later k q e z c f m =
    let a = accepts s n v (not_refused s n v r e z) in
    let es = all_events cs in
    let fs = replicate k close in
    let x = full_due s n v (es ++ (fs ++ later)) in
    let on = read_from s n v r e z c in
    let count : closes (es ++ fs) ≡ closes es + k = omega (arith, closes_++ es fs, closes_many k) in
    let begin : v + closes [] ≤ x = omega (arith, none_closed, begun a (es ++ (fs ++ later)) m) in
    let o = runs_on a (es ++ (fs ++ later)) m [] es (fs ++ later) refl begin in
    let p = runs_on a (es ++ (fs ++ later)) m [] (es ++ fs) later (append_assoc es fs later) begin in
    let said : q.answer ≡ answer_in (run_of s n v es).stage (run_of s n v (es ++ fs)).stage =
    ap (λ (w : Closed). w.answer) f ∙ (rw on.state (answer_is a es fs _ (after_closes a es k))) in (
      λ i. said ∙ waits (ap (λ (w : Run). w.stage) (o.before (omega arith))) (ap (λ (w : Run). w.stage) (p.before (omega arith))),
      λ i j. said ∙ pulses (ap (λ (w : Run). w.stage) (o.before i)) (p.after (omega arith)).0,
      λ i. said ∙ over _ (o.after i).0,
    )
  where
    waits : {y w : Stage} → y ≡ stage.Running → w ≡ stage.Running → answer_in y w ≡ answer.Waits
    waits e f = unfold answer_in is_running told in rw (e, f)

    pulses : {y w : Stage} → y ≡ stage.Running → w ≡ stage.Pulsed → answer_in y w ≡ answer.Pulsed
    pulses e f = unfold answer_in is_running told in rw (e, f)

    over : {y : Stage} (w : Stage) → y ≡ stage.Pulsed → answer_in y w ≡ answer.Done
    over w e = unfold answer_in is_running told in rw e

-- a tile that has pulsed does not run
pulse_ends : (b c : Board) → (answered b c).answer ≡ answer.Pulsed → runs c ≡ false
unfolding answered runs
pulse_ends b c e = rw (pick (runs b) c.stand.stage e)
  where
    pick : (p : Bool) (x : Stage) → cond p (told x) answer.Done ≡ answer.Pulsed → is_running x ≡ false
    pick false x e = absurd (other (ap pulsed_once e))
      where
        other : pulsed_once answer.Done ≡ pulsed_once answer.Pulsed → ⊥
        other q = unfold pulsed_once in omega arith
    pick true stage.Running e = absurd (other (ap pulsed_once e))
      where
        other : pulsed_once (told stage.Running) ≡ pulsed_once answer.Pulsed → ⊥
        other q = unfold pulsed_once told in omega arith
    pick true stage.Pulsed e = unfold is_running in refl
    pick true stage.Ended e = unfold is_running in refl

-- after which no call pulses
none_more : {b t : Board} {cs : List Call} → runs b ≡ false → Calls b cs t → times_pulsed cs ≡ 0
unfolding times_pulsed closed closed_many answered pulsed_once
none_more o none = refl
none_more {b} o (hear k r e c) = none_more (rw (e, (pulsed_over b k o).0) o) c
none_more {b} o (shut r e c) = let left = none_more (rw (e, shut_over b o) o) c in rw (e, o) (omega arith)
none_more {b} o (shut_many n r e c) = let left = none_more (rw (e, many_over n b o) o) c in rw (e, o) (omega arith)

one_or_none : (x : Answer) (m : ℕ) → (x ≡ answer.Pulsed → m ≡ 0) → m ≤ 1 → pulsed_once x + m ≤ 1
unfolding pulsed_once
one_or_none answer.Pulsed m f i = omega (arith, f refl)
one_or_none answer.Waits m f i = omega arith
one_or_none answer.Done m f i = omega arith

once : {b t : Board} {cs : List Call} → Calls b cs t → times_pulsed cs ≤ 1
unfolding times_pulsed
once none = omega arith
once (hear k r e c) = once c
once {b} (shut {cs = cs} r e c) = one_or_none r.answer (times_pulsed cs) (λ q. none_more (over r e q) c) (once c)
  where
    over : (r : Closed) → r ≡ closed b → r.answer ≡ answer.Pulsed → runs r.board ≡ false
    over r e q = unfold closed answered in rw e (pulse_ends b (shut_once b) (rw e at q))
once {b} (shut_many {cs = cs} n r e c) = one_or_none r.answer (times_pulsed cs) (λ q. none_more (over r e q) c) (once c)
  where
    over : (r : Closed) → r ≡ closed_many b n → r.answer ≡ answer.Pulsed → runs r.board ≡ false
    over r e q = unfold closed_many answered in rw e (pulse_ends b (shut_often n b) (rw e at q))

pub pulses_once : PulsesOnce
unfolding PulsesOnce
pulses_once b t cs c = once c
