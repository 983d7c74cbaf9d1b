-- The proofs of what specs/Program.antt and specs/Promises.antt state. Assumes nothing.
use mathlib.Core.Path.{◌≡◌, refl, sym, ◌∙◌, ap}
use mathlib.Core.List.{List, [], ◌∷◌, ◌++◌, append-nil, append_assoc}
use Prim.Native.Nat.{ℕ}
use lib.ListN.{replicate}
use Rattle.settings.specs.declared.Settings.{Settings}
use Rattle.board.specs.State as board
use Rattle.board.specs.Events.{Event, pulse, close}
use Rattle.board.specs.Promises as board_promises
use Rattle.board.proofs.Promises as board_proofs
use Rattle.board_runs.specs.Reading.{run, run_from, run_of, board_of}
use Rattle.board_runs.specs.Program.{Call, events_of, all_events}
use Rattle.board_runs.specs.Program as plain
use Rattle.board_runs.specs.Promises.{InTime}
use Rattle.board_runs.specs.Promises as promises
use Rattle.board_runs.proofs.Laws.Run.{run_++}
use Rattle.board_runs.proofs.Laws.State.{Accepted}
use Rattle.board_runs.proofs.Laws.Calls.{inside, after_pulse, after_closes}
use Rattle.std.specs.Prelude.{None}
use Rattle.board_runs.proofs.Promises.{accepts, not_refused, left_open, starts_as}
use Rattle.board_runs.proofs.Promises as proofs
use Rattle.counted.specs.State.{counted, started, pulsed, uncounted, closed, closed_many}
use Rattle.counted.specs.Reading.{counts_in}
use Rattle.counted.specs.Program.{Calls, none, hear, shut, shut_many, CountsRead, StartApart, CallsApart, Carried, PulsesInTime}
use Rattle.counted.specs.Promises.{WrongKept, OverIgnores}
use Rattle.counted.specs.declared.Counted.{Counted}
use Rattle.counted.proofs.Laws.Close.{one_close}
use Rattle.counted.proofs.Laws.Counts.{counts_none}
use Rattle.counted.proofs.Laws.Run.{pulse_counts, closes_count}

-- without the counts
pub start_apart : StartApart
unfolding StartApart started counted
start_apart s n v = (refl, refl)

apart : {x t : Counted} {cs : List Call} → Calls x cs t → plain.Calls x.board cs t.board
unfolding pulsed closed closed_many uncounted counted
apart none = plain.none
apart {x} (hear k r e c) = let next = apart c in rw e (plain.hear k (board.pulsed x.board k) refl (rw e at next))
apart {x} (shut r e c) = let next = apart c in rw e (plain.shut (board.closed x.board) refl (rw e at next))
apart {x} (shut_many n r e c) = let next = apart c in rw e (plain.shut_many n (board.closed_many x.board n) refl (rw e at next))

pub calls_apart : CallsApart
unfolding CallsApart
calls_apart x t cs c = apart c

pub carried : Carried
unfolding Carried started counted
carried Q f s n v r cs t e z c =
    let q = board.started s n v in
    let y : q.refusal ≡ None = rw e at z in
    f s n v q cs t.board refl y (rw e at (apart c))

pub pulses_in_time : PulsesInTime
unfolding PulsesInTime Carried promises.PulsesInTime
pulses_in_time = carried InTime proofs.pulses_in_time

-- the counts
module _ {s : Settings} {n v : ℕ} (a : Accepted s n v) where
  abbrev counts : List Event → List ℕ
  counts es = counts_in n (run_of s n v es).events

  -- a state that is read from events
  record Reads (es : List Event) (x : Counted) : Type 0 where
    state : x.board ≡ board_of s n v (run_of s n v es)
    counts_are : x.repeats ≡ counts es

  after_a_pulse : {es : List Event} {x : Counted} (k : ℕ) → Reads es x → Reads (es ++ pulse k ∷ []) (pulsed x k).tile
  unfolding pulsed counted run_of
  after_a_pulse {es} {x} k h = record {
    state = ap (λ b. (board.pulsed b k).board) h.state ∙ after_pulse a es k;
    counts_are =
        rw (h.state, h.counts_are, run_++ s n v [] es (pulse k ∷ []))
        (pulse_counts a (run_of s n v es) (inside a es) k);
  }

  after_some_closes : {es : List Event} {x : Counted} (k : ℕ) → Reads es x → Reads (es ++ replicate k close) (closed_many x k).tile
  unfolding closed_many uncounted counted run_of board.closed_many board.answered
  after_some_closes {es} {x} k h = record {
    state = ap (λ b. board.shut_many k b) h.state ∙ after_closes a es k;
    counts_are = h.counts_are ∙ rw (run_++ s n v [] es (replicate k close)) (sym (closes_count s n v k (run_of s n v es)));
  }

  reads_on : {x t : Counted} {cs : List Call} (es : List Event) → Reads es x → Calls x cs t → Reads (es ++ all_events cs) t
  unfolding all_events events_of
  reads_on es h none = rw (append-nil es) h
  reads_on {t = t} es h (hear {cs = cs} k r e c) =
      rw (append_assoc es (pulse k ∷ []) (all_events cs)) at (reads_on (es ++ pulse k ∷ []) (rw e (after_a_pulse k h)) c)
  reads_on {x = x} {t = t} es h (shut {cs = cs} r e c) =
      rw (append_assoc es (close ∷ []) (all_events cs)) at (reads_on (es ++ close ∷ []) (rw (e, one_close x) (after_some_closes 1 h)) c)
  reads_on {t = t} es h (shut_many {cs = cs} k r e c) =
      rw (append_assoc es (replicate k close) (all_events cs)) at (reads_on (es ++ replicate k close) (rw e (after_some_closes k h)) c)

pub counts_read : CountsRead
unfolding CountsRead started counted run_of run_from run
counts_read s n v r cs t e z c =
    let q = board.started s n v in
    let y : q.refusal ≡ None = rw e at z in
    let a = accepts s n v (not_refused s n v q refl y) in
    let begun : Reads a [] r.tile = rw e (record { state = left_open s n v q refl y ∙ starts_as s n v (not_refused s n v q refl y); counts_are = sym (counts_none n) }) in
    (reads_on a [] begun c).counts_are

-- what leaves the tile leaves the counts
pub wrong_kept : WrongKept
unfolding WrongKept pulsed counted board_promises.WrongKept
wrong_kept x k e = rw (board_proofs.wrong_kept x.board k e)

pub over_ignores : OverIgnores
unfolding OverIgnores pulsed closed_many uncounted counted board_promises.OverIgnores
over_ignores x e =
    let o = board_proofs.over_ignores x.board e in
    (λ k. rw (o.0 k), λ n. rw (o.1 n))
