-- The counts of a run and of what follows it. Assumes nothing.
use mathlib.Core.Path.{◌≡◌, refl, sym, ◌∙◌}
use mathlib.Core.Bool.{Bool, true, false, cond}
use mathlib.Core.List.{List, [], ◌∷◌, ◌++◌}
use Prim.Native.Nat.{ℕ, zero, suc, ◌+◌, ◌≤◌}
use lib.ListN.{replicate}
use Rattle.settings.specs.declared.Settings.{Settings}
use Rattle.settings.proofs.Laws.Cases.{by_order}
use Rattle.rule.specs.Stamp.{Stamp, heard, silent}
use Rattle.senders.specs.Senders.{last, is_heard}
use Rattle.board.specs.Stand.{is_running}
use Rattle.board.specs.State.{pulsed}
use Rattle.board.specs.Events.{Event, pulse, close}
use Rattle.board.specs.declared.stand.Stage.{Stage}
use Rattle.board.specs.declared.stand.Stage.TheVariants.{Running, Pulsed, Ended}
use Rattle.board.proofs.Laws.Pulse.{ignored, turned_away, taken}
use Rattle.board_runs.specs.Reading.{closes, first_pulse, pulses_after, last_after, Run, run, unless_over, run_from, senders_of, board_of}
use Rattle.board_runs.proofs.Laws.Run.{continue}
use Rattle.board_runs.proofs.Laws.Senders.{not_heard, is_known}
use Rattle.board_runs.proofs.Laws.State.{Accepted, runs_here, runs_as}
use Rattle.counted.specs.State.{raised}
use Rattle.counted.specs.Reading.{counts_in}
use Rattle.counted.proofs.Laws.Counts.{counts_new, counts_more, counts_wrong, counts_closed}

-- counts after a pulse that is a repeat, or is none
abbrev pub after_one : (repeat : Bool) → (counts : List ℕ) → (sender : ℕ) → List ℕ
after_one p xs k = cond p (raised xs k) xs

module _ {s : Settings} {n v : ℕ} (a : Accepted s n v) where
  -- a pulse of a tile that runs
  module _ (es : List Event) (small : v + closes es ≤ last) (k : ℕ) where
    of_sender : k ≤ n → after_one (is_heard (senders_of n v es) k) (counts_in n es) k ≡ counts_in n (es ++ pulse k ∷ [])
    of_sender i = pick (first_pulse v k es) refl
      where
        pick : (x : Stamp) → first_pulse v k es ≡ x → after_one (is_heard (senders_of n v es) k) (counts_in n es) k ≡ counts_in n (es ++ pulse k ∷ [])
        pick (heard b) e = rw (is_known n v a.two a.three es k i e small) (sym (counts_more n es v k a.three i e))
        pick silent e = rw (not_heard n v a.two a.three es k i e) (sym (counts_new n es v k e))

    pulse_here : after_one (pulsed (board_of s n v (run es Running)) k).repeat (counts_in n es) k ≡ counts_in n (es ++ pulse k ∷ [])
    unfolding board_of run senders_of
    pulse_here =
        by_order k n
        (λ i. rw (taken (board_of s n v (run es Running)) k (runs_here a es small) i) (of_sender i))
        (λ i. rw (turned_away (board_of s n v (run es Running)) k (runs_here a es small) i) (sym (counts_wrong n es k i)))

  -- a pulse of any
  pub pulse_counts : (r : Run) → v + closes r.events ≤ last → (k : ℕ) →
      after_one (pulsed (board_of s n v r) k).repeat (counts_in n r.events) k ≡ counts_in n (continue s n v r (pulse k ∷ [])).events
  unfolding run
  pulse_counts r small k = pick r.stage
    where
      pick : (x : Stage) → after_one (pulsed (board_of s n v (run r.events x)) k).repeat (counts_in n r.events) k
          ≡ counts_in n (continue s n v (run r.events x) (pulse k ∷ [])).events
      pick Running = unfold continue run_from run is_running in pulse_here r.events small k
      pick Pulsed = unfold continue run is_running in rw (ignored _ k (runs_as a (run r.events Pulsed) small))
      pick Ended = unfold continue run is_running in rw (ignored _ k (runs_as a (run r.events Ended) small))

-- closes count nothing
module _ (s : Settings) (n v : ℕ) where
  from : (k : ℕ) (b : List Event) → counts_in n (run_from s n v b (replicate k close)).events ≡ counts_in n b
  unfolding run_from run
  from zero b = refl
  from (suc k) b = pick (pulses_after s n v b) (last_after v b) (from k (b ++ close ∷ []) ∙ counts_closed n b)
    where
      pick : (p l : Bool) → counts_in n (run_from s n v (b ++ close ∷ []) (replicate k close)).events ≡ counts_in n b →
          counts_in n (unless_over p l b (run_from s n v (b ++ close ∷ []) (replicate k close))).events ≡ counts_in n b
      pick true l e = unfold unless_over run in refl
      pick false true e = unfold unless_over run in refl
      pick false false e = unfold unless_over in e

  pub closes_count : (k : ℕ) (r : Run) → counts_in n (continue s n v r (replicate k close)).events ≡ counts_in n r.events
  unfolding continue
  closes_count k r = pick (is_running r.stage)
    where
      pick : (p : Bool) → counts_in n (cond p (run_from s n v r.events (replicate k close)) r).events ≡ counts_in n r.events
      pick true = from k r.events
      pick false = refl
