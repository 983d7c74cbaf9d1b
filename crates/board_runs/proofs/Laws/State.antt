-- The state is what its run is read as: each event makes of it what it makes of the run. Assumes nothing.
use mathlib.Core.Path.{◌≡◌, refl, sym, ◌∙◌, ap}
use mathlib.Core.Bool.{Bool, true, false, cond}
use mathlib.Core.List.{List, [], ◌∷◌, ◌++◌, append-nil, append_assoc}
use Prim.Native.Nat.{ℕ, zero, suc, ◌+◌, ◌≤◌, ◌<◌}
use lib.Dec.{ltb}
use lib.ListN.{replicate}
use native.Mathlib.Omega.{arith}
use borrow.Author.Tests.{eq-eqb, le-leb, lt-ltb, le-ltb}
use Rattle.std.specs.Prelude.{Some, None}
use Rattle.settings.specs.Settings.{settings_refusal}
use Rattle.settings.specs.declared.refusal.Refusal.TheVariants.{Sender}
use Rattle.settings.specs.declared.Settings.{Settings}
use Rattle.settings.proofs.Laws.Cases.{by_order}
use Rattle.rule.specs.Stamp.{Stamp, heard, silent}
use Rattle.senders.specs.Senders.{last, own_stamp, heard_by}
use Rattle.board.specs.Stand.{stand, closing, is_running}
use Rattle.board.specs.State.{looked_at, reached, fits, runs, hears, pulsed, at, shut, shut_many, answered, closed}
use Rattle.board.specs.Events.{Event, pulse, close, happens, after}
use Rattle.board.specs.declared.Board.{Board}
use Rattle.board.specs.declared.stand.Stage.{Stage}
use Rattle.board.specs.declared.stand.Stage.TheVariants.{Running, Pulsed, Ended}
use Rattle.board.proofs.Laws.State.{shut_over}
use Rattle.board.proofs.Laws.Pulse.{ignored, turned_away, taken}
use Rattle.board_runs.specs.Reading.{closes, first_pulse, pulses_after, last_after, Run, run, unless_over, run_from, run_of, senders_of, board_of}
use Rattle.board_runs.proofs.Laws.Events.{closes_++}
use Rattle.board_runs.proofs.Laws.Run.{continue, run_++, run_inside}
use Rattle.board_runs.proofs.Laws.Senders.{heard_new, heard_again, heard_wrong, heard_close, stamp_is, neighbours_are, fit_is}

-- what an accepted start asks
pub record Accepted (s : Settings) (n v : ℕ) : Type 0 where
  pub checked : settings_refusal s ≡ 0
  pub two : 2 ≤ n
  pub three : n ≤ 3
  pub early : v ≤ last

-- a tile whose run is over stays
pub pulsed_over : (b : Board) (k : ℕ) → runs b ≡ false → ((pulsed b k).board ≡ b) × ((pulsed b k).refusal ≡ None)
pulsed_over b k e = rw (ignored b k e) (refl, refl)

happens_over : (b : Board) → runs b ≡ false → (e : Event) → happens b e ≡ b
unfolding happens closed answered
happens_over b o (pulse k) = (pulsed_over b k o).0
happens_over b o close = shut_over b o

module _ {s : Settings} {n v : ℕ} (a : Accepted s n v) where
  -- it fits
  pub fits_as : (r : Run) → v + closes r.events ≤ last → fits (board_of s n v r) ≡ true
  unfolding fits board_of stand
  fits_as r small =
      rw (eq-eqb (settings_refusal s) 0 a.checked, fit_is n v a.two a.three r.events small, le-leb (v + closes r.events) last small)

  -- while it runs
  module _ (es : List Event) (small : v + closes es ≤ last) where
    abbrev here : Board
    here = board_of s n v (run es Running)

    pub runs_here : runs here ≡ true
    unfolding runs board_of run stand is_running
    runs_here = fits_as (run es Running) small

    reached_here : reached here ≡ pulses_after s n v es
    unfolding reached looked_at board_of run stand own_stamp pulses_after
    reached_here = rw (stamp_is n v a.two a.three es small 0 (omega arith), neighbours_are n v a.two a.three es small)

    -- a pulse
    hears_here : (k : ℕ) → k ≤ n → hears here k ≡ board_of s n v (run (es ++ pulse k ∷ []) Running)
    unfolding hears board_of run stand
    hears_here k i =
        let e : closes (es ++ pulse k ∷ []) ≡ closes es = unfold closes in omega (arith, closes_++ es (pulse k ∷ [])) in
        rw (e, pick (first_pulse v k es) refl)
      where
        pick : (x : Stamp) → first_pulse v k es ≡ x → heard_by (senders_of n v es) k (v + closes es) ≡ senders_of n v (es ++ pulse k ∷ [])
        pick (heard b) e = heard_again n v a.two a.three es k i e small
        pick silent e = heard_new n v a.two a.three es k i e

    wrong_here : (k : ℕ) → n < k → here ≡ board_of s n v (run (es ++ pulse k ∷ []) Running)
    unfolding board_of run stand
    wrong_here k i =
        let e : closes (es ++ pulse k ∷ []) ≡ closes es = unfold closes in omega (arith, closes_++ es (pulse k ∷ [])) in
        rw (e, heard_wrong n v a.two a.three es k i)

    pub pulse_here : (k : ℕ) → ((pulsed here k).board ≡ board_of s n v (run (es ++ pulse k ∷ []) Running)) × ((pulsed here k).refusal ≡ cond (ltb n k) (Some Sender) None)
    unfolding board_of run senders_of
    pulse_here k =
        by_order k n
        (λ i. rw (taken here k runs_here i, le-ltb n k i) (hears_here k i, refl))
        (λ i. rw (turned_away here k runs_here i, lt-ltb n k i) (wrong_here k i, refl))

    -- a close
    one_more : v + closes (es ++ close ∷ []) ≡ suc (v + closes es)
    unfolding closes
    one_more = omega (arith, closes_++ es (close ∷ []))

    opens : at here (stand (suc (v + closes es)) Running) ≡ board_of s n v (run (es ++ close ∷ []) Running)
    unfolding at board_of run stand
    opens = rw (one_more, heard_close n v a.two a.three es)

    pub close_here : shut here ≡ board_of s n v (unless_over (pulses_after s n v es) (last_after v es) es (run (es ++ close ∷ []) Running))
    unfolding shut board_of closes stand run
    close_here = rw (runs_here, reached_here) (pick (pulses_after s n v es) (last_after v es) refl)
      where
        pick : (p l : Bool) → last_after v es ≡ l → at here (closing p (v + closes es)) ≡ board_of s n v (unless_over p l es (run (es ++ close ∷ []) Running))
        pick true l e = unfold at closing board_of unless_over run stand in refl
        pick false true e = unfold closing unless_over last_after at board_of run stand in rw e
        pick false false e = unfold closing unless_over last_after in rw e opens

  -- once it is over
  over : (es : List Event) (x : Stage) → is_running x ≡ false → runs (board_of s n v (run es x)) ≡ false
  unfolding runs board_of run stand
  over es x e = rw e

  module _ (r : Run) (small : v + closes r.events ≤ last) where
    pub runs_as : runs (board_of s n v r) ≡ is_running r.stage
    unfolding run
    runs_as = pick r.stage
      where
        pick : (x : Stage) → runs (board_of s n v (run r.events x)) ≡ is_running x
        pick Running = unfold is_running in runs_here r.events small
        pick Pulsed = unfold is_running in over r.events Pulsed refl
        pick Ended = unfold is_running in over r.events Ended refl

    -- an event makes of the state what it makes of the run
    pub happens_as : (e : Event) → happens (board_of s n v r) e ≡ board_of s n v (continue s n v r (e ∷ []))
    unfolding run
    happens_as (pulse k) = pick r.stage
      where
        pick : (x : Stage) → happens (board_of s n v (run r.events x)) (pulse k) ≡ board_of s n v (continue s n v (run r.events x) (pulse k ∷ []))
        pick Running = unfold happens continue run_from run is_running in (pulse_here r.events small k).0
        pick Pulsed = unfold continue run is_running in happens_over _ (over r.events Pulsed refl) (pulse k)
        pick Ended = unfold continue run is_running in happens_over _ (over r.events Ended refl) (pulse k)
    happens_as close = pick r.stage
      where
        pick : (x : Stage) → happens (board_of s n v (run r.events x)) close ≡ board_of s n v (continue s n v (run r.events x) (close ∷ []))
        pick Running = unfold happens closed answered continue run_from run is_running in close_here r.events small
        pick Pulsed = unfold continue run is_running in happens_over _ (over r.events Pulsed refl) close
        pick Ended = unfold continue run is_running in happens_over _ (over r.events Ended refl) close

  -- and so does a list of them
  pub happens_of : (es : List Event) (e : Event) → happens (board_of s n v (run_of s n v es)) e ≡ board_of s n v (run_of s n v (es ++ e ∷ []))
  unfolding run_of
  happens_of es e =
      happens_as (run_from s n v [] es) (run_inside s n v [] es (unfold closes in omega (arith, a.early))) e
      ∙ ap (board_of s n v) (sym (run_++ s n v [] es (e ∷ [])))

  pub after_of : (es fs : List Event) → after (board_of s n v (run_of s n v es)) fs ≡ board_of s n v (run_of s n v (es ++ fs))
  unfolding after
  after_of es [] = ap (λ (gs : List Event). board_of s n v (run_of s n v gs)) (sym (append-nil es))
  after_of es (e ∷ fs) =
      ap (λ (b : Board). after b fs) (happens_of es e) ∙ after_of (es ++ e ∷ []) fs
      ∙ ap (λ (gs : List Event). board_of s n v (run_of s n v gs)) (append_assoc es (e ∷ []) fs)

-- many closes are as many events
pub many_closes : (k : ℕ) (b : Board) → shut_many k b ≡ after b (replicate k close)
unfolding shut_many after happens closed answered
many_closes zero b = refl
many_closes (suc k) b = many_closes k (shut b)
