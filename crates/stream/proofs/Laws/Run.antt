-- The chain of a run's turns: where it begins, what a turn adds, how it ends. Assumes nothing.
use mathlib.Core.Path.{◌≡◌, refl, sym, ◌∙◌, ap}
use mathlib.Core.Bool.{Bool, true, false, cond}
use mathlib.Core.List.{List, [], ◌++◌, append-nil, append_assoc}
use Rattle.std.specs.Prelude.{Result, Ok, Err}
use Prim.Native.Nat.{ℕ, ◌-◌, ◌<◌}
use lib.ListN.{length, take, drop, take-append-drop}
use Rattle.row.specs.Row.{Pulses}
use Rattle.stages.specs.Fit.{due_of}
use Rattle.stages.specs.declared.Wall.{Wall}
use Rattle.stages.specs.declared.Wall.TheVariants.{Over}
use Rattle.file.specs.Stands.{Stands, steps_left}
use Rattle.file.proofs.Laws.Stands.{Ahead}
use Rattle.window.specs.Window.{InBuffer, bytes_in, lacking}
use Rattle.stream.specs.Run.{Brought, Kind, brings, begins, reads, ends, steps, Ran}
use Rattle.stream.specs.State.{Starts, to_hand, MadeReady, stepped, Advanced, Standing, finished, Ends}
use Rattle.stream.specs.Promises.{TurnRight}
use Rattle.stream.specs.declared.State.{State}
use Rattle.stream.specs.declared.Failed.{Failed}
use Rattle.stream.specs.declared.Failed.TheVariants as failed
use Rattle.stream.specs.declared.Outcome.{Outcome}
use Rattle.stream.proofs.Laws.State.{starts_between, ready_between, rest_left, left_within, wrote_within}
use Rattle.stream.proofs.Laws.Held.{lack_held, enough_held}

failed_not_done : (e : Failed) → ◌≡◌ {A = Result Unit Failed} (Err e) (Ok tt) → ⊥
failed_not_done e d = cc

module _ {K : Type 0} (step : Kind K) (first : K) where
  pub begun : (s : State) (input : List ℕ) (lent : Pulses) (output : List ℕ) → Starts s → Standing step first s first input lent output
  unfolding bytes_in
  begun s input lent output b =
      let none : bytes_in s.window input ≡ [] = rw (b.start, b.end) refl in
      let clear : take s.text output ≡ [] = rw b.text refl in
      record {
        between = starts_between s (length input) (length output) b;
        ran = record { delivered = []; handed = []; turns = rw (b.flag, b.wall, none, clear) begins };
      }

  -- text is handed over, or kept
  handed_on : {ended : Bool} {x : Wall} {k : K} {lent : Pulses} {held : List ℕ} (output : List ℕ) (t u : ℕ) (b : Bool) → u ≡ cond b 0 t →
      Ran step first ended x k lent held (take t output) → Ran step first ended x k lent held (take u output)
  handed_on output t u true e r =
      record { delivered = r.delivered; handed = r.handed ++ take t output; turns = rw (e, append-nil (r.handed ++ take t output)) r.turns }
  handed_on output t u false e r = rw e r

  -- bytes are read, and the input may have ended
  module _ (s m : State) (input after : List ℕ) (n : ℕ) (made : MadeReady s input n m after) where
    more : bytes_in s.window input ++ drop (s.window.end - s.window.start) (bytes_in m.window after) ≡ bytes_in m.window after
    more = rw (← made.filled.first) (take-append-drop (s.window.end - s.window.start) (bytes_in m.window after))

    -- bytes that come behind what is held, and then the input may have ended
    read_more : {k : K} {lent : Pulses} {pending : List ℕ} (b : Bool) → m.window.ended ≡ b → length (bytes_in s.window input) < due_of s.wall →
        Ran step first false s.wall k lent (bytes_in s.window input) pending → Ran step first b s.wall k lent (bytes_in m.window after) pending
    read_more false q short r =
        record {
          delivered = r.delivered ++ drop (s.window.end - s.window.start) (bytes_in m.window after);
          handed = r.handed;
          turns = rw more at (reads (drop (s.window.end - s.window.start) (bytes_in m.window after)) short r.turns);
        }
    read_more true q short r =
        record {
          delivered = r.delivered ++ drop (s.window.end - s.window.start) (bytes_in m.window after);
          handed = r.handed;
          turns = ends (rw more at (reads (drop (s.window.end - s.window.start) (bytes_in m.window after)) short r.turns));
        }

    -- they are read only where something is lacking
    read_on : {k : K} {lent : Pulses} {pending : List ℕ} (t : Bool) → lacking s.window (due_of s.wall) ≡ t → InBuffer s.window (length input) →
        Ran step first s.window.ended s.wall k lent (bytes_in s.window input) pending →
        Ran step first m.window.ended s.wall k lent (bytes_in m.window after) pending
    unfolding bytes_in
    read_on true e i r =
        let lack = lack_held s.window (due_of s.wall) input s.window.ended refl i e in
        read_more m.window.ended refl lack.1 (rw lack.0 at r)
    read_on false e i r = let idle = made.idle e in rw (idle.0, idle.1) r

  pub made_standing : (s m : State) (k : K) (input : List ℕ) (lent : Pulses) (output after : List ℕ) → Standing step first s k input lent output →
      MadeReady s input (length output) m after → Standing step first m k after lent output
  made_standing s m k input lent output after i made =
      record {
        between = ready_between s input (length output) m after i.between made;
        ran =
            rw made.wall
            (handed_on output s.text m.text (to_hand s (length output)) made.text
            (read_on s m input after (length output) made (lacking s.window (due_of s.wall)) refl i.between.within i.ran));
      }

  -- a step: it leads on, and fewer steps are left
  module _ (ahead : (x : Wall) (k : K) (ts : Pulses) (part : List ℕ) → Stands x → (due_of x ≡ 0 → ⊥) → Ahead (step x k ts part).wall (steps_left x))
      (s r : State) (k l : K) (input : List ℕ) (lent : Pulses) (output : List ℕ) (lent_after : Pulses) (output_after : List ℕ) (some : due_of s.wall ≡ 0 → ⊥)
      (went : Advanced step s k input lent output r l lent_after output_after) (i : Standing step first s k input lent output) where
    abbrev brought : Brought K
    brought = brings step s.wall k lent (bytes_in s.window input)

    wall_is : r.wall ≡ brought.wall
    unfolding stepped
    wall_is = ap (λ (t : State). t.wall) went.state

    onward : Ahead r.wall (steps_left s.wall)
    onward = rw wall_is (ahead s.wall k _ _ i.between.stands some)

    pub step_less : steps_left r.wall < steps_left s.wall
    step_less = onward.less

    pub step_standing : lacking s.window (due_of s.wall) ≡ false → Standing step first r l input lent_after output_after
    unfolding stepped
    step_standing enough =
        let w = s.window in
        let window_is : r.window ≡ (stepped s brought.wall r.text).window = ap (λ (t : State). t.window) went.state in
        let rest : bytes_in r.window input ≡ drop (due_of s.wall) (bytes_in w input) = rw window_is (rest_left w (due_of s.wall) input i.between.within) in
        let flag : r.window.ended ≡ w.ended = rw window_is in
        let h = i.ran.handed in
        let text : h ++ take r.text output_after ≡ (h ++ take s.text output) ++ brought.text =
        rw went.text.holds (sym (append_assoc h (take s.text output) brought.text)) in
        let short = enough_held w (due_of s.wall) input w.ended refl i.between.within enough in
        record {
          between =
              record {
                stands = onward.stands;
                within = rw window_is (left_within w (due_of s.wall) input i.between.within);
                text = wrote_within output s.text _ output_after r.text i.between.text went.text;
              };
          ran =
              record {
                delivered = i.ran.delivered;
                handed = h;
                turns = rw (rest, text, flag, wall_is, went.keeps) (steps lent_after short went.row i.ran.turns);
              };
        }

  -- a turn: made ready, and then a step
  module _ (ahead : (x : Wall) (k : K) (ts : Pulses) (part : List ℕ) → Stands x → (due_of x ≡ 0 → ⊥) → Ahead (step x k ts part).wall (steps_left x))
      (s m r : State) (k l : K) (input : List ℕ) (lent : Pulses) (output after : List ℕ) (lent_after : Pulses) (output_after : List ℕ) (some : due_of s.wall ≡ 0 → ⊥)
      (i : Standing step first s k input lent output) (made : MadeReady s input (length output) m after)
      (went : Advanced step m k after lent output r l lent_after output_after) where
    some_made : due_of m.wall ≡ 0 → ⊥
    some_made e = some (rw made.wall at e)

    pub turn_standing : Standing step first r l after lent_after output_after
    turn_standing =
        step_standing ahead m r k l after lent output lent_after output_after some_made went (made_standing s m k input lent output after i made)
        (rw made.wall made.filled.enough)

    pub turn_less : steps_left r.wall < steps_left s.wall
    turn_less =
        rw made.wall at
        (step_less ahead m r k l after lent output lent_after output_after some_made went (made_standing s m k input lent output after i made))

  pub turn_right : ((x : Wall) (k : K) (ts : Pulses) (part : List ℕ) → Stands x → (due_of x ≡ 0 → ⊥) → Ahead (step x k ts part).wall (steps_left x)) →
      TurnRight step first
  unfolding TurnRight
  turn_right ahead s m r k l input lent output after lent_after output_after some i made went =
      turn_standing ahead s m r k l input lent output after lent_after output_after some i made went

  -- a turn that failed ends the run where it began
  pub stopped : (s : State) (k : K) (input : List ℕ) (lent : Pulses) (output : List ℕ) (e : Failed) → Standing step first s k input lent output →
      Ends step first (record { ended = Err e; state = s }) k lent output
  stopped s k input lent output e i = record { held = bytes_in s.window input; ran = i.ran; done = λ d. absurd (failed_not_done e d) }

  -- the last text
  finished_at : (s t : State) (k : K) (input : List ℕ) (lent : Pulses) (output : List ℕ) (e : Result Unit Failed) → s.wall ≡ Over → Standing step first s k input lent output →
      finished s e t → Ends step first (record { ended = e; state = t }) k lent output
  unfolding finished
  finished_at s t k input lent output (Ok x) over i f =
      record {
        held = bytes_in s.window input;
        ran = rw f (handed_on output s.text 0 true refl i.ran);
        done = λ _. (ap (λ (u : State). u.wall) f ∙ over, ap (λ (u : State). u.text) f);
      }
  finished_at s t k input lent output (Err failed.Read) over i f = absurd f
  finished_at s t k input lent output (Err failed.Write) over i f = rw f (stopped s k input lent output failed.Write i)

  pub finishes : (s : State) (r : Outcome) (k : K) (input : List ℕ) (lent : Pulses) (output : List ℕ) → s.wall ≡ Over → Standing step first s k input lent output →
      finished s r.ended r.state → Ends step first r k lent output
  finishes s r k input lent output over i f = finished_at s r.state k input lent output r.ended over i f
