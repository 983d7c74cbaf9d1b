-- What is claimed of a run, whatever its step: its turns, and what it hands over. Each kind of run proves them of its own step.
-- Assumes nothing.
use Rattle.std.specs.Prelude.{◌≡◌, true, List, [], ◌++◌, ℕ, length, take, Ok}
use Rattle.row.specs.Row.{Pulses}
use Rattle.stages.specs.Fit.{due_of}
use Rattle.stream.specs.Run.{Kind}
use Rattle.stream.specs.State.{MadeReady, Advanced, Standing, Ends}
use Rattle.stream.specs.declared.State.{State}
use Rattle.stream.specs.declared.Outcome.{Outcome}

-- §16.4 what `ready` and an `advance` ensure is one turn more of the chain
unfoldable pub TurnRight : {K : Type 0} → Kind K → (first : K) → Type 0
TurnRight {K} step first =
    (s m r : State) (k l : K) (input : List ℕ) (lent : Pulses) (output after : List ℕ) (lent_after : Pulses) (output_after : List ℕ) → (due_of s.wall ≡ 0 → ⊥) →
    Standing step first s k input lent output → MadeReady s input (length output) m after →
    Advanced step m k after lent output r l lent_after output_after →
    Standing step first r l after lent_after output_after

-- §16.4 a run that is done has handed over what the definition of the whole gives for the bytes that were delivered, in whatever pieces, and
-- whatever bytes follow them unread. One whose read or write failed has handed over a beginning of that.
unfoldable pub RunRight : {K : Type 0} → Kind K → (first : K) → (whole : (file : List ℕ) → List ℕ) → Type 0
RunRight {K} step first whole =
    (r : Outcome) (k : K) (lent : Pulses) (output : List ℕ) (e : Ends step first r k lent output) →
    let delivered = e.ran.delivered in
    let handed = e.ran.handed in
    (rest : List ℕ) → (r.state.window.ended ≡ true → rest ≡ []) →
    (r.ended ≡ Ok tt → handed ≡ whole (delivered ++ rest)) × (take (length handed) (whole (delivered ++ rest)) ≡ handed)

-- §16.4 a run that is done, with a file delivered to it
pub record DoneWith {K : Type 0} (step : Kind K) (first : K) (file : List ℕ) : Type 0 where
  pub outcome : Outcome
  pub keeps : K
  pub lent : Pulses
  pub output : List ℕ
  pub ends : Ends step first outcome keeps lent output
  pub done : outcome.ended ≡ Ok tt
  pub delivered : ends.ran.delivered ≡ file

-- §16.4 every file has one: what is claimed of runs is claimed of something
unfoldable pub AnyFile : {K : Type 0} → Kind K → (first : K) → Type 0
AnyFile step first = (file : List ℕ) → DoneWith step first file
