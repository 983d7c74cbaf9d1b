-- A run between two of its steps: its state, and what reading, handing over and stepping leave. Assumes nothing.
use Rattle.std.specs.Prelude.{◌≡◌, Bool, false, cond, ◌||◌, List, ℕ, ◌+◌, ◌-◌, ◌≤◌, min, ltb, length, take, Result, Ok, Err, IfOk}
use Rattle.lines.specs.Row.{step_room}
use Rattle.columns.specs.Wrote.{Wrote}
use Rattle.row.specs.Row.{Pulses, cut}
use Rattle.stages.specs.Fit.{due_of, width_of}
use Rattle.window.specs.Window.{InBuffer, bytes_in, lacking, FilledUp}
use Rattle.file.specs.Stands.{Stands}
use Rattle.stages.specs.declared.Wall.{Wall}
use Rattle.stages.specs.declared.Wall.TheVariants.{New, Over}
use Rattle.stream.specs.Run.{Kind, brings, Ran}
use Rattle.stream.specs.declared.State.{State}
use Rattle.stream.specs.declared.Failed.{Failed}
use Rattle.stream.specs.declared.Failed.TheVariants as failed
use Rattle.stream.specs.declared.Outcome.{Outcome}

-- §16.2 the wall is one that steps leave, and the window and the text lie within buffers of so many bytes
pub record Between (s : State) (input output : ℕ) : Type 0 where
  pub stands : Stands s.wall
  pub within : InBuffer s.window input
  pub text : s.text ≤ output

-- §16.2 before the first step nothing is read and nothing is to be handed over
pub record Starts (s : State) : Type 0 where
  pub wall : s.wall ≡ New
  pub start : s.window.start ≡ 0
  pub end : s.window.end ≡ 0
  pub flag : s.window.ended ≡ false
  pub text : s.text ≡ 0

-- §16.3 the text is handed over, whole, where a read is to come or the room would be too small
unfoldable pub to_hand : State → (output : ℕ) → Bool
to_hand s n = lacking s.window (due_of s.wall) || ltb n (s.text + step_room)

-- §16.2 made ready for a step: the due part is in the window or the input has ended, and there is room for the step's text
pub record MadeReady (s : State) (before : List ℕ) (output : ℕ) (r : State) (after : List ℕ) : Type 0 where
  pub wall : r.wall ≡ s.wall
  pub filled : FilledUp s.window (due_of s.wall) before r.window after
  pub idle : lacking s.window (due_of s.wall) ≡ false → (r.window ≡ s.window) × (after ≡ before)
  pub text : r.text ≡ cond (to_hand s output) 0 s.text
  pub room : r.text + step_room ≤ output

-- §16.2 made ready, or stopped, which is not the end of a file
abbrev pub made_ready : State → (before : List ℕ) → (output : ℕ) → Result State Failed → (after : List ℕ) → Type 0
made_ready s before n t after = IfOk t (λ r. MadeReady s before n r after)

-- §16.2 where the due part ends in the buffer, or what there is of it
abbrev pub part_end : State → ℕ
part_end s = s.window.start + min (due_of s.wall) (s.window.end - s.window.start)

-- §16.4 after a step: its wall, the bytes behind the due part, and text up to so many bytes
unfoldable pub stepped : State → Wall → (text : ℕ) → State
stepped s x n = record { wall = x; window = record { start = part_end s; end = s.window.end; ended = s.window.ended }; text = n }

-- §16.4 what a step of the due part leaves: its text stands behind what stood in the buffer, and its row in the row's place, unless the wall is over
pub record Advanced {K : Type 0} (step : Kind K) (s : State) (k : K) (input : List ℕ) (lent : Pulses) (output : List ℕ) (r : State) (l : K) (lent_after : Pulses) (output_after : List ℕ) : Type 0 where
  pub state : r ≡ stepped s (brings step s.wall k lent (bytes_in s.window input)).wall r.text
  pub keeps : l ≡ (brings step s.wall k lent (bytes_in s.window input)).keeps
  pub row :
      ((brings step s.wall k lent (bytes_in s.window input)).wall ≡ Over → ⊥) →
      cut (width_of s.wall) lent_after ≡ (brings step s.wall k lent (bytes_in s.window input)).row
  pub text : Wrote output s.text (brings step s.wall k lent (bytes_in s.window input)).text output_after r.text

-- §16.4 a state that a chain of turns leads to, with what the buffers then hold
pub record Standing {K : Type 0} (step : Kind K) (first : K) (s : State) (k : K) (input : List ℕ) (lent : Pulses) (output : List ℕ) : Type 0 where
  pub between : Between s (length input) (length output)
  pub ran : Ran step first s.window.ended s.wall k lent (bytes_in s.window input) (take s.text output)

-- §16.3 the last text is handed over, all of it, or the state is as it was
unfoldable pub finished : State → Result Unit Failed → (after : State) → Type 0
finished s (Ok x) r = r ≡ record { wall = s.wall; window = s.window; text = 0 }
finished s (Err failed.Read) r = ⊥
finished s (Err failed.Write) r = r ≡ s

-- §16.4 how a run ends: at a state that a chain of turns leads to, where the failed turn began if one failed. It is done only where the wall is
-- over and all text is handed over.
pub record Ends {K : Type 0} (step : Kind K) (first : K) (r : Outcome) (k : K) (lent : Pulses) (output : List ℕ) : Type 0 where
  pub held : List ℕ
  pub ran : Ran step first r.state.window.ended r.state.wall k lent held (take r.state.text output)
  pub done : r.ended ≡ Ok tt → (r.state.wall ≡ Over) × (r.state.text ≡ 0)

-- §16.4 a run from its start comes to this, with what it kept and with buffers that are its own
pub record ComesTo {K : Type 0} (step : Kind K) (first : K) (r : Outcome) : Type 0 where
  pub keeps : K
  pub lent : Pulses
  pub output : List ℕ
  pub ends : Ends step first r keeps lent output
