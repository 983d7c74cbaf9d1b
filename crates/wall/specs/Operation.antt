-- A step with its text: what must fit, and what it leaves. Assumes nothing.
use Rattle.std.specs.Prelude.{◌≡◌, Bool, true, false, cond, ◌&&◌, List, ℕ, ◌+◌, leb, length, Option, Some, None}
use Rattle.std.proofs.Math.Option as maybe
use Rattle.columns.specs.Wrote.{Wrote}
use Rattle.row.specs.Row.{Pulses, pulses}
use Rattle.show.specs.Text.{texts_of}
use Rattle.steps.specs.Step.{Stepped, step_of}
use Rattle.stages.specs.declared.Wall.{Wall}
use Rattle.stages.specs.declared.Wall.TheVariants.{New, Start, Row, End, Over}
use Rattle.wall.specs.declared.Went.{Went}
use Rattle.stages.specs.Fit.{wall_fits}
use Rattle.lines.specs.Row.{step_room}

-- §17.3 whether the row fits the wall, its times and its letters (§E3.6), and the buffer has room for the text of any step
unfoldable pub fits : Wall → (row : Pulses) → (room at : ℕ) → Bool
fits x r room at = leb (at + step_room) room && (wall_fits x (length r.letters) && wall_fits x (length r.times))

-- §13.3 the wall of a step, and where its text ends
unfoldable pub went_to : Stepped → (at : ℕ) → Went
went_to o at = record { wall = o.next; end = at + length (texts_of o.shows) }

-- §13.3 the wall afterwards; what does not fit has none. The number of a refusal, and its offset, are in the text.
unfoldable pub wall_of : Option Went → maybe.Option Wall
wall_of (Some w) = maybe.some w.wall
wall_of None = maybe.none

-- §13.3 where the text ends
unfoldable pub end_of : Option Went → maybe.Option ℕ
end_of (Some w) = maybe.some w.end
end_of None = maybe.none

-- §17.3 the next row in the place of the last, where the part is accepted: row 0, which has no letters, or a later row
unfoldable pub accepted_row : Wall → (next row : Pulses) → Pulses
accepted_row New n r = r
accepted_row (Start p) n r = pulses n.times r.letters
accepted_row (Row p) n r = n
accepted_row (End p) n r = r
accepted_row Over n r = r

-- §13.4 what the operation answers and leaves: a step of the definition where all fits, otherwise nothing has changed
pub record Stepping (x : Wall) (part : List ℕ) (row : Pulses) (held : List ℕ) (at : ℕ) (answer : Option Went) (row_after : Pulses) (out : List ℕ) : Type 0 where
  pub answered : answer ≡ cond (fits x row (length held) at) (Some (went_to (step_of x row part) at)) None
  pub row_left : row_after ≡ cond (fits x row (length held) at) (step_of x row part).row row
  pub text :
      fits x row (length held) at ≡ true →
      Wrote held at (texts_of (step_of x row part).shows) out (at + length (texts_of (step_of x row part).shows))
  pub kept : fits x row (length held) at ≡ false → out ≡ held
