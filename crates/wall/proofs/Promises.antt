-- The proofs of what specs/Promises.antt states. Assumes nothing.
use mathlib.Core.Path.{◌≡◌, refl, ◌∙◌, ap}
use mathlib.Core.Bool.{true}
use mathlib.Core.List.{List, append-nil}
use mathlib.Core.Option.{some}
use Prim.Native.Nat.{ℕ, ◌+◌}
use lib.ListN.{length}
use Rattle.lines.specs.Line.{refused_line}
use Rattle.row.specs.Row.{Pulses}
use Rattle.show.specs.Text.{text_of, texts_of}
use Rattle.steps.specs.Answer.{number_due, offset_due, wall_then, shown_then}
use Rattle.steps.specs.Step.{Stepped, stepped, away, step_of}
use Rattle.steps.proofs.Laws.Answer.{cause_of, step_goes, step_away}
use Rattle.stages.specs.declared.Wall.{Wall}
use Rattle.stages.specs.declared.Wall.TheVariants.{Over}
use Rattle.wall.specs.Operation.{fits, went_to, wall_of, end_of, Stepping}
use Rattle.wall.specs.Promises.{Answered, StepAnswered}
use Rattle.wall.specs.declared.Went.{Went}
use Rattle.std.specs.Prelude.{Option, Some, None}
use Rattle.settings.specs.Refusal.{number}
use Rattle.settings.specs.declared.refusal.Refusal.{Refusal}

-- a call that fits is answered by its step
module _ (x : Wall) (part : List ℕ) (row : Pulses) (held : List ℕ) (at : ℕ) (answer : Option Went) (row_after : Pulses) (out : List ℕ) (d : Stepping x part row held at answer row_after out)
    (e : fits x row (length held) at ≡ true) where
  by_step : (next : Wall) (text : List ℕ) → (step_of x row part).next ≡ next → texts_of (step_of x row part).shows ≡ text → Answered held at answer out next text
  unfolding wall_of end_of went_to
  by_step next text n t =
      let is : answer ≡ Some (went_to (step_of x row part) at) = rw e at d.answered in
      record {
        wall = ap wall_of is ∙ ap some n;
        end = ap end_of is ∙ ap (λ (u : List ℕ). some (at + length u)) t;
        written = rw (← t) (d.text e);
      }

  row_is : row_after ≡ (step_of x row part).row
  row_is = rw e at d.row_left

-- the parts of a step
next_of : (o : Stepped) (x : Wall) (ts : Pulses) (xs : _) → o ≡ stepped x ts xs → (o.next ≡ x) × (o.row ≡ ts) × (o.shows ≡ xs)
unfolding stepped
next_of o x ts xs e = rw e (refl, refl, refl)

away_of : (o : Stepped) (ts : Pulses) (why : Refusal) (at : ℕ) → o ≡ away ts why at → (o.next ≡ Over) × (o.row ≡ ts) × (texts_of o.shows ≡ refused_line (number why) at)
unfolding away stepped texts_of text_of
away_of o ts why at e = rw e (refl, refl, append-nil (refused_line (number why) at))

pub step_answered : StepAnswered
unfolding StepAnswered wall_of end_of number_due
step_answered x part row held at answer row_after out d = (
  λ e. let is : answer ≡ None = rw e at d.answered in
      (ap wall_of is, ap end_of is, rw e at d.row_left, d.kept e),
  λ e z. let o = next_of _ _ _ _ (step_goes row part x z) in (
    by_step x part row held at answer row_after out d e (wall_then x part) (texts_of (shown_then x row part)) o.0 (ap texts_of o.2),
    row_is x part row held at answer row_after out d e ∙ o.1,
  ),
  λ e k. let w = cause_of x row.times part k in
      let o = away_of _ _ _ _ (step_away row part x w.1) in
      let n : number w.0 ≡ number_due x row.times part = rw w.1 in (
        by_step x part row held at answer row_after out d e Over (refused_line (number_due x row.times part) (offset_due x part)) o.0 (o.2 ∙ ap (λ (m : ℕ). refused_line m (offset_due x part)) n),
        row_is x part row held at answer row_after out d e ∙ o.1,
      ),
)
