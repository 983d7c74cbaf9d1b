-- The proofs of what specs/Promises.antt states. Assumes nothing.
use mathlib.Core.Path.{◌≡◌, refl, ◌∙◌, ap}
use mathlib.Core.Option.{none, some}
use Prim.Native.Nat.{ℕ}
use Rattle.std.specs.Prelude.{Option, Some, None, Result, Ok, Err}
use Rattle.settings.specs.Refusal.{number, refused}
use Rattle.settings.specs.declared.refusal.Refusal.{Refusal}
use Rattle.row.specs.Row.{pulses}
use Rattle.stages.specs.declared.Wall.{Wall}
use Rattle.stages.specs.declared.Wall.TheVariants.{Over}
use Rattle.steps.specs.Answer.{number_of, offset_of, wall_of, cause_due, number_due, offset_due, wall_then}
use Rattle.steps.specs.Promises.{TakeAnswered}
use Rattle.steps.specs.Take.{refused_at, taken_of, step_from, answer_of, row_after}
use Rattle.steps.specs.declared.RefusedAt.{RefusedAt}
use Rattle.steps.proofs.Laws.Answer.{cause_of, taken_goes, taken_gone, row_goes_on, row_stays}

abbrev answered : Result Wall RefusedAt → Option (Result Wall RefusedAt)
answered t = Some t

pub take_answered : TakeAnswered
unfolding TakeAnswered answer_of row_after step_from number_of offset_of wall_of number_due refused_at
take_answered x part row held a next t = (
  λ e. let is : a ≡ None = t.answered ∙ rw e in
      (rw is, rw is, rw is, t.written ∙ rw e),
  λ e z. let is : a ≡ Some (Ok (wall_then x part)) = t.answered ∙ rw e (ap answered (taken_goes (pulses row held.letters) part x z)) in
      (rw is, rw is, rw is, t.written ∙ rw e (row_goes_on row part held x z)),
  λ e k. let c = cause_of x row part k in
      let is : a ≡ Some (Err (refused_at c.0 (offset_due x part))) = t.answered ∙ rw e (ap answered (taken_gone (pulses row held.letters) part x c.1)) in
      (rw (is, c.1), rw is, rw is, t.written ∙ rw e (row_stays row part held x k)),
)
