-- What a step tells, by its number, and the wall that is then left. Assumes nothing.
use mathlib.Core.Path.{◌≡◌, refl}
use mathlib.Core.List.{List, []}
use mathlib.Core.Logic.{◌⊎◌, inl, inr}
use mathlib.Core.Option.{Option, none, some}
use Prim.Native.Nat.{ℕ}
use Rattle.std.specs.Prelude as prelude
use Rattle.std.specs.Prelude.{Some, None}
use Rattle.settings.specs.declared.refusal.Refusal.{Refusal}
use Rattle.lines.specs.Line.{refused_line}
use Rattle.row.specs.Row.{pulses}
use Rattle.stages.specs.declared.Wall.{Wall}
use Rattle.stages.specs.declared.Wall.TheVariants.{New, Start, Row, End, Over}
use Rattle.steps.specs.Answer.{cause_due, number_due, offset_due, wall_then, shown_then}
use Rattle.steps.specs.Step.{stepped, away, step_of}
use Rattle.steps.proofs.Laws.Answer.{step_goes, step_away}
use Rattle.told.specs.Telling.{says}
use Rattle.found.specs.Found.{Found, found, answer_text}
use Rattle.found.specs.Finding.{found_then, finding}

module _ (n : ℕ) (x : Wall) (m : ℕ) (ts bs : List ℕ) where
  pub told_away : (number_due x ts bs ≡ 0 → ⊥) → finding n x m ts bs ≡ says Over m (refused_line (number_due x ts bs) (offset_due x bs))
  unfolding finding found_then found away stepped answer_text number_due
  told_away k = go (cause_due x ts bs) refl
    where
      go : (c : prelude.Option Refusal) → cause_due x ts bs ≡ c → finding n x m ts bs ≡ says Over m (refused_line (number_due x ts bs) (offset_due x bs))
      go None e = absurd (k (rw e))
      go (Some why) e = rw (step_away (pulses ts []) bs x e, e)

  pub told_on : number_due x ts bs ≡ 0 → finding n x m ts bs ≡ found_then x (wall_then x bs) m (found n (shown_then x (pulses ts []) bs))
  unfolding finding stepped
  told_on e = rw (step_goes (pulses ts []) bs x e)

-- the wall that is left is the step's, or over
then_wall : (x after : Wall) (m : ℕ) (a : Option Found) → ((found_then x after m a).wall ≡ after) ⊎ ((found_then x after m a).wall ≡ Over)
unfolding found_then says
then_wall x after m (some a) = inr refl
then_wall New after m none = inl refl
then_wall (Start p) after m none = inl refl
then_wall (Row p) after m none = inl refl
then_wall (End p) after m none = inl refl
then_wall Over after m none = inl refl

pub told_wall : (n : ℕ) (x : Wall) (m : ℕ) (ts bs : List ℕ) →
    ((finding n x m ts bs).wall ≡ (step_of x (pulses ts []) bs).next) ⊎ ((finding n x m ts bs).wall ≡ Over)
unfolding finding
told_wall n x m ts bs = let o = step_of x (pulses ts []) bs in then_wall x o.next m (found n o.shows)
