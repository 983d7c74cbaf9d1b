-- What is told, by its cases. Assumes nothing.
use mathlib.Core.Path.{◌≡◌, refl, ◌∙◌, ap}
use mathlib.Core.Logic.{◌⊎◌, inl, inr}
use mathlib.Core.List.{List, [], ◌∷◌}
use Prim.Native.Nat.{ℕ, ◌≤◌, ◌<◌}
use borrow.Author.Tests.{lt-ltb, le-ltb}
use Rattle.std.specs.Prelude.{Option, Some, None, Result, Ok, Err}
use Rattle.settings.proofs.Laws.Cases.{by_order}
use Rattle.settings.specs.Refusal.{number}
use Rattle.settings.specs.declared.refusal.Refusal.{Refusal}
use Rattle.reach.specs.Survey.{surveyed_of}
use Rattle.reach.specs.declared.survey.Surveyed.{Surveyed}
use Rattle.lines.specs.Line.{refused_line, line_text}
use Rattle.row.specs.Row.{pulses}
use Rattle.steps.specs.Answer.{cause_due, number_due, offset_due, wall_then}
use Rattle.steps.specs.Step.{stepped, step_of}
use Rattle.steps.specs.Take.{refused_at}
use Rattle.steps.proofs.Laws.Taken.{by_cause}
use Rattle.steps.proofs.Laws.Answer.{step_goes, taken_goes, taken_gone}
use Rattle.stages.specs.declared.Place.{Place}
use Rattle.stages.specs.declared.Wall.{Wall}
use Rattle.stages.specs.declared.Wall.TheVariants.{New, Start, Row, End, Over}
use Rattle.search_lines.specs.Text.{faulty_word}
use Rattle.told.specs.Telling.{Telling, says}
use Rattle.telling.specs.Telling.{first_marked, survey_says, row_says, step_says, taken_says, telling}

-- a row, by its lowest marked column
module _ (asked : List ℕ) (p : Place) (after : Wall) (m : ℕ) (ms ts : List ℕ) where
  pub row_faulty : (c : ℕ) → c ≡ first_marked p.settings.width ms → c < p.settings.width →
      row_says asked p after m ms ts ≡ says Over m (line_text faulty_word (p.row ∷ c ∷ []))
  unfolding row_says
  row_faulty c e i = rw (← e, lt-ltb c p.settings.width i)

  pub row_clean : (c : ℕ) → c ≡ first_marked p.settings.width ms → p.settings.width ≤ c →
      row_says asked p after m ms ts ≡ survey_says asked p after m (surveyed_of p.settings p.row m ts)
  unfolding row_says
  row_clean c e i = rw (← e, le-ltb c p.settings.width i)

-- a step, by the refusal of its part
module _ (asked : List ℕ) (x : Wall) (m : ℕ) (ts bs : List ℕ) where
  pub told_away : {why : Refusal} → cause_due x ts bs ≡ Some why →
      telling asked x m ts bs ≡ says Over m (refused_line (number why) (offset_due x bs))
  unfolding telling taken_says refused_at
  told_away e = ap (taken_says asked x m ts bs) (taken_gone (pulses ts []) bs x e)

  pub told_on : number_due x ts bs ≡ 0 → telling asked x m ts bs ≡ step_says asked x (wall_then x bs) m ts bs
  unfolding telling taken_says
  told_on e = ap (taken_says asked x m ts bs) (taken_goes (pulses ts []) bs x e)

-- the wall that is left is the step's, or over
module _ (asked : List ℕ) where
  survey_wall : (p : Place) (after : Wall) (m : ℕ) (v : Result (Option Surveyed) Refusal) →
      ((survey_says asked p after m v).wall ≡ after) ⊎ ((survey_says asked p after m v).wall ≡ Over)
  unfolding survey_says says
  survey_wall p after m (Ok (Some v)) = inl refl
  survey_wall p after m (Ok None) = inr refl
  survey_wall p after m (Err why) = inr refl

  row_wall : (p : Place) (after : Wall) (m : ℕ) (ms ts : List ℕ) →
      ((row_says asked p after m ms ts).wall ≡ after) ⊎ ((row_says asked p after m ms ts).wall ≡ Over)
  row_wall p after m ms ts =
      let c = first_marked p.settings.width ms in
      by_order p.settings.width c
      (λ i. rw (row_clean asked p after m ms ts c refl i) (survey_wall p after m (surveyed_of p.settings p.row m ts)))
      (λ i. inr (ap (λ (t : Telling). t.wall) (row_faulty asked p after m ms ts c refl i) ∙ (unfold says in refl)))

  step_wall : (x after : Wall) (m : ℕ) (ts bs : List ℕ) →
      ((step_says asked x after m ts bs).wall ≡ after) ⊎ ((step_says asked x after m ts bs).wall ≡ Over)
  unfolding step_says says
  step_wall New after m ts bs = inl refl
  step_wall (Start p) after m ts bs = inl refl
  step_wall (Row p) after m ts bs = row_wall p after m _ ts
  step_wall (End p) after m ts bs = inl refl
  step_wall Over after m ts bs = inl refl

  pub told_wall : (x : Wall) (m : ℕ) (ts bs : List ℕ) →
      ((telling asked x m ts bs).wall ≡ (step_of x (pulses ts []) bs).next) ⊎ ((telling asked x m ts bs).wall ≡ Over)
  unfolding number_due stepped
  told_wall x m ts bs =
      by_cause (cause_due x ts bs)
      (λ e. rw (told_on asked x m ts bs e, step_goes (pulses ts []) bs x e) (step_wall x (wall_then x bs) m ts bs))
      (λ why e. inr (ap (λ (t : Telling). t.wall) (told_away asked x m ts bs e) ∙ (unfold says in refl)))
