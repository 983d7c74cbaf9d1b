-- The next row in the place of the last. Assumes nothing.
use mathlib.Core.Path.{◌≡◌, refl, sym, ◌∙◌, ap}
use mathlib.Core.Bool.{true, cond}
use mathlib.Core.List.{List}
use Prim.Native.Nat.{ℕ, ◌≤◌}
use native.Mathlib.Omega.{arith}
use borrow.Author.Tests.{eq-eqb}
use Rattle.std.specs.Prelude.{Result, Ok, Err}
use Rattle.settings.specs.Settings.{settings_refusal}
use Rattle.settings.proofs.Laws.Settings.{limits}
use Rattle.row.specs.Row.{Pulses}
use Rattle.stages.specs.Fit.{passes, width_of, place_fits, wall_fits}
use Rattle.stages.specs.declared.Place.{Place}
use Rattle.stages.specs.declared.Wall.{Wall}
use Rattle.stages.specs.declared.Wall.TheVariants.{New, Start, Row, End, Over}
use Rattle.stages.proofs.Laws.{fit_of}
use Rattle.steps.specs.Answer.{cause_due, number_due, wall_then, row_then}
use Rattle.steps.specs.Step.{Stepped, stepped, away, step_of}
use Rattle.steps.specs.Take.{taken_of, next_row}
use Rattle.steps.specs.declared.RefusedAt.{RefusedAt}
use Rattle.steps.proofs.Laws.Taken.{by_cause}
use Rattle.steps.proofs.Laws.Answer.{step_goes, step_away, taken_goes, taken_gone, row_goes_on}
use Rattle.wall.specs.Operation.{accepted_row}

-- room of the wall's width is as long as a row that fits
module _ (p : Place) (n m : ℕ) where
  place_long : place_fits p n ≡ true → m ≡ cond (passes p) p.settings.width 0 → (m ≡ n) × (n ≤ 256)
  unfolding passes
  place_long f e =
      let g = fit_of p n f in
      let w : m ≡ p.settings.width = rw (eq-eqb (settings_refusal p.settings) 0 g.pass) at e in
      (w ∙ sym g.long, omega (arith, g.long, (limits p.settings g.pass).width))

  pub start_long : {x : Wall} → x ≡ Start p → wall_fits x n ≡ true → m ≡ width_of x → (m ≡ n) × (n ≤ 256)
  unfolding wall_fits width_of
  start_long w f e = place_long (rw w at f) (rw w at e)

  pub row_long : {x : Wall} → x ≡ Row p → wall_fits x n ≡ true → m ≡ width_of x → (m ≡ n) × (n ≤ 256)
  unfolding wall_fits width_of
  row_long w f e = place_long (rw w at f) (rw w at e)

-- what a step wrote, in the place of the last row, is the row of the definition
module _ (row : Pulses) (bs : List ℕ) (held : Pulses) where
  accepted : (x : Wall) → accepted_row x (row_then x row.times bs held) row ≡ row_then x row.times bs row
  unfolding accepted_row row_then
  accepted New = refl
  accepted (Start p) = refl
  accepted (Row p) = refl
  accepted (End p) = refl
  accepted Over = refl

  never : {r : RefusedAt} {y : Wall} {C : Type 0} → ◌≡◌ {A = Result Wall RefusedAt} (Err r) (Ok y) → C
  never e = cc e

  accepted_due : (x : Wall) {y : Wall} → taken_of (step_of x row bs) ≡ Ok y → number_due x row.times bs ≡ 0
  unfolding number_due
  accepted_due x is = by_cause (cause_due x row.times bs) (λ e. e) (λ why e. never (sym (taken_gone row bs x e) ∙ is))

  pub accepted_right : (x : Wall) {y : Wall} → taken_of (step_of x row bs) ≡ Ok y →
      (accepted_row x (next_row x row.times bs held) row ≡ (step_of x row bs).row) × (y ≡ (step_of x row bs).next)
  unfolding stepped
  accepted_right x {y} is =
      let e = accepted_due x is in
      let then : Ok y ≡ Ok (wall_then x bs) = sym is ∙ taken_goes row bs x e in
      let same : y ≡ wall_then x bs = cc in (
        ap (λ (r : Pulses). accepted_row x r row) (row_goes_on row.times bs held x e) ∙ accepted x ∙ sym (ap (λ (o : Stepped). o.row) (step_goes row bs x e)),
        same ∙ sym (ap (λ (o : Stepped). o.next) (step_goes row bs x e)),
      )

  -- a step that is turned away leaves the row, and the file is over
  pub refused_right : (x : Wall) {r : RefusedAt} → taken_of (step_of x row bs) ≡ Err r → (row ≡ (step_of x row bs).row) × (Over ≡ (step_of x row bs).next)
  unfolding stepped away number_due
  refused_right x is =
      by_cause (cause_due x row.times bs)
      (λ e. never (sym is ∙ taken_goes row bs x e))
      (λ why e. (sym (ap (λ (o : Stepped). o.row) (step_away row bs x e)), sym (ap (λ (o : Stepped). o.next) (step_away row bs x e))))
