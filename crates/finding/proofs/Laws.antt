-- What a step tells, by what was taken and what it brings. Assumes nothing.
use mathlib.Core.Path.{◌≡◌, refl, sym, ◌∙◌, ap}
use mathlib.Core.Bool.{true, false, cond}
use mathlib.Core.List.{List, []}
use mathlib.Core.Option.{none}
use Prim.Native.Nat.{ℕ, zero, suc}
use lib.Dec.{eqb}
use lib.ListN.{length, length-replicate}
use native.Mathlib.Omega.{arith}
use borrow.Author.Tests.{ne_eqb}
use Rattle.std.specs.Prelude.{Option, Some, None, Result, Ok, Err}
use Rattle.settings.specs.Refusal.{number}
use Rattle.settings.specs.Settings.{settings_refusal}
use Rattle.settings.specs.declared.Settings.{Settings}
use Rattle.settings.specs.declared.refusal.Refusal.{Refusal}
use Rattle.settings.proofs.Laws.Cases.{by_equal}
use Rattle.columns.specs.Marks.{mark_bytes}
use Rattle.contents.specs.Contents.{marks_in}
use Rattle.lines.specs.Line.{refused_line}
use Rattle.row.specs.Row.{pulses}
use Rattle.stages.specs.Fit.{wall_fits}
use Rattle.stages.specs.declared.Place.{Place}
use Rattle.stages.specs.declared.Wall.{Wall}
use Rattle.stages.specs.declared.Wall.TheVariants.{New, Start, Row, End, Over}
use Rattle.stages.proofs.Laws.{fit_of}
use Rattle.steps.specs.Answer.{number_due, offset_due, wall_then, shown_then}
use Rattle.steps.specs.Shown.{row_shown, no_marks, number_shown}
use Rattle.steps.specs.Step.{stepped, step_of}
use Rattle.steps.specs.Take.{refused_at, taken_of}
use Rattle.steps.specs.declared.RefusedAt.{RefusedAt}
use Rattle.steps.proofs.Laws.Answer.{cause_of, step_goes, no_refusal, taken_goes, taken_gone}
use Rattle.show.proofs.Laws.{row_marks}
use Rattle.told.specs.Telling.{says}
use Rattle.wide.specs.Wide.{first_wide}
use Rattle.wide.specs.declared.Wide as seam
use Rattle.wide.proofs.Laws.Seam.{row_lent}
use Rattle.found.specs.Found.{in_row, found}
use Rattle.found.specs.Finding.{found_then, finding}
use Rattle.found.proofs.Laws.Finding.{told_away, told_on}
use Rattle.finding.specs.Brought.{first_brought, row_brought, step_brought, telling_of}

-- what is found in a row that is shown, by its first wide seam
row_found : (n : ℕ) (ts ms : List ℕ) (s : Settings) (l : ℕ) → settings_refusal s ≡ 0 → length ts ≡ s.width → length ms ≡ mark_bytes s.width →
    found n (row_shown s l ms (pulses ts [])) ≡ in_row l (cond (eqb l 0) (Ok None) (first_wide s ts ms n)) none
unfolding row_shown found in_row
row_found n ts ms s zero pass long marks = refl
row_found n ts ms s (suc l) pass long marks =
    rw (ne_eqb (suc l) 0 (λ e. omega (arith, e))) (ap (λ (x : Result (Option seam.Wide) Refusal). in_row (suc l) x none) (sym (row_lent s ts ms n pass long marks)))

module _ (after : Wall) (m : ℕ) where
  by_first : (p : Place) (l : ℕ) (x : Result (Option seam.Wide) Refusal) →
      (found_then (Row p) after m (in_row l x none) ≡ telling_of after m (first_brought l false x))
      × (found_then (End p) after m (in_row l x none) ≡ telling_of after m (first_brought l true x))
  unfolding found_then in_row first_brought telling_of
  by_first p l (Ok (Some w)) = (refl, refl)
  by_first p l (Ok None) = (refl, refl)
  by_first p l (Err why) = (refl, refl)

  -- what is told of what is then shown is what is told of what the step brings
  brings : (n : ℕ) (ts bs : List ℕ) (x : Wall) → wall_fits x (length ts) ≡ true → number_shown (step_of x (pulses ts []) bs).shows ≡ 0 →
      found_then x after m (found n (shown_then x (pulses ts []) bs)) ≡ telling_of after m (step_brought n x ts bs)
  unfolding shown_then found found_then telling_of wall_fits step_brought row_brought
  brings n ts bs New fits z = refl
  brings n ts bs (Start p) fits z = refl
  brings n ts bs (Row p) fits z =
      let fit = fit_of p _ fits in
      ap (found_then (Row p) after m)
      (row_found n ts (marks_in p.settings.width bs) p.settings p.row fit.pass fit.long (row_marks (Row p) (pulses ts []) bs z refl))
      ∙ (by_first p p.row _).0
  brings n ts bs (End p) fits z =
      let fit = fit_of p _ fits in
      ap (found_then (End p) after m)
      (row_found n ts (no_marks p.settings.width) p.settings p.row fit.pass fit.long (unfold no_marks in length-replicate (mark_bytes p.settings.width) 0))
      ∙ (by_first p p.row _).1
  brings n ts bs Over fits z = refl

-- by what was taken
module _ (n : ℕ) (x : Wall) (m : ℕ) (ts bs : List ℕ) {t : Result Wall RefusedAt} (is : t ≡ taken_of (step_of x (pulses ts []) bs)) where
  goes : {y : Wall} → t ≡ Ok y → (number_due x ts bs ≡ 0) × (y ≡ wall_then x bs)
  goes e =
      by_equal (number_due x ts bs) 0
      (λ z. let f = sym e ∙ is ∙ taken_goes (pulses ts []) bs x z in (z, cc f))
      (λ k. let f = sym e ∙ is ∙ taken_gone (pulses ts []) bs x (cause_of x ts bs k).1 in absurd (cc f))

  -- an accepted step shows no refusal
  quiet : number_due x ts bs ≡ 0 → number_shown (step_of x (pulses ts []) bs).shows ≡ 0
  unfolding stepped
  quiet z = rw (step_goes (pulses ts []) bs x z) (no_refusal (pulses ts []) bs x).0

  -- a part that is turned away
  pub says_refused : {r : RefusedAt} → t ≡ Err r → finding n x m ts bs ≡ says Over m (refused_line (number r.refusal) r.offset)
  unfolding number_due refused_at
  says_refused {r} e =
      by_equal (number_due x ts bs) 0
      (λ z. let f = sym e ∙ is ∙ taken_goes (pulses ts []) bs x z in absurd (cc f))
      (λ k.
      let c = cause_of x ts bs k in
      let f = sym e ∙ is ∙ taken_gone (pulses ts []) bs x c.1 in
      let g : r ≡ refused_at c.0 (offset_due x bs) = cc f in
      told_away n x m ts bs k ∙ rw (g, c.1))

  -- one that is accepted
  pub says_brought : {y : Wall} → wall_fits x (length ts) ≡ true → t ≡ Ok y → finding n x m ts bs ≡ telling_of y m (step_brought n x ts bs)
  says_brought {y} fits e =
      let g = goes e in
      told_on n x m ts bs g.0
      ∙ ap (λ (v : Wall). found_then x v m (found n (shown_then x (pulses ts []) bs))) (sym g.1)
      ∙ brings y m n ts bs x fits (quiet g.0)
