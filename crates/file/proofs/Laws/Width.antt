-- The row that a step leaves is as long as the wall is wide, unless the wall is over. Assumes nothing.
use mathlib.Core.Path.{◌≡◌, refl, sym}
use mathlib.Core.List.{List}
use Prim.Native.Nat.{ℕ}
use native.Mathlib.Omega.{arith}
use borrow.Author.Tests.{eq-eqb}
use lib.ListN.{length, take}
use lib.Seq.{take_all, take-take}
use Rattle.settings.specs.Settings.{settings_refusal}
use Rattle.settings.proofs.Laws.Cases.{by_equal}
use Rattle.columns.proofs.Laws.Lists.{table_length}
use Rattle.row.specs.Row.{Pulses, cut, row_of}
use Rattle.row.proofs.Laws.Progress.{letters_length}
use Rattle.contents.specs.Contents.{call_in}
use Rattle.contents.proofs.Laws.Contents.{times_length}
use Rattle.stages.specs.Fit.{passes, width_of}
use Rattle.stages.specs.declared.Place.{Place}
use Rattle.stages.specs.declared.Wall.{Wall}
use Rattle.stages.specs.declared.Wall.TheVariants.{New, Start, Row, End, Over}
use Rattle.steps.specs.Number.{start_cause, start_number, row_fields_cause, row_number}
use Rattle.steps.specs.Step.{stepped, away, step_of}
use Rattle.steps.proofs.Laws.Taken.{by_cause, settings_keeps, start_away, start_goes, row_away, row_goes, end_away, end_goes}
use Rattle.file.specs.Stands.{Stood, Stands}

wide : (p : Place) → Stood p → width_of (Row p) ≡ p.settings.width
unfolding width_of passes
wide p i = rw (eq-eqb (settings_refusal p.settings) 0 i.pass)

-- a row of W tiles stands whole in its place, and so does one that was taken from there
whole : (n : ℕ) (r : Pulses) → length r.times ≡ n → take n r.letters ≡ r.letters → cut n r ≡ r
whole n r e d = rw (take_all n r.times (omega (arith, e)), d)

pub row_fits : (x : Wall) (row : Pulses) (part : List ℕ) → Stands x → ((step_of x (cut (width_of x) row) part).next ≡ Over → ⊥) →
    cut (width_of x) (step_of x (cut (width_of x) row) part).row ≡ (step_of x (cut (width_of x) row) part).row
unfolding Stands width_of step_of stepped away row_of start_number row_number
row_fits New row part i k = sym (settings_keeps (cut 0 row) part)
row_fits (Start p) row part i k =
    let r = cut (width_of (Start p)) row in
    by_cause (start_cause p.settings part)
    (λ e. rw (start_goes r part p.settings p.offset e, wide p i.0)
    (whole p.settings.width _ (times_length p.settings.width _) (take-take p.settings.width p.settings.width row.letters (omega arith))))
    (λ why j. absurd (k (rw (start_away r part p.settings p.offset j))))
row_fits (Row p) row part i k =
    let r = cut (width_of (Row p)) row in
    let w = p.settings.width in
    by_cause (row_fields_cause p.settings r.times part)
    (λ e. rw (row_goes r part p.settings p.offset p.row e, wide p i.0)
    (whole w _ (table_length _ w 0) (take_all w _ (omega (arith, letters_length p.settings (take w row.times) (call_in w part))))))
    (λ why j. absurd (k (rw (row_away r part p.settings p.offset p.row j))))
row_fits (End p) row part i k =
    let r = cut (width_of (End p)) row in
    by_equal (length part) 0
    (λ e. absurd (k (rw (end_goes r part p.settings p.offset p.row e))))
    (λ j. absurd (k (rw (end_away r part p.settings p.offset p.row j))))
row_fits Over row part i k = absurd (k refl)
