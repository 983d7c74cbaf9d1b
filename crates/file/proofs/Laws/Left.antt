-- Walls that steps reach fit the next step, with the row that the last one left. Assumes nothing.
use mathlib.Core.Path.{◌≡◌, refl}
use mathlib.Core.Bool.{true}
use mathlib.Core.List.{List}
use Prim.Native.Nat.{ℕ}
use lib.ListN.{length}
use borrow.Author.Tests.{eq-eqb, lt-ltb, le-ltb}
use Rattle.settings.specs.declared.Settings.{Settings}
use Rattle.settings.proofs.Laws.Cases.{by_equal, by_order}
use Rattle.row.specs.Row.{Pulses, row_of, letters_of}
use Rattle.columns.proofs.Laws.Lists.{table_length}
use Rattle.steps.specs.Number.{settings_field_cause, settings_number, start_cause, start_number, row_fields_cause, row_number}
use Rattle.stages.specs.Fit.{place, passes, width_of, wall_fits}
use Rattle.steps.specs.Step.{stepped, away, after_row, step_of}
use Rattle.file.specs.Program.{Left, new, lend, next}
use Rattle.file.specs.Stands.{Stands}
use Rattle.stages.specs.declared.Place.{Place}
use Rattle.stages.specs.declared.Wall.{Wall}
use Rattle.stages.specs.declared.Wall.TheVariants.{New, Start, Row, End, Over}
use Rattle.contents.proofs.Laws.Contents.{times_length}
use Rattle.stages.proofs.Laws.{fit_of}
use Rattle.steps.proofs.Laws.Taken.{by_cause, settings_away, settings_goes, start_away, start_goes, row_away, row_goes, end_away, end_goes}
use Rattle.file.proofs.Laws.Stands.{step_stands, stands_fits}

-- row 0 and the rows after it have W times, and room for W letters
pub record Wide (w : ℕ) (row : Pulses) : Type 0 where
  pub times : length row.times ≡ w
  pub letters : length row.letters ≡ w

abbrev Long : Wall → Pulses → Type 0
Long New row = Unit {0}
Long (Start p) row = Unit {0}
Long (Row p) row = Wide p.settings.width row
Long (End p) row = Wide p.settings.width row
Long Over row = Unit {0}

after_long : (s : Settings) (l at : ℕ) (row : Pulses) → Wide s.width row → Long (after_row s l at) row
unfolding after_row place
after_long s l at row e = by_order s.rows l (λ i. rw (le-ltb l s.rows i) e) (λ i. rw (lt-ltb l s.rows i) e)

step_long : (x : Wall) (row : Pulses) (bs : List ℕ) → wall_fits x (length row.letters) ≡ true → Long (step_of x row bs).next (step_of x row bs).row
unfolding step_of stepped away row_of letters_of wall_fits settings_number start_number row_number
step_long New row bs f =
    by_cause (settings_field_cause bs)
    (λ e. rw (settings_goes row bs e) tt)
    (λ why e. rw (settings_away row bs e) tt)
step_long (Start p) row bs f =
    let s = p.settings in
    by_cause (start_cause s bs)
    (λ e. rw (start_goes row bs s p.offset e) (unfold place in record { times = times_length s.width _; letters = (fit_of p (length row.letters) f).long }))
    (λ why e. rw (start_away row bs s p.offset e) tt)
step_long (Row p) row bs f =
    let s = p.settings in
    by_cause (row_fields_cause s row.times bs)
    (λ e. rw (row_goes row bs s p.offset p.row e) (after_long s _ _ _ (record { times = table_length _ s.width 0; letters = table_length _ s.width 0 })))
    (λ why e. rw (row_away row bs s p.offset p.row e) tt)
step_long (End p) row bs f =
    by_equal (length bs) 0
    (λ e. rw (end_goes row bs p.settings p.offset p.row e) tt)
    (λ k. rw (end_away row bs p.settings p.offset p.row k) tt)
step_long Over row bs f = tt

kept : {x : Wall} {row : Pulses} → Left x row → Stands x × Long x row
unfolding Stands
kept (new row) = (tt, tt)
kept (lend held r) = ((kept r).0, tt)
kept (next {x} {row} part f g r) = (step_stands x row part (kept r).0, step_long x row part g)

-- a row as long as the wall is wide fits
fits_long : (x : Wall) (n : ℕ) → Stands x → n ≡ width_of x → wall_fits x n ≡ true
fits_long x n i e = rw e (stands_fits x i)

wide_fits : (x : Wall) (row : Pulses) → Stands x → Wide (width_of x) row → (wall_fits x (length row.times) ≡ true) × (wall_fits x (length row.letters) ≡ true)
wide_fits x row i w = (fits_long x _ i w.times, fits_long x _ i w.letters)

pub left_fits : (x : Wall) (row : Pulses) → Left x row →
    ((p : Place) → x ≡ Start p → (length row.times ≡ p.settings.width) × (length row.letters ≡ p.settings.width)) →
    (wall_fits x (length row.times) ≡ true) × (wall_fits x (length row.letters) ≡ true)
unfolding wall_fits width_of passes Stands
left_fits New row r long = (refl, refl)
left_fits (Start p) row r long =
    let k = (kept r).0 in
    let w = long p refl in
    wide_fits (Start p) row k (rw (eq-eqb _ _ k.0.pass) (record { times = w.0; letters = w.1 }))
left_fits (Row p) row r long = let k = kept r in wide_fits (Row p) row k.0 (rw (eq-eqb _ _ k.0.0.pass) k.1)
left_fits (End p) row r long = let k = kept r in wide_fits (End p) row k.0 (rw (eq-eqb _ _ k.0.pass) k.1)
left_fits Over row r long = (refl, refl)
