-- `row_told` meets its contract. Assumes nothing.
use mathlib.Core.Path.{◌≡◌, sym, ◌∙◌, ap}
use mathlib.Core.Bool.{true}
use mathlib.Core.List.{List}
use Prim.Native.Nat.{ℕ, ◌≤◌, ◌<◌}
use lib.ListN.{length, take}
use native.Mathlib.Omega.{arith}
use Rattle.std.specs.Prelude.{Option, Result}
use Rattle.settings.specs.declared.refusal.Refusal.{Refusal}
use Rattle.settings.proofs.Laws.Settings.{limits}
use Rattle.reach.specs.Survey.{surveyed_of}
use Rattle.reach.specs.declared.survey.Surveyed.{Surveyed}
use Rattle.columns.proofs.Laws.Wrote.{wrote_none}
use Rattle.stages.specs.Fit.{place_fits}
use Rattle.stages.specs.declared.Place.{Place}
use Rattle.stages.specs.declared.Wall.{Wall}
use Rattle.stages.specs.declared.Wall.TheVariants.{Over}
use Rattle.stages.proofs.Laws.{fit_of}
use Rattle.told.proofs.Laws.{said}
use Rattle.telling.specs.Telling.{first_marked, survey_says, row_says}
use Rattle.telling.proofs.Laws.Telling.{row_faulty, row_clean}
use Rattle.telling.proofs.row_told.Goals as goal

-- a row that fits its place
module _ (p : Place) (ts : List ℕ) (fits : place_fits p (length ts) ≡ true) where
  long : length ts ≡ p.settings.width
  long = (fit_of p (length ts) fits).long

  narrow : length ts ≤ 256
  narrow = omega (arith, long, (limits p.settings (fit_of p (length ts) fits).pass).width)

  -- the lowest marked column is that of the wall's width
  module _ (ms : List ℕ) {k : ℕ} (e : k ≡ first_marked (length ts) ms) where
    column : k ≡ first_marked p.settings.width ms
    column = e ∙ ap (λ (w : ℕ). first_marked w ms) long

    within : k < length ts → k < p.settings.width
    within i = omega (arith, long)

    -- a row without faults, by its survey
    clean : (asked : List ℕ) (after : Wall) (m : ℕ) {v : Result (Option Surveyed) Refusal} → length ts ≤ k → v ≡ surveyed_of p.settings p.row m ts →
        row_says asked p after m ms ts ≡ survey_says asked p after m v
    clean asked after m i d =
        row_clean asked p after m ms ts k column (omega (arith, long)) ∙ ap (survey_says asked p after m) (sym d)

pub first_marked-column-requires : goal.first_marked-column-requires
first_marked-column-requires c = let a = c.args in
    (narrow a.place a.row.now c.requires.0, c.requires.1)

pub returns-then-column-width : goal.returns-then-column-width
returns-then-column-width c = let a = c.args in
    let e = c.first_marked-column.ensures in
    said Over a.largest
    (row_faulty _ a.place a.after a.largest a.marks.now a.row.now c.first_marked-column.result (column a.place a.row.now c.requires.0 a.marks.now e)
    (within a.place a.row.now c.requires.0 a.marks.now e c.if-column-width.true))
    c.line.ensures.text

pub returns-in-Ok-Some : goal.returns-in-Ok-Some
unfolding survey_says
returns-in-Ok-Some c = let a = c.args in
    said a.after c.in-Ok-Some.surveyed.largest
    (clean a.place a.row.now c.requires.0 a.marks.now c.first_marked-column.ensures (take 16 a.asked.now) a.after a.largest c.if-column-width.false
    (rw c.in-Ok-Some.field-0-is at c.in-Ok-Some.ensures))
    c.row_lines.ensures

pub returns-in-Ok-None : goal.returns-in-Ok-None
unfolding survey_says
returns-in-Ok-None c = let a = c.args in
    said Over a.largest
    (clean a.place a.row.now c.requires.0 a.marks.now c.first_marked-column.ensures (take 16 a.asked.now) a.after a.largest c.if-column-width.false
    (rw c.in-Ok-None.field-0-is at c.in-Ok-None.ensures))
    (wrote_none a.out.now a.at)

pub returns-in-Err : goal.returns-in-Err
unfolding survey_says
returns-in-Err c = let a = c.args in
    said Over a.largest
    (clean a.place a.row.now c.requires.0 a.marks.now c.first_marked-column.ensures (take 16 a.asked.now) a.after a.largest c.if-column-width.false
    c.in-Err.ensures)
    (wrote_none a.out.now a.at)
