-- `tell` meets its contract. Assumes nothing.
use mathlib.Core.Path.{◌≡◌, sym, ◌∙◌, ap}
use mathlib.Core.Bool.{true}
use mathlib.Core.Logic.{◌⊎◌, inl, inr}
use mathlib.Core.List.{List, []}
use Prim.Native.Nat.{ℕ, ◌+◌, ◌/◌}
use lib.ListN.{length, take}
use Rattle.std.specs.Prelude.{Result, Ok, Err}
use Rattle.settings.specs.Refusal.{number}
use Rattle.columns.specs.Marks.{mark_bytes}
use Rattle.lines.specs.Line.{refused_line}
use Rattle.columns.proofs.Laws.Wrote.{wrote_none}
use Rattle.contents.specs.Contents.{marks_in}
use Rattle.fields.specs.Field.{body}
use Rattle.row.specs.Row.{pulses}
use Rattle.steps.specs.Shown.{number_shown}
use Rattle.stages.specs.Fit.{place_fits, wall_fits}
use Rattle.steps.specs.Step.{step_of}
use Rattle.steps.specs.Take.{taken_of}
use Rattle.steps.specs.declared.RefusedAt.{RefusedAt}
use Rattle.stages.specs.declared.Place.{Place}
use Rattle.stages.specs.declared.Wall.{Wall}
use Rattle.stages.specs.declared.Wall.TheVariants.{New, Start, Row, Over}
use Rattle.stages.proofs.Laws.{fit_of}
use Rattle.show.proofs.Laws.{taken_ok, row_marks}
use Rattle.told.specs.Telling.{says}
use Rattle.told.proofs.Laws.{said}
use Rattle.telling.specs.Telling.{row_says, step_says, taken_says, telling}
use Rattle.telling.proofs.tell.Goals as goal

-- what was taken is the step's
module _ (x : Wall) (ts bs : List ℕ) {t : Result Wall RefusedAt} (is : t ≡ taken_of (step_of x (pulses ts []) bs)) where
  -- what is told of a step that is turned away
  away : (asked : List ℕ) (m : ℕ) {r : RefusedAt} {n : ℕ} → t ≡ Err r → n ≡ number r.refusal →
      telling asked x m ts bs ≡ says Over m (refused_line n r.offset)
  unfolding telling taken_says
  away asked m {r} e f = ap (taken_says asked x m ts bs) (sym is ∙ e) ∙ ap (λ (n : ℕ). says Over m (refused_line n r.offset)) (sym f)

  -- what is told of one that is taken, by its wall
  module _ {after : Wall} (ok : t ≡ Ok after) where
    on : (asked : List ℕ) (m : ℕ) {y : Wall} → x ≡ y → telling asked x m ts bs ≡ step_says asked y after m ts bs
    unfolding telling taken_says
    on asked m e = ap (taken_says asked x m ts bs) (sym is ∙ ok) ∙ ap (λ (y : Wall). step_says asked y after m ts bs) e

    -- of the settings, of row 0 and after the end nothing is told
    nothing : (asked : List ℕ) (m : ℕ) → (x ≡ New) ⊎ (((p : Place) × (x ≡ Start p)) ⊎ (x ≡ Over)) → telling asked x m ts bs ≡ says after m []
    unfolding step_says
    nothing asked m (inl e) = on asked m e
    nothing asked m (inr (inl (p, e))) = on asked m e
    nothing asked m (inr (inr e)) = on asked m e

    accepted : number_shown (step_of x (pulses ts []) bs).shows ≡ 0
    unfolding taken_of
    accepted = taken_ok _ _ (sym is ∙ ok)

    -- the row fits its place, and its marks are there
    module _ (p : Place) (row : x ≡ Row p) (fit : wall_fits x (length ts) ≡ true) where
      fits : place_fits p (length ts) ≡ true
      unfolding wall_fits
      fits = rw row at fit

      module _ {ms : List ℕ} (e : ms ≡ body ((length ts + 7) / 8) bs) where
        marks : ms ≡ marks_in p.settings.width bs
        unfolding marks_in mark_bytes
        marks = e ∙ ap (λ (n : ℕ). body ((n + 7) / 8) bs) (fit_of _ _ fits).long

        as_many : length ms ≡ mark_bytes (length ts)
        as_many = ap length marks ∙ row_marks x (pulses ts []) bs accepted row ∙ ap mark_bytes (sym (fit_of _ _ fits).long)

        row_on : (asked : List ℕ) (m : ℕ) → telling asked x m ts bs ≡ row_says asked p after m ms ts
        unfolding step_says
        row_on asked m = on asked m row ∙ ap (λ (ms : List ℕ). row_says asked p after m ms ts) (sym marks)

pub returns-in-Err : goal.returns-in-Err
returns-in-Err c = let a = c.args in
    said Over a.largest
    (away a.wall a.row.now a.part.now c.requires.1 _ a.largest c.in-Err.is (c.from-number.ensures ∙ c.number.ensures))
    c.refused_line.ensures

pub row_told-requires : goal.row_told-requires
row_told-requires c = let a = c.args in
    let p = c.in-Row.place in (
      fits a.wall a.row.now a.part.now c.requires.1 c.in-Ok.is p c.in-Row.is c.requires.0,
      as_many a.wall a.row.now a.part.now c.requires.1 c.in-Ok.is p c.in-Row.is c.requires.0 c.body-marks.ensures,
      c.requires.2,
    )

pub returns-in-Row : goal.returns-in-Row
returns-in-Row c = let a = c.args in
    rw (row_on a.wall a.row.now a.part.now c.requires.1 c.in-Ok.is c.in-Row.place c.in-Row.is c.requires.0 c.body-marks.ensures (take 16 a.asked.now) a.largest)
    c.row_told.ensures

pub returns-in-End : goal.returns-in-End
unfolding step_says
returns-in-End c = let a = c.args in
    said c.in-Ok.after a.largest (on a.wall a.row.now a.part.now c.requires.1 c.in-Ok.is _ a.largest c.in-End.is) c.largest_line.ensures

pub returns-in-New : goal.returns-in-New
returns-in-New c = let a = c.args in
    said c.in-Ok.after a.largest (nothing a.wall a.row.now a.part.now c.requires.1 c.in-Ok.is _ a.largest c.in-New.is) (wrote_none a.out.now a.at)
