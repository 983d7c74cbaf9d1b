-- `step_brought` meets its contract. Assumes nothing.
use mathlib.Core.Path.{◌≡◌, sym, ◌∙◌, ap}
use mathlib.Core.Bool.{true}
use mathlib.Core.Logic.{inl, inr}
use mathlib.Core.List.{List}
use Prim.Native.Nat.{ℕ, ◌+◌, ◌/◌, ◌≤◌}
use lib.ListN.{take, replicate}
use lib.Seq.{length-take-le}
use native.Mathlib.Omega.{arith}
use Rattle.settings.proofs.Laws.Settings.{limits}
use Rattle.columns.specs.Marks.{mark_bytes}
use Rattle.fields.specs.Field.{body}
use Rattle.contents.specs.Contents.{marks_in}
use Rattle.stages.specs.Fit.{wall_fits}
use Rattle.stages.specs.declared.Place.{Place}
use Rattle.stages.specs.declared.Wall.{Wall}
use Rattle.stages.specs.declared.Wall.TheVariants.{Row, End}
use Rattle.stages.proofs.Laws.{Fit, fit_of}
use Rattle.steps.specs.Shown.{no_marks}
use Rattle.show.proofs.Laws.{zeros}
use Rattle.finding.specs.Brought.{step_brought}
use Rattle.finding.proofs.step_brought.Goals as goal

-- the bytes of marks of a row that fits its place: at most 32, those of its part, or as many zeros
module _ {p : Place} {n : ℕ} (fit : Fit p n) where
  narrow : (n + 7) / 8 ≤ 32
  narrow = omega (arith, fit.long, (limits p.settings fit.pass).width)

  in_part : (bs : List ℕ) → body ((n + 7) / 8) bs ≡ marks_in p.settings.width bs
  unfolding marks_in mark_bytes
  in_part bs = ap (λ (m : ℕ). body ((m + 7) / 8) bs) fit.long

  none_set : take ((n + 7) / 8) (replicate 32 0) ≡ no_marks p.settings.width
  unfolding no_marks mark_bytes
  none_set = zeros ((n + 7) / 8) 32 narrow ∙ ap (λ (m : ℕ). replicate ((m + 7) / 8) 0) fit.long

fits_row : {x : Wall} {p : Place} {n : ℕ} → wall_fits x n ≡ true → x ≡ Row p → Fit p n
unfolding wall_fits
fits_row {p = p} {n = n} h w = fit_of p n (rw w at h)

fits_end : {x : Wall} {p : Place} {n : ℕ} → wall_fits x n ≡ true → x ≡ End p → Fit p n
unfolding wall_fits
fits_end {p = p} {n = n} h w = fit_of p n (rw w at h)

pub slice_bounds-marks-end : goal.slice_bounds-marks-end
slice_bounds-marks-end c = narrow (fits_end c.requires c.in-End.is)

pub slice_bounds-row_brought-end : goal.slice_bounds-row_brought-end
slice_bounds-row_brought-end c = sym (length-take-le _ _ (narrow (fits_end c.requires c.in-End.is)))

pub returns-in-New : goal.returns-in-New
unfolding step_brought
returns-in-New c = elim c.in-New.is [
  | inl e ↦ rw e
  | inr (inl (p, e)) ↦ rw e
  | inr (inr e) ↦ rw e
]

pub returns-in-Row : goal.returns-in-Row
unfolding step_brought
returns-in-Row c = let a = c.args in
    rw (c.in-Row.is, ← in_part (fits_row c.requires c.in-Row.is) a.part.now, ← c.body-marks.ensures) c.row_brought.ensures

pub returns-in-End : goal.returns-in-End
unfolding step_brought
returns-in-End c = rw (c.in-End.is, ← none_set (fits_end c.requires c.in-End.is)) c.row_brought-in-End.ensures
