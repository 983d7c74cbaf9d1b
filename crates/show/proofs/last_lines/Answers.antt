-- `last_lines` meets its contract. Assumes nothing.
use mathlib.Core.Path.{◌≡◌, sym, ◌∙◌, ap}
use mathlib.Core.List.{List}
use Prim.Native.Nat.{ℕ, ◌+◌, ◌/◌, ◌≤◌}
use lib.ListN.{length, take, replicate}
use lib.Seq.{length-take-le}
use native.Mathlib.Omega.{arith}
use Rattle.settings.proofs.Laws.Settings.{limits}
use Rattle.columns.specs.Marks.{mark_bytes}
use Rattle.columns.proofs.Laws.Wrote.{wrote_as}
use Rattle.show.specs.Text.{texts_of}
use Rattle.steps.specs.Shown.{row_shown, no_marks}
use Rattle.row.specs.Row.{pulses}
use Rattle.stages.proofs.Laws.{fit_of}
use Rattle.show.proofs.Laws.{zeros}
use Rattle.show.proofs.last_lines.Goals.{Start}
use Rattle.show.proofs.last_lines.Goals as goal

-- the marks of a row are at most 32 bytes
few : (s : Start) → (length s.args.row.now + 7) / 8 ≤ 32
few s = let f = fit_of s.args.place (length s.args.row.now) s.requires.1 in
    omega (arith, f.long, (limits s.args.place.settings f.pass).width)

pub slice_bounds-marks-end : goal.slice_bounds-marks-end
slice_bounds-marks-end c = few (goal.at.slice_bounds-marks-end c).Start

pub slice_bounds-lines-end : goal.slice_bounds-lines-end
slice_bounds-lines-end c = sym (length-take-le _ (replicate {A = ℕ} 32 0) (few (goal.at.slice_bounds-lines-end c).Start))

pub lines-requires : goal.lines-requires
unfolding mark_bytes
lines-requires c = (c.requires.0, c.requires.1, c.requires.2, length-take-le _ (replicate {A = ℕ} 32 0) (few (goal.at.lines-requires c).Start), c.requires.3)

pub returns : goal.returns
unfolding no_marks mark_bytes
returns c = let a = c.args in
    let f = fit_of a.place (length a.row.now) c.requires.1 in
    let none : take ((length a.row.now + 7) / 8) (replicate {A = ℕ} 32 0) ≡ no_marks a.place.settings.width =
    zeros ((length a.row.now + 7) / 8) 32 (few (goal.at.returns c).Start) ∙ ap no_marks f.long in
    wrote_as c.lines.ensures (ap (λ (ms : List ℕ). texts_of (row_shown a.place.settings a.place.row ms (pulses a.row.now a.letters.now))) none)
