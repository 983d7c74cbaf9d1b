-- `advance` meets its contract. Assumes nothing.
use mathlib.Core.Path.{◌≡◌, ◌∙◌}
use native.Mathlib.Omega.{arith}
use lib.ListN.{length, take}
use lib.Seq.{length-take-le}
use Rattle.row.specs.Row.{pulses}
use Rattle.turn.proofs.Laws.{advanced}
use Rattle.turn.proofs.advance.Goals as goal

pub returns : goal.returns
returns c =
    let a = c.args in
    let width = c.width-width in
    let row_long : length (take width.result a.row.now) ≡ width.result = length-take-le _ _ (omega (arith, width.ensures.few, c.requires.3)) in
    let letters_long : length (take width.result a.letters.now) ≡ width.result = length-take-le _ _ (omega (arith, width.ensures.few, c.requires.4)) in
    advanced a.asked _ a.state a.kept a.input.now (pulses a.row.now a.letters.now) a.output.now c.requires.1.within _ _
    c.part_end-stop.ensures width.ensures.width c.step-told.result c.stepped.result _ _ (c.step-told.auto.row ∙ row_long) (c.step-told.auto.letters ∙ letters_long)
    c.stepped.ensures c.step-told.ensures
