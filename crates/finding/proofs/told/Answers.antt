-- `told` meets its contract. Assumes nothing.
use mathlib.Core.Path.{◌≡◌, ◌∙◌, ap}
use Rattle.std.specs.Prelude.{Some}
use Rattle.columns.proofs.Laws.Wrote.{wrote_none}
use Rattle.stages.specs.declared.Wall.TheVariants.{Over}
use Rattle.told.proofs.Laws.{said}
use Rattle.found.specs.Found.{answer_text}
use Rattle.finding.specs.Brought.{telling_of}
use Rattle.finding.specs.declared.Brought.TheVariants.{Wide, No}
use Rattle.finding.proofs.told.Goals as goal

pub returns-in-Some-Wide : goal.returns-in-Some-Wide
unfolding telling_of answer_text
returns-in-Some-Wide c = let a = c.args in
    let is : c.in-Some-Wide.field-0 ≡ Wide c.in-Some-Wide.row c.in-Some-Wide.seam = rw c.in-Some-Wide.is at c.in-Some-Wide.field-0-is in
    said Over a.kept (ap (telling_of a.after a.kept) (c.in-Some-Wide.is ∙ ap Some is)) c.line.ensures.text

pub returns-in-Some-No : goal.returns-in-Some-No
unfolding telling_of answer_text
returns-in-Some-No c = let a = c.args in
    let is : c.in-Some-No.field-0 ≡ No = rw c.in-Some-No.is at c.in-Some-No.field-0-is in
    said a.after a.kept (ap (telling_of a.after a.kept) (c.in-Some-No.is ∙ ap Some is)) c.line-in-Some-No.ensures.text

pub returns-in-None : goal.returns-in-None
unfolding telling_of
returns-in-None c = let a = c.args in
    said a.after a.kept (ap (telling_of a.after a.kept) c.in-None.is) (wrote_none a.out.now a.at)
