-- `tell` meets its contract. Assumes nothing.
use Rattle.stages.specs.declared.Wall.TheVariants.{Over}
use Rattle.told.proofs.Laws.{said}
use Rattle.finding.proofs.Laws.{says_refused, says_brought}
use Rattle.finding.proofs.tell.Goals as goal

pub returns-in-Ok : goal.returns-in-Ok
returns-in-Ok c = let a = c.args in
    rw (says_brought a.limit a.wall a.kept a.row.now a.part.now c.requires.1 c.requires.0 c.in-Ok.is, ← c.step_brought.ensures)
    c.told.ensures

pub returns-in-Err : goal.returns-in-Err
returns-in-Err c = let a = c.args in
    said Over a.kept
    (says_refused a.limit a.wall a.kept a.row.now a.part.now c.requires.1 c.in-Err.is)
    (rw c.number-number.ensures at c.refused_line.ensures)
