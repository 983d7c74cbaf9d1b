-- `tell` meets its contract. Assumes nothing.
use mathlib.Core.Path.{◌∙◌}
use mathlib.Core.List.{[]}
use Rattle.row.specs.Row.{pulses}
use Rattle.steps.proofs.Laws.Answer.{taken_same}
use Rattle.asked.proofs.Laws.Told.{tables_of, lines_said, range_said, wide_said}
use Rattle.asked.proofs.tell.Goals as goal

pub show-end-requires : goal.show-end-requires
show-end-requires c = (tables_of c.args.given.now c.in-Lines.is c.requires.0, c.requires.1, c.requires.2, c.requires.4, c.requires.3)

-- what was taken does not depend on the letters
pub tell-requires : goal.tell-requires
tell-requires c = let a = c.args in
    (c.requires.1, c.requires.3 ∙ taken_same a.wall a.row.now a.part.now a.letters.now [], c.requires.4)

pub tell-requires-in-Wide : goal.tell-requires-in-Wide
tell-requires-in-Wide c = let a = c.args in
    (c.requires.1, c.requires.3 ∙ taken_same a.wall a.row.now a.part.now a.letters.now [], c.requires.4)

pub returns-in-Lines : goal.returns-in-Lines
returns-in-Lines c = let a = c.args in
    lines_said a.asked _ a.wall a.kept (pulses a.row.now a.letters.now) a.part.now c.in-Lines.is c.requires.3 c.unwrap_or.ensures c.show-end.ensures

pub returns-in-Range : goal.returns-in-Range
returns-in-Range c = let a = c.args in
    range_said a.asked _ a.wall a.kept (pulses a.row.now a.letters.now) a.part.now c.in-Range.is c.tell.ensures

pub returns-in-Wide : goal.returns-in-Wide
returns-in-Wide c = let a = c.args in
    wide_said a.asked _ a.wall a.kept (pulses a.row.now a.letters.now) a.part.now c.in-Wide.is c.tell-in-Wide.ensures
