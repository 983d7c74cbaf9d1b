-- `takes` meets its contract. Assumes nothing.
use mathlib.Core.Path.{◌∙◌, ap}
use borrow.Author.Tests.{le-leb, lt-leb}
use Rattle.stages.specs.Fit.{due_of}
use Rattle.layout.specs.Words.{takes}
use Rattle.layout.proofs.takes.Goals as goal

pub returns-then-words-gt4 : goal.returns-then-words-gt4
unfolding takes
returns-then-words-gt4 c = rw (lt-leb _ _ c.if-words-gt4.true)

pub returns : goal.returns
unfolding takes
returns c = rw (le-leb _ _ c.if-words-gt4.false, c.due.ensures.due ∙ ap due_of c.wall_in-wall.ensures)
