-- `side_word` meets its contract. Assumes nothing.
use borrow.Author.Rules.{rules}
use Rattle.lines.specs.Line.{side_word}
use Rattle.tables.specs.Word.{bytes}
use Rattle.seam_lines.proofs.side_word.Goals as goal

pub returns-in-Left : goal.returns-in-Left
unfolding bytes side_word
returns-in-Left c = (rw c.in-Left.is, search rules)

pub returns-in-Right : goal.returns-in-Right
unfolding bytes side_word
returns-in-Right c = (rw c.in-Right.is, search rules)

pub returns-in-Both : goal.returns-in-Both
unfolding bytes side_word
returns-in-Both c = (rw c.in-Both.is, search rules)
