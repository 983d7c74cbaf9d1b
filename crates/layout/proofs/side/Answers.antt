-- `side` meets its contract. Assumes nothing.
use Rattle.layout.specs.Words.{side_word}
use Rattle.layout.proofs.side.Goals as goal

pub returns-in-Left : goal.returns-in-Left
unfolding side_word
returns-in-Left c = rw c.in-Left.is

pub returns-in-Right : goal.returns-in-Right
unfolding side_word
returns-in-Right c = rw c.in-Right.is

pub returns-in-Both : goal.returns-in-Both
unfolding side_word
returns-in-Both c = rw c.in-Both.is
