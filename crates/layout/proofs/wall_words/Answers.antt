-- `wall_words` meets its contract. Assumes nothing.
use mathlib.Core.Path.{sym, ◌∙◌}
use Rattle.layout.specs.Words.{wall_words}
use Rattle.layout.proofs.wall_words.Goals as goal

pub returns-in-New : goal.returns-in-New
unfolding wall_words
returns-in-New c = c.place_words.ensures ∙ sym (rw c.in-New.is)

pub returns-in-Start : goal.returns-in-Start
unfolding wall_words
returns-in-Start c = c.place_words-in-Start.ensures ∙ sym (rw c.in-Start.is)

pub returns-in-Row : goal.returns-in-Row
unfolding wall_words
returns-in-Row c = c.place_words-in-Row.ensures ∙ sym (rw c.in-Row.is)

pub returns-in-End : goal.returns-in-End
unfolding wall_words
returns-in-End c = c.place_words-in-End.ensures ∙ sym (rw c.in-End.is)

pub returns-in-Over : goal.returns-in-Over
unfolding wall_words
returns-in-Over c = c.place_words-in-Over.ensures ∙ sym (rw c.in-Over.is)
