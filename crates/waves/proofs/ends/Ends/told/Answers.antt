-- `told` meets its contract. Assumes nothing.
use borrow.Author.Tests.{eq-eqb, ne_eqb}
use Rattle.waves.specs.Reading.{between}
use Rattle.waves.specs.Ends.{told, ToldWords}
use Rattle.waves.proofs.ends.Ends.told.Goals as goal

pub returns-then-self-eq-OPEN : goal.returns-then-self-eq-OPEN
unfolding told
returns-then-self-eq-OPEN c = rw (eq-eqb _ _ c.if-self-eq-OPEN.true)

pub of-requires : goal.of-requires
unfolding ToldWords
of-requires c = (c.requires c.if-self-eq-OPEN.false).0

pub of-requires-2 : goal.of-requires-2
unfolding ToldWords
of-requires-2 c = (c.requires c.if-self-eq-OPEN.false).1

pub returns : goal.returns
unfolding told between
returns c = rw (ne_eqb _ _ c.if-self-eq-OPEN.false, c.of.ensures, c.of-2.ensures)
