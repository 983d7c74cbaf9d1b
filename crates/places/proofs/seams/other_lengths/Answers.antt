-- `other_lengths` meets its contract. Assumes nothing.
use borrow.Author.Tests.{eq-eqb, ne_eqb}
use Rattle.columns.specs.Marks.{mark_bytes}
use Rattle.places.specs.Seams.{other_lengths}
use Rattle.places.proofs.seams.other_lengths.Goals as goal

pub returns-then-times-width : goal.returns-then-times-width
unfolding other_lengths
returns-then-times-width c = rw (ne_eqb _ _ c.if-times-width.true)

pub returns : goal.returns
unfolding other_lengths mark_bytes
returns c = rw (eq-eqb _ _ c.if-times-width.false)
