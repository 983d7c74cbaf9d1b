-- `first` meets its contract. Assumes nothing.
use borrow.Author.Tests.{eq-eqb, ne_eqb, lt-ltb, le-ltb}
use Rattle.reach.specs.Span.{end_within, first_within}
use Rattle.reach.proofs.first.Goals as goal

pub returns-then-hops-eq0 : goal.returns-then-hops-eq0
unfolding first_within
returns-then-hops-eq0 c = rw (eq-eqb _ _ c.if-hops-eq0.true)

pub returns-then-from-hops : goal.returns-then-from-hops
unfolding first_within end_within
returns-then-from-hops c = rw (ne_eqb _ _ c.if-hops-eq0.false, ← c.min-from.ensures, lt-ltb _ _ c.if-from-hops.true)

pub returns : goal.returns
unfolding first_within end_within
returns c = rw (ne_eqb _ _ c.if-hops-eq0.false, ← c.min-from.ensures, le-ltb _ _ c.if-from-hops.false)
