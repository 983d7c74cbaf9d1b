-- `refused_number` meets its contract. Assumes nothing.
use Prim.Native.Nat.{◌≤◌, ◌<◌}
use lib.ListN.{get_or}
use native.Mathlib.Omega.{arith}
use borrow.Author.Tests.{eq-eqb, ne_eqb, le-ltb, lt-ltb}
use Rattle.layout.specs.Words.{unfit, refused_number}
use Rattle.layout.proofs.refused_number.Goals as goal

pub returns-then-words-ne5 : goal.returns-then-words-ne5
unfolding refused_number
returns-then-words-ne5 c = rw (ne_eqb _ _ c.if-words-ne5.true)

pub returns-then-from-words : goal.returns-then-from-words
unfolding refused_number
returns-then-from-words c = let bound : unfit ≤ get_or c.args.words.now 8 0 = omega arith in
    rw (eq-eqb _ _ c.if-words-ne5.false, le-ltb _ _ bound)

pub returns : goal.returns
unfolding refused_number
returns c = let bound : get_or c.args.words.now 8 0 < unfit = omega arith in
    rw (eq-eqb _ _ c.if-words-ne5.false, lt-ltb _ _ bound)
