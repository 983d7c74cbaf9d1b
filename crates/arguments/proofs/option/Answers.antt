-- `option` meets its contract. Assumes nothing.
use Rattle.arguments.specs.Words.{option_word}
use Rattle.arguments.proofs.Laws.Words.{same_bytes}
use Rattle.arguments.proofs.option.Goals as goal

pub returns-then-eq : goal.returns-then-eq
unfolding option_word
returns-then-eq c = rw (same_bytes _ _ _ _ _ c.as_slice.ensures c.eq.ensures c.if-eq.true)

pub returns-then-eq-2 : goal.returns-then-eq-2
unfolding option_word
returns-then-eq-2 c =
    rw (same_bytes _ _ _ _ _ c.as_slice.ensures c.eq.ensures c.if-eq.false, same_bytes _ _ _ _ _ c.as_slice-2.ensures c.eq-2.ensures c.if-eq-2.true)

pub returns : goal.returns
unfolding option_word
returns c =
    rw (same_bytes _ _ _ _ _ c.as_slice.ensures c.eq.ensures c.if-eq.false, same_bytes _ _ _ _ _ c.as_slice-2.ensures c.eq-2.ensures c.if-eq-2.false)
