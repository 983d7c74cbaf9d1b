-- The proofs of what specs/Promises.antt states. Assumes nothing.
use mathlib.Core.Path.{sym, ◌∙◌}
use native.Mathlib.Omega.{arith}
use borrow.Author.Tests.{le-leb}
use Rattle.lines.specs.Number.{decimal}
use Rattle.lines.specs.Promises.{DecimalRight}
use Rattle.lines.proofs.Promises.{decimal_right}
use Rattle.arguments.specs.Words.{number_word}
use Rattle.arguments.specs.Call.{call_of}
use Rattle.arguments.specs.Promises.{DecimalNamed, NeededGiven}
use Rattle.arguments.proofs.Laws.Words.{digit_at, is_number}
use Rattle.arguments.proofs.Laws.Needed.{needed_from}

pub decimal_named : DecimalNamed
unfolding DecimalNamed number_word DecimalRight
decimal_named least largest n i j k =
    let d = decimal_right n k in
    let first = digit_at (decimal n) 0 d.digits d.some in
    sym (is_number least largest (decimal n) (λ e. omega (arith, d.some, e)) (λ e. omega (arith, first.0, e)) d.digits)
    ∙ rw (d.spell, le-leb least n i, le-leb n largest j)

pub needed_given : NeededGiven
unfolding NeededGiven call_of
needed_given needed least largest room words a = omega (arith, needed_from needed least largest room 0 room words (omega arith) a)
