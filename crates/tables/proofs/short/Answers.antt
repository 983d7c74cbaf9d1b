-- `short` meets its contract. Assumes nothing.
use native.Mathlib.Omega.{arith}
use Rattle.tables.proofs.Laws.Digits.{word_one, word_two, word_three, word_four}
use Rattle.tables.proofs.short.Goals as goal

pub returns-then-n-lt10 : goal.returns-then-n-lt10
returns-then-n-lt10 c = omega (arith, word_one c.args.n c.if-n-lt10.true, c.glyph.ensures.0)

pub returns-then-n-lt100 : goal.returns-then-n-lt100
returns-then-n-lt100 c = omega (arith, word_two c.args.n (omega arith) (omega arith), c.glyph.ensures.0, c.glyph-2.ensures.0)

pub returns-then-n-lt1000 : goal.returns-then-n-lt1000
returns-then-n-lt1000 c = omega (arith, word_three c.args.n (omega arith) (omega arith), c.glyph.ensures.0, c.glyph-2.ensures.0, c.glyph-3.ensures.0)

pub returns : goal.returns
returns c = omega (arith, word_four c.args.n (omega arith) (omega arith), c.glyph.ensures.0, c.glyph-2.ensures.0, c.glyph-3.ensures.0, c.glyph-4.ensures.0)
