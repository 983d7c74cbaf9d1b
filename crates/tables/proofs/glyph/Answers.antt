-- `glyph` meets its contract. Assumes nothing.
use mathlib.Core.Path.{sym}
use native.Mathlib.Omega.{arith}
use Rattle.lines.proofs.Laws.Number.{glyph_low, glyph_high}
use Rattle.tables.proofs.glyph.Goals as goal

pub returns-then-digit-lt10 : goal.returns-then-digit-lt10
returns-then-digit-lt10 c = (sym (glyph_low c.args.digit c.if-digit-lt10.true), omega arith)

pub returns : goal.returns
returns c = (sym (glyph_high c.args.digit c.if-digit-lt10.false), omega arith)
