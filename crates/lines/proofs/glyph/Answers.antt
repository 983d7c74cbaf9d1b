-- `glyph` meets its contract. Assumes nothing.
use mathlib.Core.Path.{sym}
use Rattle.lines.proofs.Laws.Number.{glyph_low}
use Rattle.lines.proofs.glyph.Goals as goal

pub returns : goal.returns
returns c = sym (glyph_low c.args.digit c.requires)
