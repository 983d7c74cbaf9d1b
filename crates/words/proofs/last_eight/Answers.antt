-- `last_eight` meets its contract. Assumes nothing.
use mathlib.Core.Path.{refl}
use Rattle.lines.specs.Number.{glyph, hexadecimal}
use Rattle.tables.specs.Word.{word_of}
use Rattle.words.proofs.last_eight.Goals as goal

pub returns-then-n-eq0 : goal.returns-then-n-eq0
returns-then-n-eq0 c = rw c.if-n-eq0.true (unfold word_of hexadecimal glyph in refl)
