-- A pair of digits in a base, at one place of a word. Assumes nothing.
use native.Mathlib.Nat.{mul-le-mul, div-lt_iff_lt-mul, mod-lt}
use Prim.Native.Nat.{◌+◌, ◌*◌}
use native.Mathlib.Omega.{arith}
use Rattle.tables.specs.Word.{pair}
use Rattle.tables.proofs.fn.pairs.fill_by.Goals as goal

pub glyph-requires : goal.glyph-requires
glyph-requires c = omega (arith, (div-lt_iff_lt-mul {k = c.captures.base} {x = c.args.k} {y = c.captures.base} (omega arith)).1 (omega arith))

pub glyph-requires-2 : goal.glyph-requires-2
glyph-requires-2 c = omega (arith, mod-lt c.args.k {m = c.captures.base} (omega arith))

pub overflow_mul-result-2 : goal.overflow_mul-result-2
overflow_mul-result-2 c = omega (arith, mul-le-mul {n₁ = (c.glyph.result + 256 * c.glyph-2.result)} {m₁ = c.captures.place} {n₂ = 32767} {m₂ = 281474976710656} (omega arith) (omega arith))

pub returns : goal.returns
unfolding pair
returns c = rw (c.glyph.ensures.0, c.glyph-2.ensures.0)
