-- A pair of digits and a third. Assumes nothing.
use Prim.Native.Nat.{◌/◌}
use native.Mathlib.Omega.{arith}
use Rattle.tables.specs.Word.{triple}
use Rattle.tables.proofs.Laws.Pairs.{hexadecimal_pair_small}
use Rattle.tables.proofs.fn.first_triples.fill_by.Goals as goal

pub overflow_add-result : goal.overflow_add-result
overflow_add-result c = omega (arith, hexadecimal_pair_small (c.args.k / 16) (omega arith))

pub returns : goal.returns
unfolding triple
returns c = omega (arith, c.glyph.ensures.0)
