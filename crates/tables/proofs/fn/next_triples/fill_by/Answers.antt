-- A triple, three bytes on. Assumes nothing.
use native.Mathlib.Omega.{arith}
use Rattle.tables.proofs.Laws.Pairs.{triple_small}
use Rattle.tables.proofs.fn.next_triples.fill_by.Goals as goal

pub overflow_mul-result : goal.overflow_mul-result
overflow_mul-result c = omega (arith, triple_small c.args.k (omega arith))
