-- `column` meets its contract: the tables hold the column's word and how long it is. Assumes nothing.
use native.Mathlib.Omega.{arith}
use Rattle.words.proofs.Laws.Columns.{column_short, wrote_column}
use Rattle.words.proofs.column.Goals as goal

pub overflow_add-result-2 : goal.overflow_add-result-2
overflow_add-result-2 c = omega (arith, column_short c.requires.0 c.args.k c.requires.1)

pub returns : goal.returns
returns c = record {
  wrote = wrote_column c.requires.0 c.args.k c.requires.1 c.put.ensures (omega (arith, c.requires.2));
  upper_bound = omega (arith, column_short c.requires.0 c.args.k c.requires.1);
}
