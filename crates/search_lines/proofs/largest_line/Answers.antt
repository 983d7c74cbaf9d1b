-- `largest_line` meets its contract. Assumes nothing.
use native.Mathlib.Omega.{arith}
use Rattle.columns.proofs.Laws.Wrote.{wrote_then}
use Rattle.lines.proofs.Laws.Number.{decimal_length}
use Rattle.search_lines.specs.Text.{largest_text}
use Rattle.search_lines.proofs.largest_line.Goals as goal

pub spaced-numbered-requires : goal.spaced-numbered-requires
spaced-numbered-requires c = omega (arith, decimal_length c.args.largest)

pub word-end-requires : goal.word-end-requires
word-end-requires c = omega (arith, decimal_length c.args.largest)

pub byte-requires : goal.byte-requires
byte-requires c = omega (arith, decimal_length c.args.largest)

pub returns : goal.returns
unfolding largest_text
returns c = wrote_then (wrote_then (wrote_then c.word-named.ensures c.spaced-numbered.ensures) c.word-end.ensures) c.byte.ensures
