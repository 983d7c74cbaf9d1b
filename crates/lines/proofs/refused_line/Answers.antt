-- `refused_line` meets its contract. Assumes nothing.
use native.Mathlib.Omega.{arith}
use Rattle.columns.proofs.Laws.Wrote.{wrote_then}
use Rattle.lines.proofs.Laws.Number.{decimal_length}
use Rattle.lines.specs.Line.{refused_line}
use Rattle.lines.proofs.refused_line.Goals as goal

pub spaced-numbered-requires : goal.spaced-numbered-requires
spaced-numbered-requires c = omega (arith, decimal_length c.args.number)

pub word-placed-requires : goal.word-placed-requires
word-placed-requires c = omega (arith, decimal_length c.args.number)

pub spaced-end-requires : goal.spaced-end-requires
spaced-end-requires c = omega (arith, decimal_length c.args.number, decimal_length c.args.offset)

pub byte-requires : goal.byte-requires
byte-requires c = omega (arith, decimal_length c.args.number, decimal_length c.args.offset)

pub returns : goal.returns
returns c = unfold refused_line in
    wrote_then (wrote_then (wrote_then (wrote_then c.word-refused.ensures c.spaced-numbered.ensures) c.word-placed.ensures) c.spaced-end.ensures) c.byte.ensures
