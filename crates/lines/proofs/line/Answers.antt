-- `line` meets its contract. Assumes nothing.
use mathlib.Core.Path.{ap}
use lib.ListN.{length-take, take, get_or}
use lib.Seq.{take_all}
use native.Mathlib.Omega.{arith}
use Rattle.lines.proofs.Laws.Number.{decimal_length}
use Rattle.columns.proofs.Laws.Wrote.{wrote_none, wrote_then, wrote_as}
use Rattle.lines.specs.Line.{numbers_text, line_text}
use Rattle.lines.proofs.Laws.Line.{numbers_more, numbers_length, line_length}
use Rattle.lines.proofs.line.Goals as goal

pub loop-value-init : goal.loop-value-init
unfolding numbers_text
loop-value-init c = wrote_none _ _

pub spaced-end-requires : goal.spaced-end-requires
spaced-end-requires c = let values = c.args.values.now in
    let i = c.loop-value.value-index in
    let inv = c.loop-value.invariant in
    omega (
      arith,
      inv.goes,
      inv.as_long,
      c.word-end.ensures.goes,
      c.word-end.ensures.as_long,
      numbers_length (take i values),
      length-take i values,
      decimal_length (get_or values i 0),
      c.requires,
    )

pub loop-value-preserved : goal.loop-value-preserved
loop-value-preserved c = wrote_as (wrote_then c.loop-value.invariant c.spaced-end.ensures) (numbers_more c.args.values.now c.loop-value.value-index (omega arith))

pub byte-requires : goal.byte-requires
byte-requires c = let values = c.args.values.now in
    let inv = c.loop-value.invariant in
    omega (
      arith,
      inv.goes,
      inv.as_long,
      c.word-end.ensures.goes,
      c.word-end.ensures.as_long,
      numbers_length (take c.loop-value.value-index values),
      length-take c.loop-value.value-index values,
      c.requires,
    )

pub returns : goal.returns
unfolding line_text
returns c = let values = c.args.values.now in
    let all = wrote_as c.loop-value.invariant (ap numbers_text (take_all c.loop-value.value-index values (omega arith))) in
    let text = wrote_then (wrote_then c.word-end.ensures all) c.byte.ensures in
    record { text = text; few = omega (arith, text.goes, line_length c.args.name.now values) }
