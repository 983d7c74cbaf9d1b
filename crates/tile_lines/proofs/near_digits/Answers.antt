-- `near_digits` meets its contract. Assumes nothing.
use mathlib.Core.Path.{sym}
use native.Mathlib.Omega.{arith}
use Prim.Native.Nat.{◌/◌, ◌^◌}
use Rattle.lines.proofs.Laws.Number.{decimal_length}
use Rattle.columns.proofs.Laws.Wrote.{wrote_then, wrote_as}
use Rattle.tables.proofs.Laws.Word.{wrote_bytes}
use Rattle.tile_lines.proofs.Laws.Near.{serving, last_bytes}
use Rattle.tile_lines.proofs.near_digits.Goals as goal

pub decimal-requires : goal.decimal-requires
decimal-requires c = omega (arith, decimal_length c.args.time)

pub overflow_sub-time : goal.overflow_sub-time
overflow_sub-time c = let v = serving c.args.near c.args.time c.requires.1 c.if-near-eq0.false in
    omega (arith, v.past)

pub overflow_cast-time : goal.overflow_cast-time
overflow_cast-time c = let v = serving c.args.near c.args.time c.requires.1 c.if-near-eq0.false in
    omega (arith, v.few)

pub eight_digits-eight-requires : goal.eight_digits-eight-requires
eight_digits-eight-requires c = let v = serving c.args.near c.args.time c.requires.1 c.if-near-eq0.false in
    (c.requires.0, v.few)

pub overflow_add-middle : goal.overflow_add-middle
overflow_add-middle c = let v = serving c.args.near c.args.time c.requires.1 c.if-near-eq0.false in
    omega (arith, v.first)

pub overflow_shr-eight : goal.overflow_shr-eight
overflow_shr-eight c = let v = serving c.args.near c.args.time c.requires.1 c.if-near-eq0.false in
    v.shifts

pub put-requires-2 : goal.put-requires-2
put-requires-2 c = let v = serving c.args.near c.args.time c.requires.1 c.if-near-eq0.false in
    omega (arith, v.first, c.put.ensures.as_long)

pub overflow_add-result : goal.overflow_add-result
overflow_add-result c = let v = serving c.args.near c.args.time c.requires.1 c.if-near-eq0.false in
    omega (arith, v.first, v.last)

pub returns : goal.returns
returns c = let v = serving c.args.near c.args.time c.requires.1 c.if-near-eq0.false in
    let n = c.args.near in
    let e = c.eight_digits-eight.result in
    let first = wrote_bytes n.word c.put.ensures (omega arith) n.length v.first in
    let second = wrote_bytes (e / 2 ^ n.shift) c.put-2.ensures (omega (arith, v.first, c.put.ensures.as_long)) n.digits v.last in
    wrote_as (wrote_then first (wrote_as second (last_bytes n c.args.time e v c.eight_digits-eight.ensures))) (sym v.text)
