-- `number` meets its contract. Assumes nothing.
use Prim.Native.Nat.{◌+◌, ◌*◌}
use native.Mathlib.Omega.{arith}
use Rattle.arguments.proofs.Laws.Words.{digit_at, SpeltTo, none_spelt, spelt_more, too_large, too_small, within}
use Rattle.arguments.proofs.number.Goals as goal

pub loop-byte-init : goal.loop-byte-init
loop-byte-init c = (omega arith, none_spelt _)

pub overflow_sub-byte : goal.overflow_sub-byte
overflow_sub-byte c = (digit_at _ c.loop-byte.byte-index c.requires c.loop-byte-test.true).0

pub returns-then-limits-n : goal.returns-then-limits-n
returns-then-limits-n c =
    let more = c.loop-byte-test.true in
    let read : SpeltTo c.args.word.now (c.loop-byte.byte-index + 1) (c.loop-byte.n * 10 + c.from.result) =
    rw c.from.ensures (spelt_more _ _ more _ c.loop-byte.invariant.1 (digit_at _ c.loop-byte.byte-index c.requires more).1) in
    too_large _ _ _ _ _ read c.if-limits-n.true

pub loop-byte-preserved : goal.loop-byte-preserved
loop-byte-preserved c =
    let more = c.loop-byte-test.true in
    let read : SpeltTo c.args.word.now (c.loop-byte.byte-index + 1) (c.loop-byte.n * 10 + c.from.result) =
    rw c.from.ensures (spelt_more _ _ more _ c.loop-byte.invariant.1 (digit_at _ c.loop-byte.byte-index c.requires more).1) in
    (omega (arith, c.if-limits-n.false), read)

pub returns-then-n-limits : goal.returns-then-n-limits
returns-then-n-limits c = too_small _ _ _ _ _ c.loop-byte.invariant.1 (omega (arith, c.loop-byte-test.false)) c.if-n-limits.true

pub returns : goal.returns
returns c = within _ _ _ _ _ c.loop-byte.invariant.1 (omega (arith, c.loop-byte-test.false)) (omega (arith, c.if-n-limits.false)) c.loop-byte.invariant.0
