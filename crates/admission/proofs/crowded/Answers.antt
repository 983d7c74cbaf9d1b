-- `crowded` meets its contract: the columns of a quiet byte are passed together. Assumes nothing.
use mathlib.Core.Path.{sym}
use Prim.Native.Nat.{◌*◌}
use native.Mathlib.Omega.{arith}
use borrow.Author.Count.{below_more}
use borrow.Author.Tests.{lt-ltb, le-ltb}
use Rattle.columns.specs.Columns.{predecessors}
use Rattle.columns.specs.Marks.{mark_bytes, faulty_among}
use Rattle.admission.specs.Refusal.{crowded}
use Rattle.settings.proofs.Laws.AnyBelow.{some_below, none_till}
use Rattle.settings.proofs.Laws.Cases.{by_order}
use Rattle.admission.proofs.Laws.Quiet.{quiet_tile}
use Rattle.admission.proofs.crowded.Goals.{then-not-quiet+else-loop-c-test, else-not-quiet}
use Rattle.admission.proofs.crowded.Goals as goal

pub overflow_mul-first : goal.overflow_mul-first
unfolding mark_bytes
overflow_mul-first c = omega arith

pub quiet-requires : goal.quiet-requires
unfolding mark_bytes
quiet-requires c = (omega arith, c.requires.1, c.requires.2)

pub overflow_add-first : goal.overflow_add-first
unfolding mark_bytes
overflow_add-first c = omega arith

pub returns-then-gathered-gt1 : goal.returns-then-gathered-gt1
unfolding crowded
returns-then-gathered-gt1 c = let a = c.args in
    let k = c.loop-c.c in
    sym (some_below (crowded a.width a.marks.now) a.width k (omega arith) (lt-ltb 1 (faulty_among a.marks.now (predecessors a.width k)) (omega (arith, c.gathered.ensures, c.if-gathered-gt1.true))))

pub loop-c-preserved : goal.loop-c-preserved
unfolding crowded
loop-c-preserved c = let a = c.args in
    below_more _ _ c.loop-c.invariant
    (λ i. le-ltb 1 (faulty_among a.marks.now (predecessors a.width c.loop-c.c)) (omega (arith, c.gathered.ensures, c.if-gathered-gt1.false)))

pub loop-byte-preserved : goal.loop-byte-preserved
loop-byte-preserved c = let a = c.args in
    elim c.if-not-quiet.branch [
      | then-not-quiet+else-loop-c-test w ↦ λ k i j. w.loop-c.invariant k (omega (arith, i, j, w.loop-c-test.false)) j
      | else-not-quiet w ↦ λ k i j. by_order (8 * c.loop-byte.byte) k
          (λ from. quiet_tile a.width a.marks.now (c.quiet.ensures w.if-not-quiet.false) k from (omega (arith, i)))
          (λ before. c.loop-byte.invariant k before j)
    ]

pub returns : goal.returns
unfolding mark_bytes
returns c = let a = c.args in
    sym (none_till (crowded a.width a.marks.now) a.width (λ k i. c.loop-byte.invariant k (omega arith) i))
