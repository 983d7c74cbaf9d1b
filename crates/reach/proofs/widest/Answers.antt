-- `widest` meets its contract. Assumes nothing.
use Rattle.std.proofs.Common.{◌≡◌, ◌≤◌, length, arith}
use Rattle.runs.specs.Reach.{apart}
use Rattle.reach.proofs.Laws.Gap.{ends_gapped, gapped_more, gapped_all}
use Rattle.reach.proofs.widest.Goals as goal

pub loop-c-init : goal.loop-c-init
unfolding apart
loop-c-init c = ends_gapped c.args.row.now c.requires.0 c.abs_diff-first.ensures c.abs_diff-last.ensures c.max-most.ensures

pub loop-c-preserved : goal.loop-c-preserved
unfolding apart
loop-c-preserved c = gapped_more c.args.row.now c.requires.0 c.loop-c.invariant (omega arith) (omega arith) c.abs_diff.ensures c.max-most-in-loop-c.ensures

pub returns : goal.returns
returns c = let some : 1 ≤ length c.args.row.now = omega arith in
    let end : c.loop-c.c ≡ length c.args.row.now = omega (arith, c.loop-c.auto.c-end some) in
    gapped_all c.args.row.now c.requires.0 (rw end at c.loop-c.invariant)
