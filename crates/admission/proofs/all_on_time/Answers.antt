-- `all_on_time` meets its contract: the bits of all times are over none of them. Assumes nothing.
use lib.ListN.{get_or}
use native.Mathlib.Omega.{arith}
use borrow.Author.Count.{below_more}
use borrow.Author.Tests.{leb-true}
use Rattle.links.specs.Links.{latest_time}
use Rattle.links.proofs.Laws.Bits.{or_left, or_right}
use Rattle.admission.specs.Together.{AllBy}
use Rattle.admission.proofs.all_on_time.Goals as goal

pub loop-time-preserved : goal.loop-time-preserved
loop-time-preserved c = let bits = c.loop-time.bits in
    let next = get_or c.args.before.now c.loop-time.time-index 0 in
    below_more _ _ (λ k i. omega (arith, c.loop-time.invariant k i, or_left bits next)) (or_right bits next)

pub returns : goal.returns
unfolding AllBy
returns c = λ e k i. omega (arith, c.loop-time.invariant k (omega arith), leb-true c.loop-time.bits latest_time e)
