-- `any_over` meets its contract: the larger of the largest so far and the next value is over the limit where one of them is. Assumes nothing.
use mathlib.Core.Path.{◌≡◌, sym}
use mathlib.Core.Bool.{◌||◌, or-true}
use Prim.Native.Nat.{ℕ, max}
use native.Mathlib.Numerals.{add-one}
use native.Mathlib.Omega.{arith}
use lib.Dec.{ltb}
use lib.ListN.{get_or}
use borrow.Author.Tests.{lt-ltb, le-ltb}
use Rattle.settings.specs.Refusal.{any_below}
use Rattle.settings.proofs.Laws.Cases.{by_order}
use Rattle.admission.specs.Refusal.{over}
use Rattle.admission.proofs.any_over.Goals as goal

-- over the limit, of two numbers
over_larger : (r m d : ℕ) → (ltb r m || ltb r d) ≡ ltb r (max m d)
over_larger r m d =
    by_order d r
    (λ j. by_order m r
    (λ i. rw (le-ltb r d j, le-ltb r m i, le-ltb r (max m d) (omega arith)))
    (λ i. rw (lt-ltb r m i, lt-ltb r (max m d) (omega arith))))
    (λ j. rw (lt-ltb r d j, lt-ltb r (max m d) (omega arith)) (or-true (ltb r m)))

pub loop-value-init : goal.loop-value-init
unfolding any_below
loop-value-init c = sym (le-ltb c.args.limit 0 (omega arith))

pub loop-value-preserved : goal.loop-value-preserved
unfolding any_below over
loop-value-preserved c =
    let next = get_or c.args.values.now c.loop-value.value-index 0 in
    rw (add-one, c.loop-value.invariant, c.max-most.ensures) (over_larger c.args.limit c.loop-value.most next)
