-- `Row::no_delay` meets its contract: the difference to the shortest delay is over u where the value is above the
-- longest, and where it wraps. Assumes nothing.
use Rattle.std.proofs.Common.{◌≡◌, ℕ, ◌+◌, ◌-◌, ◌%◌, ◌^◌, ◌<◌, ◌≤◌, ltb, sym, arith, le-ltb, lt-ltb}
use mathlib.Core.Bool.{or-true}
use Rattle.settings.specs.Refusal.{outside}
use Rattle.settings.proofs.Laws.Cases.{by_order}
use Rattle.links.proofs.Laws.Row.{bounds}
use Rattle.links.proofs.Row.no_delay.Goals as goal

wrapped : (d u v : ℕ) → u ≤ d → d < 2 ^ 64 → v < 2 ^ 64 → ltb u ((v + (2 ^ 64 - (d - u))) % 2 ^ 64) ≡ outside (d - u) d v
unfolding outside
wrapped d u v i j k =
    let r = (v + (2 ^ 64 - (d - u))) % 2 ^ 64 in
    by_order r u
    (λ l. rw (le-ltb u r l, le-ltb v (d - u) (omega arith), le-ltb d v (omega arith)))
    (λ l. by_order (d - u) v
    (λ m. rw (lt-ltb u r l, lt-ltb d v (omega arith)) (sym (or-true (ltb v (d - u)))))
    (λ m. rw (lt-ltb u r l, lt-ltb v (d - u) m)))

pub returns : goal.returns
returns c = let r = c.args.self.now in
    let b = bounds r in
    wrapped r.settings.delay r.settings.uncertainty c.args.value b.uncertainty (omega (arith, b.delay)) (omega arith)

pub overflow_sub-shortest : goal.overflow_sub-shortest
overflow_sub-shortest c = omega (arith, (bounds c.args.self.now).uncertainty)
