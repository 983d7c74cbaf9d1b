-- `near::Near::to` meets its contract. Assumes nothing.
use mathlib.Core.Logic.{inl, inr}
use Prim.Native.Nat.{ℕ, ◌-◌, ◌*◌, ◌/◌, ◌≤◌, ◌<◌}
use native.Mathlib.Omega.{arith}
use Rattle.tile_lines.specs.Near.{Serves, Right}
use Rattle.tables.proofs.Laws.Digits.{spaced_some}
use Rattle.tile_lines.proofs.Laws.Near.{of_first, first_serves}
use Rattle.tile_lines.proofs.near.Near.to.Goals as goal

pub returns-then-time-self : goal.returns-then-time-self
unfolding Right
returns-then-time-self c = (c.requires, inr (c.requires c.args.time c.if-self-time.true c.if-time-self.true))

pub returns-then-time-lt100000000 : goal.returns-then-time-lt100000000
returns-then-time-lt100000000 c = (c.few_digits.ensures.0, inr c.few_digits.ensures.1)

pub returns-then-high-ge10000 : goal.returns-then-high-ge10000
returns-then-high-ge10000 c = (c.none.ensures.0, inl c.none.ensures.1)

pub overflow_sub-length : goal.overflow_sub-length
overflow_sub-length c = omega (arith, c.short_length.ensures, spaced_some (c.args.time / 100000000))

pub returns : goal.returns
unfolding Right
returns c = let h = c.args.time / 100000000 in
    let serves : (t : ℕ) → h * 100000000 ≤ t → t - h * 100000000 < 100000000 → Serves (of_first h c.short-word.result (c.short_length.result - 1)) t =
    λ t i j. first_serves h c.short-word.result (c.short_length.result - 1) t (omega arith) (omega arith) c.short-word.ensures (omega (arith, c.short_length.ensures)) i j in
    (serves, inr (serves c.args.time (omega arith) (omega arith)))
