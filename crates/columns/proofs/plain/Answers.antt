-- `plain` meets its contract: it tests what a plain stretch is, of eight tiles and of those up to a mark. Assumes nothing.
use mathlib.Core.Path.{◌≡◌, sym, ◌∙◌}
use mathlib.Core.Bool.{false}
use Prim.Native.Nat.{◌-◌, ◌<◌}
use native.Mathlib.Omega.{arith}
use Rattle.columns.specs.Marks.{marked, mark_bytes}
use Rattle.columns.specs.Plain.{Quiet}
use Rattle.columns.proofs.Laws.Plain.{plain_none, plain_eight}
use Rattle.columns.proofs.plain.Goals.{Else-marked, Then-quiet}
use Rattle.columns.proofs.plain.Goals as goal

-- no tile
none : {A : Type 0} → 0 < 0 → A
none i = let never : ⊥ = omega arith in absurd never

left : (c : Else-marked) → let a = c.args in marked a.marks.now (a.c - 1) ≡ false
left c = sym c.marked.ensures ∙ c.if-marked.false

quiet_here : (c : Then-quiet) → let a = c.args in Quiet a.width a.marks.now a.c
quiet_here c = c.quiet.ensures c.if-quiet.true

pub returns-then-c-lt3 : goal.returns-then-c-lt3
returns-then-c-lt3 c = none

pub overflow_sub-c : goal.overflow_sub-c
overflow_sub-c c = omega (arith, c.if-c-lt3.false)

pub marked-requires : goal.marked-requires
unfolding mark_bytes
marked-requires c = omega (arith, c.requires.1, c.requires.2)

pub marked-requires-2 : goal.marked-requires-2
unfolding mark_bytes
marked-requires-2 c = omega (arith, c.requires.0, c.requires.2)

-- eight tiles
pub overflow_add-c-then-quiet : goal.overflow_add-c-then-quiet
overflow_add-c-then-quiet c = omega (arith, (quiet_here c).inside)

pub marked-requires-then-quiet : goal.marked-requires-then-quiet
unfolding mark_bytes
marked-requires-then-quiet c = omega (arith, (quiet_here c).inside)

pub returns-then-not-marked : goal.returns-then-not-marked
returns-then-not-marked c = λ i.
    let a = c.args in
    plain_eight a.width a.marks.now c.if-c-lt3.false (left (goal.at.returns-then-not-marked c).Else-marked) (quiet_here (goal.at.returns-then-not-marked c).Then-quiet)
    (sym c.marked-then-quiet.ensures ∙ c.if-not-marked.true)

pub returns-then-marked-2 : goal.returns-then-marked-2
returns-then-marked-2 c = none

pub stretch-requires : goal.stretch-requires
stretch-requires c = let a = c.args in (
  c.requires.1,
  c.requires.2,
  plain_none a.width a.marks.now c.if-c-lt3.false (omega (arith, c.if-width-c.false)) (left (goal.at.stretch-requires c).Else-marked) (sym c.marked-2.ensures ∙ c.if-marked-2.false),
)

pub returns : goal.returns
returns c = λ i. c.stretch.ensures
