-- `first_marked` meets its contract. Assumes nothing.
use mathlib.Core.Path.{◌≡◌, sym, ◌∙◌, ap}
use mathlib.Core.Bool.{cond}
use mathlib.Core.List.{List}
use Prim.Native.Nat.{ℕ, suc, ◌+◌, ◌-◌, ◌<◌}
use native.Mathlib.Numerals.{add-one}
use native.Mathlib.Omega.{arith}
use Rattle.columns.specs.Marks.{marked, mark_bytes}
use Rattle.telling.specs.Telling.{first_in, first_marked}
use Rattle.telling.proofs.first_marked.Goals as goal

less_none : (w : ℕ) → w - 0 ≡ w
less_none w = omega arith

-- one column on
passed : (w c : ℕ) (ms : List ℕ) → c < w → first_in (w - c) c ms ≡ cond (marked ms c) c (first_in (w - (c + 1)) (c + 1) ms)
unfolding first_in
passed w c ms i =
    let more : w - c ≡ suc (w - (c + 1)) = omega (arith, i) in
    rw (more, add-one)

pub loop-c-init : goal.loop-c-init
loop-c-init c = ap (λ (n : ℕ). first_in n 0 c.args.marks.now) (less_none c.args.width)

pub marked-requires : goal.marked-requires
unfolding mark_bytes
marked-requires c = omega (arith, c.requires.1)

pub returns-then-marked : goal.returns-then-marked
unfolding first_marked
returns-then-marked c = let a = c.args in
    let w = a.width in
    let k = c.loop-c.c in
    let ms = a.marks.now in
    let here : first_in (w - k) k ms ≡ k = rw (sym c.marked.ensures ∙ c.if-marked.true) at (passed w k ms c.loop-c-test.true) in
    sym here ∙ c.loop-c.invariant

pub loop-c-preserved : goal.loop-c-preserved
loop-c-preserved c = let a = c.args in
    let w = a.width in
    let k = c.loop-c.c in
    let ms = a.marks.now in
    let next : first_in (w - k) k ms ≡ first_in (w - (k + 1)) (k + 1) ms = rw (sym c.marked.ensures ∙ c.if-marked.false) at (passed w k ms c.loop-c-test.true) in
    sym next ∙ c.loop-c.invariant

pub returns : goal.returns
unfolding first_marked first_in
returns c = let none : c.args.width - c.loop-c.c ≡ 0 = omega (arith, c.loop-c-test.false) in
    let end : c.loop-c.c ≡ c.args.width = omega (arith, c.loop-c-test.false, c.loop-c.auto) in
    sym end ∙ rw none at c.loop-c.invariant
