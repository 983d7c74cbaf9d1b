-- `stray_mark` meets its contract: the columns before the row's end are no strays. Assumes nothing.
use mathlib.Core.Path.{◌≡◌, sym, ◌∙◌}
use Prim.Native.Nat.{◌*◌, ◌≤◌}
use native.Mathlib.Omega.{arith}
use borrow.Author.Tests.{le-leb, lt-leb}
use Rattle.admission.specs.Refusal.{stray_mark}
use Rattle.columns.specs.Marks.{mark_bytes}
use Rattle.settings.proofs.Laws.AnyBelow.{some_below, none_till, none_below_more}
use Rattle.admission.proofs.stray_mark.Goals as goal

pub overflow_mul-c-end : goal.overflow_mul-c-end
unfolding mark_bytes
overflow_mul-c-end c = omega arith

pub loop-c-init : goal.loop-c-init
unfolding stray_mark
loop-c-init c = let a = c.args in none_till (stray_mark a.width a.marks.now) a.width (λ k i. rw (lt-leb a.width k i))

pub returns-then-marked : goal.returns-then-marked
unfolding stray_mark
returns-then-marked c = let a = c.args in
    let k = c.loop-c.c in
    let past : a.width ≤ k = omega arith in
    sym (some_below (stray_mark a.width a.marks.now) (8 * mark_bytes a.width) k (omega arith) (rw (le-leb a.width k past) (sym c.marked.ensures ∙ c.if-marked.true)))

pub loop-c-preserved : goal.loop-c-preserved
unfolding stray_mark
loop-c-preserved c = let a = c.args in
    let k = c.loop-c.c in
    let past : a.width ≤ k = omega arith in
    none_below_more (stray_mark a.width a.marks.now) k c.loop-c.invariant (rw (le-leb a.width k past) (sym c.marked.ensures ∙ c.if-marked.false))

pub returns : goal.returns
unfolding mark_bytes
returns c = let all : c.loop-c.c ≡ 8 * mark_bytes c.args.width = omega arith in
    sym (rw all at c.loop-c.invariant)
