-- `Stamps::check` meets its contract: it stops at the first late place, or has counted the silent ones. Assumes nothing.
use mathlib.Core.Path.{◌≡◌, refl, sym, ◌∙◌}
use mathlib.Core.List.{[]}
use Prim.Native.Nat.{suc}
use native.Mathlib.Numerals.{add-one}
use native.Mathlib.Omega.{arith}
use borrow.Author.Tests.{lt-ltb, le-ltb}
use Rattle.settings.specs.Refusal.{answer}
use Rattle.settings.specs.declared.refusal.Refusal.TheVariants as why
use Rattle.tile.specs.Tile.{late_at, silences as silences_to, silent_at, stamp_tests, stamp_cause}
use Rattle.settings.proofs.Laws.Refusal.{skip, hit, end}
use Rattle.settings.proofs.Laws.AnyBelow.{some_below, none_at_zero, none_below_more}
use Rattle.tile.proofs.Laws.{silent_is, silent_most, silences_most}
use Rattle.tile.proofs.Stamps.check.Goals as goal

pub loop-place-init : goal.loop-place-init
loop-place-init c = (none_at_zero (late_at c.args.self), unfold silences_to in refl)

pub returns-then-late : goal.returns-then-late
unfolding answer stamp_cause stamp_tests
returns-then-late c = let x = c.args.self in
    rw (hit why.Stamp _ (some_below (late_at x) (suc x.count) c.loop-place.place (omega arith) (sym c.late.ensures ∙ c.if-late.true)))

pub overflow_add-silences : goal.overflow_add-silences
unfolding silent_at
overflow_add-silences c = let x = c.args.self in
    omega (arith, c.from-silences.ensures, silent_is (silent_at x c.loop-place.place), silent_most (silent_at x c.loop-place.place), silences_most x c.loop-place.place)

pub loop-place-preserved : goal.loop-place-preserved
unfolding silences_to silent_at
loop-place-preserved c = let i = c.loop-place.invariant in (
  none_below_more (late_at c.args.self) c.loop-place.place i.0 (sym c.late.ensures ∙ c.if-late.false),
  rw (add-one, i.1, c.from-silences.ensures, silent_is (silent_at c.args.self c.loop-place.place)),
)

pub returns-then-silences-gt1 : goal.returns-then-silences-gt1
unfolding answer stamp_cause stamp_tests
returns-then-silences-gt1 c = let i = c.loop-place.invariant in
    let x = c.args.self in
    let all : c.loop-place.place ≡ suc x.count = omega arith in
    rw (skip why.Stamp _ (rw all at i.0) ∙ hit why.Silences [] (lt-ltb 1 (silences_to x (suc x.count)) (rw (i.1, all) at c.if-silences-gt1.true)))

pub returns : goal.returns
unfolding answer stamp_cause stamp_tests
returns c = let i = c.loop-place.invariant in
    let x = c.args.self in
    let all : c.loop-place.place ≡ suc x.count = omega arith in
    rw (skip why.Stamp _ (rw all at i.0) ∙ end why.Silences (le-ltb 1 (silences_to x (suc x.count)) (rw (i.1, all) at c.if-silences-gt1.false)))
