-- `read_part` meets its contract. Assumes nothing.
use mathlib.Core.Bool.{false}
use mathlib.Core.Path.{◌≡◌, sym, ◌∙◌}
use Prim.Native.Nat.{◌-◌, ◌<◌}
use native.Mathlib.Omega.{arith}
use Rattle.window.proofs.Laws.Window.{lacking_some, reads_less, same_front, stand_first}
use Rattle.window.proofs.read_part.Goals as goal

pub take_in-requires : goal.take_in-requires
take_in-requires g c = let at = c.loop-from in
    let args = c.args in
    let lacks : (at.window.ended ≡ false) × (at.window.end - at.window.start < args.due) =
    lacking_some _ _ (sym c.lacks.ensures ∙ c.loop-from-test.true) in
    (at.invariant.0.ordered, omega (arith, at.invariant.0.ordered))

pub loop-from-smaller : goal.loop-from-smaller
loop-from-smaller g c = let at = c.loop-from in
    let lacks = sym c.lacks.ensures ∙ c.loop-from-test.true in
    let next = c.in_ok-window.ensures in
    reads_less at.window _ _ _ _ at.invariant.0.ordered lacks next

pub loop-from-preserved : goal.loop-from-preserved
loop-from-preserved g c = let args = c.args in
    let at = c.loop-from in
    let next = c.in_ok-window.ensures in
    let still = same_front args.window.end at.window.end _ _ at.invariant.3 next.kept in
    (next.within, omega arith, next.start ∙ at.invariant.2, omega (arith, next.grown), still ∙ at.invariant.4)

pub returns : goal.returns
returns g c = let args = c.args in
    let at = c.loop-from in
    record {
      within = at.invariant.0;
      first = stand_first args.window at.window args.input.now _ c.requires.0 at.invariant.0 at.invariant.1 at.invariant.2 at.invariant.3 at.invariant.4;
      enough = sym c.lacks.ensures ∙ c.loop-from-test.false;
    }
