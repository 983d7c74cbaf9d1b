-- `passed` meets its contract. Assumes nothing.
use mathlib.Core.Path.{◌≡◌, refl, sym, ◌∙◌, ap}
use Prim.Native.Nat.{ℕ, suc, ◌+◌, ◌-◌, ◌≤◌, ◌<◌}
use lib.ListN.{length, get_or}
use native.Mathlib.Omega.{arith}
use Rattle.places.proofs.Laws.Seams.{left_inner, right_inner}
use Rattle.wide.specs.Wide.{seam_first}
use Rattle.wide.proofs.Laws.Seam.{narrow_none, goes_on}
use Rattle.wide_rows.proofs.passed.Goals as goal

pub returns-then-i-lt2 : goal.returns-then-i-lt2
returns-then-i-lt2 c = record { within = (omega arith, c.requires.2); same = λ marks. refl }

pub loop-at-init : goal.loop-at-init
loop-at-init c = (omega arith, refl, λ marks. refl)

pub returns-then-not-narrow : goal.returns-then-not-narrow
returns-then-not-narrow c = record { within = (c.loop-at.auto.at, omega (arith, c.loop-at-test.true)); same = c.loop-at.invariant.2 }

pub loop-at-preserved : goal.loop-at-preserved
unfolding seam_first
loop-at-preserved c = let a = c.args in
    let ts = a.times.now in
    let at = c.loop-at.at in
    let i = c.loop-at.invariant in
    let low : 2 ≤ at = omega (arith, c.if-i-lt2.false, c.loop-at.auto.at) in
    let inside : suc at < length ts = omega (arith, c.loop-at-test.true, c.requires.0) in
    let within : at ≤ length ts = omega (arith, inside) in
    let back : at + 1 - 1 ≡ at = omega arith in
    let passes = sym c.narrow.ensures ∙ c.if-not-narrow.false in (
      omega (arith, inside),
      ap (λ (k : ℕ). get_or ts k 0) (sym back),
      λ marks.
          i.2 marks
          ∙ goes_on a.limit (length ts) ts marks at within
          (rw (left_inner (length ts) at low inside, right_inner (length ts) at low (omega (arith, inside)))
          (narrow_none a.limit (get_or ts (at - 1) 0) (get_or ts at 0) _ _ _ _ (rw i.1 at passes))),
    )

pub returns : goal.returns
returns c = let a = c.args in
    let i = c.loop-at.invariant in
    let end : c.loop-at.at ≡ c.max.result = omega (arith, c.max.ensures, i.0, c.loop-at.auto.at, c.loop-at-test.false) in
    record { within = (omega (arith, c.max.ensures), omega (arith, c.max.ensures, c.requires.2)); same = rw end at i.2 }
