-- `along` meets its contract. Assumes nothing.
use mathlib.Core.Path.{◌≡◌, sym, ◌∙◌, ap}
use mathlib.Core.List.{List}
use Prim.Native.Nat.{ℕ, suc, ◌-◌}
use lib.ListN.{length}
use native.Mathlib.Omega.{arith}
use Rattle.wide.specs.Wide.{seam_first, first_from, rest_first, row_first}
use Rattle.places.specs.Seams.{seam_left, seam_right}
use Rattle.wide.proofs.Laws.Seam.{goes_on, stops_wide, stops_late}
use Rattle.std.specs.Prelude.{Option, Some, Result, Ok, Err}
use Rattle.std.proofs.lemmas.Result.{err_from_is_err_and}
use Rattle.settings.specs.declared.refusal.Refusal.{Refusal}
use Rattle.wide.specs.declared.Wide.{Wide}
use Rattle.wide_rows.proofs.along.Goals as goal

-- a seam by its columns
here : (n w : ℕ) (ts ms : List ℕ) (i : ℕ) {a b : ℕ} {x : Result (Option Wide) Refusal} → a ≡ seam_left w i → b ≡ seam_right w i → x ≡ seam_first n ts ms a b → seam_first n ts ms (seam_left w i) (seam_right w i) ≡ x
here n w ts ms i p q e = rw (← p, ← q) (sym e)

pub loop-i-init : goal.loop-i-init
unfolding rest_first row_first
loop-i-init c = let a = c.args in
    let w = length a.times.now in
    let all : suc w - 0 ≡ suc w = omega arith in
    (omega arith, ap (λ (m : ℕ). first_from a.limit w a.times.now a.marks.now m 0) all)

pub passed-i-requires : goal.passed-i-requires
passed-i-requires c = (c.requires.0, c.requires.1, c.loop-i-test.true)

pub left-a-requires : goal.left-a-requires
left-a-requires c = (c.requires.0, c.requires.1, c.passed-i.ensures.within.1)

pub right-b-requires : goal.right-b-requires
right-b-requires c = (c.requires.0, c.requires.1, c.passed-i.ensures.within.1)

pub seam_first-requires : goal.seam_first-requires
seam_first-requires c = (c.requires.2, c.left-a.ensures.inside, c.right-b.ensures.inside, c.requires.1)

pub loop-i-smaller : goal.loop-i-smaller
loop-i-smaller c = omega (arith, c.passed-i.ensures.within, c.loop-i-test.true)

pub loop-i-preserved : goal.loop-i-preserved
loop-i-preserved c = let a = c.args in
    let w = length a.times.now in
    let i = c.passed-i.ensures.within.1 in
    let seam = here a.limit w a.times.now a.marks.now c.passed-i.result c.left-a.ensures.is c.right-b.ensures.is (rw c.in-None.is at c.in_ok-wide.ensures) in
    (omega (arith, i), sym (goes_on a.limit w a.times.now a.marks.now c.passed-i.result i seam) ∙ sym (c.passed-i.ensures.same a.marks.now) ∙ c.loop-i.invariant.1)

pub returns-in-Some : goal.returns-in-Some
returns-in-Some c = let a = c.args in
    let w = length a.times.now in
    let seam = here a.limit w a.times.now a.marks.now c.passed-i.result c.left-a.ensures.is c.right-b.ensures.is (rw c.in-Some.is at c.in_ok-wide.ensures) in
    sym (stops_wide a.limit w a.times.now a.marks.now c.passed-i.result c.passed-i.ensures.within.1 seam) ∙ sym (c.passed-i.ensures.same a.marks.now) ∙ c.loop-i.invariant.1

pub returns-in_err-wide : goal.returns-in_err-wide
returns-in_err-wide c = let a = c.args in
    let w = length a.times.now in
    let p = err_from_is_err_and c.from_residual.result c.from_residual.ensures.1 in
    let seam = here a.limit w a.times.now a.marks.now c.passed-i.result c.left-a.ensures.is c.right-b.ensures.is c.in_err-wide.ensures in
    rw (p.1, p.2) (sym (stops_late a.limit w a.times.now a.marks.now c.passed-i.result c.passed-i.ensures.within.1 seam) ∙ sym (c.passed-i.ensures.same a.marks.now) ∙ c.loop-i.invariant.1)

pub returns : goal.returns
unfolding rest_first first_from
returns c = let none : suc (length c.args.times.now) - c.loop-i.i ≡ 0 = omega (arith, c.loop-i-test.false) in
    rw none at c.loop-i.invariant.1
