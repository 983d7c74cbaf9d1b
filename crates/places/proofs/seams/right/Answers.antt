-- `right` meets its contract. Assumes nothing.
use mathlib.Core.Path.{sym}
use native.Mathlib.Omega.{arith}
use Rattle.places.proofs.Laws.Seams.{right_first, right_inner, right_last}
use Rattle.places.proofs.seams.right.Goals as goal

pub returns-then-i-lt2 : goal.returns-then-i-lt2
returns-then-i-lt2 c = let a = c.args in
    record { is = omega (arith, right_first a.width a.i c.if-i-lt2.true); inside = omega arith }

pub returns-then-i-width : goal.returns-then-i-width
returns-then-i-width c = let a = c.args in
    record { is = sym (right_inner a.width a.i c.if-i-lt2.false c.if-i-width.true); inside = omega arith }

pub returns : goal.returns
returns c = let a = c.args in
    record { is = sym (right_last a.width a.i c.if-i-lt2.false c.if-i-width.false); inside = omega arith }
