-- `left` meets its contract. Assumes nothing.
use mathlib.Core.Path.{sym}
use native.Mathlib.Omega.{arith}
use Rattle.places.proofs.Laws.Seams.{left_first, left_inner, left_last}
use Rattle.places.proofs.seams.left.Goals as goal

pub returns-then-i-lt2 : goal.returns-then-i-lt2
returns-then-i-lt2 c = let a = c.args in record { is = sym (left_first a.width a.i c.if-i-lt2.true); inside = omega arith }

pub returns-then-i-width : goal.returns-then-i-width
returns-then-i-width c = let a = c.args in
    record { is = sym (left_inner a.width a.i c.if-i-lt2.false (omega (arith, c.if-i-width.true))); inside = omega arith }

pub returns : goal.returns
returns c = let a = c.args in
    record { is = sym (left_last a.width a.i c.if-i-lt2.false (omega (arith, c.if-i-width.false))); inside = omega arith }
