-- `quiet` meets its contract: it tests what a quiet byte is. Assumes nothing.
use mathlib.Core.Path.{sym, ◌∙◌}
use mathlib.Core.Bool.{true≢false}
use Prim.Native.Nat.{◌/◌, ◌%◌, ◌+◌}
use lib.ListN.{get_or}
use native.Mathlib.Omega.{arith}
use borrow.Author.Tests.{eqb-true, leb-true, ne_eqb}
use Rattle.columns.specs.Marks.{mark_bytes}
use Rattle.columns.proofs.quiet.Goals.{then-c-eq0, else-c-eq0}
use Rattle.columns.proofs.quiet.Goals as goal

pub bounds-marks-c : goal.bounds-marks-c
unfolding mark_bytes
bounds-marks-c c = omega (arith, c.requires.2)

pub returns-then-c-width : goal.returns-then-c-width
returns-then-c-width c = λ e.
    let a = c.args in
    elim c.if-c-eq0.branch [
      | then-c-eq0 w ↦ record {
        starts = w.if-c-eq0.true;
        inside = leb-true (a.c + 11) a.width (sym w.value-is ∙ c.if-c-width.true);
        none = eqb-true (get_or a.marks.now (a.c / 8) 0) 0 e;
      }
      | else-c-eq0 w ↦ absurd (true≢false (sym c.if-c-width.true ∙ w.value-is ∙ ne_eqb (a.c % 8) 0 w.if-c-eq0.false))
    ]
