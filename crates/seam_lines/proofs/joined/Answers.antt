-- `joined` meets its contract: codes in time are the times of correct tiles. Assumes nothing.
use mathlib.Core.Path.{◌∙◌}
use lib.ListN.{length}
use native.Mathlib.Omega.{arith}
use Rattle.columns.specs.Marks.{mark_bytes}
use Rattle.tile_lines.proofs.Laws.Code.{coded_at}
use Rattle.seam_lines.proofs.Laws.Line.{by_codes}
use Rattle.seam_lines.proofs.joined.Goals as goal

pub returns-then-right-le-LATEST : goal.returns-then-right-le-LATEST
returns-then-right-le-LATEST c = let a = c.args in
    let at = coded_at a.codes.now a.marks.now a.times.now (length a.times.now) in
    let codes = c.requires.times_in_bounds.1 in
    c.join.ensures
    ∙ by_codes _ _ _ _ (at a.a codes c.requires.a_in_bounds.0) (at a.b codes c.requires.a_in_bounds.1) c.if-left-le-LATEST.true c.if-right-le-LATEST.true

pub marked-left_faulty-requires : goal.marked-left_faulty-requires
unfolding mark_bytes
marked-left_faulty-requires c = omega (arith, c.requires.a_in_bounds.3)

pub marked-right_faulty-requires : goal.marked-right_faulty-requires
unfolding mark_bytes
marked-right_faulty-requires c = omega (arith, c.requires.a_in_bounds.3)

pub returns : goal.returns
returns c = c.join-2.ensures ∙ rw (c.marked-left_faulty.ensures, c.marked-right_faulty.ensures)
