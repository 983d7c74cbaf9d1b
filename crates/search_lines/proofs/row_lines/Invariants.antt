-- The lines of the rows passed are written.
use Rattle.std.proofs.Common.{length, take}
use Rattle.columns.specs.Wrote.{Wrote}
use Rattle.search_lines.specs.Text.{reach_texts}
use Rattle.search_lines.proofs.row_lines.Given as goal

abbrev pub invariant-loop-later : goal.invariant-loop-later
invariant-loop-later l =
    Wrote l.initial.out l.initial.end (reach_texts l.place.settings l.gap l.place.row (take (length l.yielded) (take 16 l.asked))) l.out l.end
