-- The loop's invariant: the lines of the columns passed are written.
use Prim.Native.Nat.{◌-◌}
use Rattle.tables.specs.Word.{bytes}
use Rattle.seam_lines.specs.Seam.{run_after}
use Rattle.columns.specs.Wrote.{Wrote}
use Rattle.seam_lines.proofs.run.Given as goal

abbrev pub invariant-loop-b : goal.invariant-loop-b
invariant-loop-b l = Wrote l.initial.out l.at (run_after (bytes l.head.length l.head.word) l.marks l.times l.gap l.from (l.b - l.from)) l.out l.end
