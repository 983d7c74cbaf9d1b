-- The loop's invariant: the numbers passed are written.
use Rattle.std.proofs.Common.{take}
use Rattle.columns.specs.Wrote.{Wrote}
use Rattle.lines.specs.Line.{numbers_text}
use Rattle.lines.proofs.line.Given as goal

abbrev pub invariant-loop-value : goal.invariant-loop-value
invariant-loop-value l = Wrote l.initial.out l.initial.end (numbers_text (take l.value-index l.values)) l.out l.end
