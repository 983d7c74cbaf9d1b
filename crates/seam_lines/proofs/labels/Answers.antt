-- `labels` meets its contract: a head and two columns, one after the other. Assumes nothing.
use native.Mathlib.Omega.{arith}
use Rattle.columns.proofs.Laws.Wrote.{wrote_then}
use Rattle.seam_lines.proofs.labels.Goals as goal

pub returns : goal.returns
returns c = let one = c.put_first-first.ensures in
    let two = c.column-second.ensures in
    let three = c.column.ensures in
    record { wrote = wrote_then (wrote_then one.wrote two.wrote) three.wrote; upper_bound = omega (arith, one.value, two.upper_bound, three.upper_bound, c.requires.1) }
