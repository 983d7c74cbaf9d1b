-- `spaced` meets its contract. Assumes nothing.
use Rattle.columns.proofs.Laws.Wrote.{wrote_then}
use Rattle.lines.proofs.spaced.Goals as goal

pub returns : goal.returns
returns c = wrote_then c.byte-end.ensures c.decimal.ensures
