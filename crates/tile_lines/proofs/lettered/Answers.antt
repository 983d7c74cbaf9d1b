-- `lettered` meets its contract. Assumes nothing.
use Rattle.columns.proofs.Laws.Wrote.{wrote_then}
use Rattle.tile_lines.proofs.lettered.Goals as goal

pub returns : goal.returns
returns c = wrote_then (wrote_then c.byte-spaced.ensures c.byte-next.ensures) c.byte.ensures
