-- `code` meets its contract. Assumes nothing.
use Rattle.tile_lines.specs.Tile.{code}
use Rattle.tile_lines.proofs.code.Goals as goal

pub returns-then-faulty : goal.returns-then-faulty
returns-then-faulty c = unfold code in rw c.if-faulty.true

pub returns : goal.returns
returns c = unfold code in rw c.if-faulty.false
