-- `tile_in` meets its contract. Assumes nothing.
use Rattle.counted.specs.State.{counted}
use Rattle.board_calls.specs.Words.{tile_in}
use Rattle.board_calls.proofs.tile_in.Goals as goal

pub returns : goal.returns
unfolding tile_in counted
returns c = rw (c.settings_from.ensures, c.senders_in.ensures, c.stage_in.ensures)
