-- `tile_words` meets its contract. Assumes nothing.
use Rattle.board_calls.specs.Words.{tile_words}
use Rattle.board_calls.proofs.tile_words.Goals as goal

pub returns : goal.returns
unfolding tile_words
returns c = rw c.stage_word.ensures
