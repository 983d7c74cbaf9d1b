-- `close` meets its contract: it is one close of many. Assumes nothing.
use Rattle.board.specs.State.{shut_many, closed, closed_many}
use Rattle.board.proofs.Board.close.Goals as goal

pub returns : goal.returns
unfolding closed closed_many shut_many
returns c = c.close_many.ensures
