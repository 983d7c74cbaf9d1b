-- One close is one of many. Assumes nothing.
use mathlib.Core.Path.{◌≡◌}
use Rattle.board.specs.Promises.{OneClose}
use Rattle.board.proofs.Promises as board
use Rattle.counted.specs.State.{closed, closed_many}
use Rattle.counted.specs.declared.Counted.{Counted}

pub one_close : (x : Counted) → closed x ≡ closed_many x 1
unfolding closed closed_many OneClose
one_close x = rw (board.one_close x.board)
