-- What happens to a tile, and what becomes of its state. Assumes nothing.
use Rattle.std.specs.Prelude.{List, [], ◌∷◌, ℕ}
use Rattle.board.specs.State.{pulsed, closed}
use Rattle.board.specs.declared.Board.{Board}

-- §E5.6 a pulse from a sender, or the close of the open reading
pub data Event : Type 0 where
  pulse : (sender : ℕ) → Event
  close : Event

-- §E5.6 the state after an event
unfoldable pub happens : Board → Event → Board
happens b (pulse k) = (pulsed b k).board
happens b close = (closed b).board

-- §E5.6 the state after a list of them
unfoldable pub after : Board → List Event → Board
after b [] = b
after b (e ∷ es) = after (happens b e) es
