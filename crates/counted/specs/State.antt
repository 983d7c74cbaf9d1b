-- What each operation makes of any state: that of the tile itself, and the counts beside it. Assumes nothing.
use Rattle.std.specs.Prelude.{cond, List, ℕ, ◌+◌, min, get_or, set, replicate}
use Rattle.settings.specs.declared.Settings.{Settings}
use Rattle.board.specs.State as board
use Rattle.board.specs.declared.Board.{Board}
use Rattle.board.specs.declared.Closed as board_closed
use Rattle.counted.specs.declared.Counted.{Counted}
use Rattle.counted.specs.declared.Started.{Started}
use Rattle.counted.specs.declared.Heard.{Heard}
use Rattle.counted.specs.declared.Closed.{Closed}

-- §E6.1 the largest count
abbrev pub most : ℕ
most = 65535

-- §E6.1 one repeat more, 65,535 at most
unfoldable pub one_more : (count : ℕ) → ℕ
one_more n = min (n + 1) most

-- §E6.1 a repeat raises its sender's count, and no other
unfoldable pub raised : (counts : List ℕ) → (sender : ℕ) → List ℕ
raised xs k = set xs k (one_more (get_or xs k 0))

-- §E6.1 a tile, and its counts
unfoldable pub counted : Board → (counts : List ℕ) → Counted
counted b xs = record { board = b; repeats = xs }

-- §E6.1 a start: each count is 0
unfoldable pub started : Settings → (count reading : ℕ) → Started
started s n v =
    let r = board.started s n v in
    record { refusal = r.refusal; tile = counted r.board (replicate 4 0) }

-- §E6.1 a pulse: it is counted where it is a repeat
unfoldable pub pulsed : Counted → (sender : ℕ) → Heard
pulsed x k =
    let r = board.pulsed x.board k in
    record { refusal = r.refusal; tile = counted r.board (cond r.repeat (raised x.repeats k) x.repeats) }

-- §E6.1 closes count nothing
unfoldable pub uncounted : Counted → board_closed.Closed → Closed
uncounted x r = record { answer = r.answer; tile = counted r.board x.repeats }

-- §E6.1 one close
unfoldable pub closed : Counted → Closed
closed x = uncounted x (board.closed x.board)

-- §E6.1 n closes
unfoldable pub closed_many : Counted → (n : ℕ) → Closed
closed_many x n = uncounted x (board.closed_many x.board n)
