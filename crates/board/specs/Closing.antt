-- Many closes as the code works them out, in constant time. `ClosingsRight` (specs/Promises.antt) shows that this is what the closes of
-- specs/State.antt come to, one by one. Assumes nothing.
use Rattle.std.specs.Prelude.{Bool, false, cond, ℕ, ◌+◌, ◌-◌, min, max, leb, Option, Some, None}
use Rattle.senders.specs.Due.{due_code}
use Rattle.senders.specs.Senders.{last}
use Rattle.board.specs.Stand.{stand}
use Rattle.board.specs.State.{runs, at}
use Rattle.board.specs.declared.Board.{Board}
use Rattle.board.specs.declared.stand.Stand.{Stand}
use Rattle.board.specs.declared.stand.Stage.TheVariants.{Running, Pulsed, Ended}

-- §E5.5 the reading whose close ends the run: the one that is due, or the open one where that is later; at most the last, and that where none is due
unfoldable pub end_of : (due : Option ℕ) (reading : ℕ) → ℕ
end_of None v = last
end_of (Some d) v = min (max v d) last

-- §E5.5 the pulse is due by a reading
unfoldable pub due_by : (due : Option ℕ) (reading : ℕ) → Bool
due_by None v = false
due_by (Some d) v = leb d v

-- §E5.5 after n closes from an open reading
unfoldable pub closings : (due : Option ℕ) (reading n : ℕ) → Stand
closings d v n =
    let e = end_of d v in
    cond (leb n (e - v)) (stand (v + n) Running) (cond (due_by d e) (stand e Pulsed) (stand e Ended))

-- §E5.5 the state after n closes at once
unfoldable pub jumped : (n : ℕ) → Board → Board
jumped n b = cond (runs b) (at b (closings (due_code b.settings b.senders) b.stand.reading n)) b
