-- Where a tile stands: its open reading, and whether its run is over. Assumes nothing.
use Rattle.std.specs.Prelude.{Bool, true, false, cond, ℕ, suc, eqb}
use Rattle.senders.specs.Senders.{last}
use Rattle.board.specs.declared.stand.Stand.{Stand}
use Rattle.board.specs.declared.stand.Stage.{Stage}
use Rattle.board.specs.declared.stand.Stage.TheVariants as stage
use Rattle.board.specs.declared.stand.Answer.{Answer}
use Rattle.board.specs.declared.stand.Answer.TheVariants as answer

-- §E5.3 at a reading, in a stage
unfoldable pub stand : (reading : ℕ) → Stage → Stand
stand v s = record { reading = v; stage = s }

-- §E5.3 a close of this reading: the tile pulses where P + A is reached, and otherwise the next reading opens; after the last none does
unfoldable pub closing : (reached : Bool) → (reading : ℕ) → Stand
closing true v = stand v stage.Pulsed
closing false v = cond (eqb v last) (stand v stage.Ended) (stand (suc v) stage.Running)

-- §E5.3 what closes from an open reading answer, by the stage after them
unfoldable pub told : Stage → Answer
told stage.Running = answer.Waits
told stage.Pulsed = answer.Pulsed
told stage.Ended = answer.Done

-- §E5.4 the run is not over
unfoldable pub is_running : Stage → Bool
is_running stage.Running = true
is_running stage.Pulsed = false
is_running stage.Ended = false
