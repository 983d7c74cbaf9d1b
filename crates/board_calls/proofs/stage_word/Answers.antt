-- `stage_word` meets its contract. Assumes nothing.
use Rattle.board_calls.specs.Words.{stage_word}
use Rattle.board_calls.proofs.stage_word.Goals as goal

pub returns-in-Running : goal.returns-in-Running
unfolding stage_word
returns-in-Running c = rw c.in-Running.is

pub returns-in-Pulsed : goal.returns-in-Pulsed
unfolding stage_word
returns-in-Pulsed c = rw c.in-Pulsed.is

pub returns-in-Ended : goal.returns-in-Ended
unfolding stage_word
returns-in-Ended c = rw c.in-Ended.is
