-- `answer_word` meets its contract. Assumes nothing.
use Rattle.board_calls.specs.Words.{answer_word}
use Rattle.board_calls.proofs.answer_word.Goals as goal

pub returns-in-Waits : goal.returns-in-Waits
unfolding answer_word
returns-in-Waits c = rw c.in-Waits.is

pub returns-in-Pulsed : goal.returns-in-Pulsed
unfolding answer_word
returns-in-Pulsed c = rw c.in-Pulsed.is

pub returns-in-Done : goal.returns-in-Done
unfolding answer_word
returns-in-Done c = rw c.in-Done.is
