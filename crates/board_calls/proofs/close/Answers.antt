-- `close` meets its contract: it is one close of many. Assumes nothing.
use Rattle.board.specs.State as board
use Rattle.counted.specs.State.{closed, closed_many}
use Rattle.board_calls.specs.Answers.{close_left, close_answer, many_left, many_answer}
use Rattle.board_calls.proofs.close.Goals as goal

pub returns : goal.returns
unfolding close_left close_answer many_left many_answer closed closed_many board.closed board.closed_many board.shut_many
returns c = record {
  number = c.close_many.ensures.number;
  words = c.close_many.ensures.words;
  answer = c.close_many.ensures.answer;
}
