-- `close_many` meets its contract. Assumes nothing.
use mathlib.Core.Path.{sym, ◌∙◌}
use Rattle.board_calls.specs.Answers.{close_number, many_left, many_answer}
use Rattle.board_calls.proofs.close_many.Goals as goal

pub returns-then-fits_in : goal.returns-then-fits_in
unfolding close_number many_left many_answer
returns-then-fits_in c = let e = sym c.fits_in.ensures ∙ c.if-fits_in.true in
    record {
      number = rw e;
      words = rw (e, c.tile_words.ensures, c.close_many-closed.ensures, c.tile_in-tile.ensures);
      answer = rw (e, c.answer_word.ensures, c.close_many-closed.ensures, c.tile_in-tile.ensures);
    }

pub returns : goal.returns
unfolding close_number many_left many_answer
returns c = let e = sym c.fits_in.ensures ∙ c.if-fits_in.false in
    record {
      number = rw e;
      words = rw e;
      answer = rw e;
    }
