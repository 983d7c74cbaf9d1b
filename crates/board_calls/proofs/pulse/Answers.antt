-- `pulse` meets its contract. Assumes nothing.
use mathlib.Core.Path.{sym, ◌∙◌}
use Rattle.board_calls.specs.Answers.{pulse_number, pulse_left}
use Rattle.board_calls.proofs.pulse.Goals as goal

pub returns-in-Some : goal.returns-in-Some
unfolding pulse_number pulse_left
returns-in-Some c = let e = sym c.fits_in.ensures ∙ c.if-fits_in.true in
    let why = rw (c.pulse-heard.ensures, c.tile_in-tile.ensures) at c.in-Some.is in
    record {
      number = rw (e, why) c.number.ensures;
      words = rw (e, c.tile_words.ensures, c.pulse-heard.ensures, c.tile_in-tile.ensures);
    }

pub returns-in-None : goal.returns-in-None
unfolding pulse_number pulse_left
returns-in-None c = let e = sym c.fits_in.ensures ∙ c.if-fits_in.true in
    let why = rw (c.pulse-heard.ensures, c.tile_in-tile.ensures) at c.in-None.is in
    record {
      number = rw (e, why);
      words = rw (e, c.tile_words.ensures, c.pulse-heard.ensures, c.tile_in-tile.ensures);
    }

pub returns : goal.returns
unfolding pulse_number pulse_left
returns c = let e = sym c.fits_in.ensures ∙ c.if-fits_in.false in record { number = rw e; words = rw e }
