-- `fits_in` meets its contract. Assumes nothing.
use lib.ListN.{get_or}
use borrow.Author.Tests.{lt-leb, le-leb}
use Rattle.board_calls.specs.Words.{fits_in}
use Rattle.board_calls.proofs.fits_in.Goals as goal

pub returns-then-words-gt2 : goal.returns-then-words-gt2
unfolding fits_in
returns-then-words-gt2 c = rw (lt-leb _ 2 c.if-words-gt2.true)

pub returns : goal.returns
unfolding fits_in
returns c = rw (le-leb (get_or c.args.words.now 17 0) 2 c.if-words-gt2.false, c.fits.ensures, c.tile_in-tile.ensures)
