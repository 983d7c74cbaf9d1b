-- `senders_in` meets its contract. Assumes nothing.
use mathlib.Core.Path.{refl}
use Rattle.board_calls.specs.Words.{senders_in}
use Rattle.board_calls.proofs.senders_in.Goals as goal

pub returns : goal.returns
unfolding senders_in
returns c = refl
