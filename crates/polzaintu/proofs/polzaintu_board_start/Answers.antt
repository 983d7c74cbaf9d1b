-- `polzaintu_board_start` meets its contract. Assumes nothing.
use mathlib.Core.Path.{◌∙◌}
use Rattle.polzaintu.proofs.polzaintu_board_start.Goals as goal

pub returns : goal.returns
returns c = let s = c.settings_in.ensures in
    record { number = c.start.ensures.number ∙ rw s; board = c.start.ensures.words ∙ rw s }
