-- `step` meets its contract. Assumes nothing.
use mathlib.Core.Path.{◌≡◌, sym, ◌∙◌}
use lib.ListN.{length, take}
use lib.Seq.{length-take-le}
use native.Mathlib.Omega.{arith}
use borrow.Author.Tests.{leb-true}
use Rattle.row.specs.Row.{pulses}
use Rattle.wall.specs.Operation.{fits}
use Rattle.wall.proofs.Laws.Stepping.{unfit}
use Rattle.wall.proofs.step.Goals.{After-letter_space-next_letters, After-time_space-next}
use Rattle.wall.proofs.step.Goals as goal

-- the next row has room, and its letters
long : (c : After-time_space-next) → length (take c.width-width.result c.time_space-next.result) ≡ c.width-width.result
long c = length-take-le _ c.time_space-next.result (omega (arith, c.width-width.ensures.few, c.time_space-next.ensures))

letters_long : (c : After-letter_space-next_letters) → length (take c.width-width.result c.letter_space-next_letters.result) ≡ c.width-width.result
letters_long c = length-take-le _ c.letter_space-next_letters.result (omega (arith, c.width-width.ensures.few, c.letter_space-next_letters.ensures))

pub returns-then-not-has_room : goal.returns-then-not-has_room
unfolding fits
returns-then-not-has_room c = let a = c.args in
    unfit a.wall a.part.now (pulses a.row.now a.letters.now) a.out.now a.at (rw (sym c.has_room.ensures ∙ c.if-not-has_room.true))

pub slice_bounds-step_in-end : goal.slice_bounds-step_in-end
slice_bounds-step_in-end c = sym (long (goal.at.slice_bounds-step_in-end c).After-time_space-next)

pub slice_bounds-step_in-end-2 : goal.slice_bounds-step_in-end-2
slice_bounds-step_in-end-2 c = sym (letters_long (goal.at.slice_bounds-step_in-end-2 c).After-letter_space-next_letters)

pub step_in-requires : goal.step_in-requires
step_in-requires c = (long (goal.at.step_in-requires c).After-time_space-next ∙ c.width-width.ensures.width, letters_long (goal.at.step_in-requires c).After-letter_space-next_letters ∙ c.width-width.ensures.width, leb-true _ _ (sym c.has_room.ensures ∙ c.if-not-has_room.false))
