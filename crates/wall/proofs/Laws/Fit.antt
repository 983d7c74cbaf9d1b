-- Whether a step with its text fits. Assumes nothing.
use mathlib.Core.Path.{◌≡◌}
use mathlib.Core.Bool.{Bool, true, false, ◌&&◌, and-eq-true_iff}
use Prim.Native.Nat.{ℕ, ◌+◌, ◌≤◌, ◌<◌}
use lib.Dec.{leb}
use lib.ListN.{length}
use borrow.Author.Tests.{le-leb, lt-leb, leb-true}
use Rattle.row.specs.Row.{Pulses}
use Rattle.stages.specs.Fit.{wall_fits}
use Rattle.wall.specs.Operation.{fits}
use Rattle.lines.specs.Row.{step_room}
use Rattle.stages.specs.declared.Wall.{Wall}

module _ (x : Wall) (r : Pulses) (room at : ℕ) where
  -- both rows of the wall
  abbrev rows_fit : Bool
  rows_fit = wall_fits x (length r.letters) && wall_fits x (length r.times)

  pub no_room : room < at + step_room → fits x r room at ≡ false
  unfolding fits
  no_room i = rw (lt-leb (at + step_room) room i)

  pub by_wall : at + step_room ≤ room → fits x r room at ≡ rows_fit
  unfolding fits
  by_wall i = rw (le-leb (at + step_room) room i)

  pub fits_all : fits x r room at ≡ true → (at + step_room ≤ room) × (wall_fits x (length r.letters) ≡ true) × (wall_fits x (length r.times) ≡ true)
  unfolding fits
  fits_all e =
      let b = (and-eq-true_iff (leb (at + step_room) room) rows_fit).0 e in
      let f = (and-eq-true_iff (wall_fits x (length r.letters)) (wall_fits x (length r.times))).0 b.1 in
      (leb-true (at + step_room) room b.0, f.0, f.1)
