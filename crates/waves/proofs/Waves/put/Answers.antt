-- `put` meets its contract. Assumes nothing.
use mathlib.Core.Path.{sym, ◌∙◌}
use Prim.Native.Nat.{◌≤◌, ◌<◌}
use native.Mathlib.Omega.{arith}
use lib.ListN.{get_or}
use Rattle.waves.specs.State.{size, next, put}
use Rattle.waves.proofs.Laws.State.{inside_fit}
use Rattle.waves.proofs.Waves.put.Goals.{Then-fits}
use Rattle.waves.proofs.Waves.put.Goals as goal

-- n is 64 at most, and the next place below it
inside : (c : Then-fits) → let ws = c.args.self.words in (get_or ws 64 0 ≤ 64) × (get_or ws 65 0 < get_or ws 64 0)
unfolding size next
inside c = inside_fit c.args.self (sym c.fits.ensures ∙ c.if-fits.true)

pub offset_bounds-words-next : goal.offset_bounds-words-next
offset_bounds-words-next c = let i = inside (goal.at.offset_bounds-words-next c).Then-fits in record { fits = omega arith }

pub bounds-words-next : goal.bounds-words-next
bounds-words-next c = let i = inside (goal.at.bounds-words-next c).Then-fits in omega arith

pub following-requires : goal.following-requires
following-requires c = (inside (goal.at.following-requires c).Then-fits).1

pub returns-then-fits : goal.returns-then-fits
unfolding put size next
returns-then-fits c = rw (← c.fits.ensures, c.if-fits.true, c.following.ensures)

pub returns : goal.returns
unfolding put
returns c = rw (← c.fits.ensures, c.if-fits.false)
