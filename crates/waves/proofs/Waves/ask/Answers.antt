-- `ask` meets its contract. Assumes nothing.
use mathlib.Core.Path.{sym, ◌∙◌}
use Rattle.waves.specs.Reading.{extremes}
use Rattle.waves.specs.State.{gaps_at, places, asked}
use Rattle.waves.proofs.Laws.State.{inside_fit}
use Rattle.waves.proofs.Laws.Ends.{ends_told, told_words}
use Rattle.waves.proofs.Waves.ask.Goals as goal

pub ends-ends-requires : goal.ends-ends-requires
ends-ends-requires c = (inside_fit c.args.self (sym c.fits.ensures ∙ c.if-fits.true)).0

pub told-requires : goal.told-requires
told-requires c = rw c.ends-ends.ensures (told_words _)

pub returns-then-fits : goal.returns-then-fits
unfolding asked places
returns-then-fits c = rw (← c.fits.ensures, c.if-fits.true, c.told.ensures, c.ends-ends.ensures) (ends_told _)

pub returns : goal.returns
unfolding asked places extremes gaps_at
returns c = rw (← c.fits.ensures, c.if-fits.false)
