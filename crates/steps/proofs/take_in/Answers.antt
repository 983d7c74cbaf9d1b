-- `take_in` meets its contract: all three fit, or the first that does not. Assumes nothing.
use mathlib.Core.Path.{sym, ◌∙◌}
use Rattle.row.specs.Row.{pulses}
use Rattle.steps.specs.Take.{all_fit}
use Rattle.steps.proofs.Laws.Taken.{unfit, taking}
use Rattle.steps.proofs.take_in.Goals as goal

pub returns-then-not-fits : goal.returns-then-not-fits
unfolding all_fit
returns-then-not-fits c = let a = c.args in
    unfit a.wall a.part.now a.row.now (pulses a.next.now a.letters.now) (rw (sym c.fits.ensures ∙ c.if-not-fits.true))

pub returns-then-not-fits-2 : goal.returns-then-not-fits-2
unfolding all_fit
returns-then-not-fits-2 c = let a = c.args in
    unfit a.wall a.part.now a.row.now (pulses a.next.now a.letters.now)
    (rw (sym c.fits.ensures ∙ c.if-not-fits.false, sym c.fits-2.ensures ∙ c.if-not-fits-2.true))

pub returns-then-not-fits-3 : goal.returns-then-not-fits-3
unfolding all_fit
returns-then-not-fits-3 c = let a = c.args in
    unfit a.wall a.part.now a.row.now (pulses a.next.now a.letters.now)
    (rw (sym c.fits.ensures ∙ c.if-not-fits.false, sym c.fits-2.ensures ∙ c.if-not-fits-2.false, sym c.fits-3.ensures ∙ c.if-not-fits-3.true))

pub take_fit-requires : goal.take_fit-requires
take_fit-requires c =
    (c.requires, sym c.fits.ensures ∙ c.if-not-fits.false, sym c.fits-2.ensures ∙ c.if-not-fits-2.false, sym c.fits-3.ensures ∙ c.if-not-fits-3.false)

pub returns : goal.returns
unfolding all_fit
returns c = let a = c.args in
    taking a.wall a.part.now a.row.now (pulses a.next.now a.letters.now)
    (rw (sym c.fits.ensures ∙ c.if-not-fits.false, sym c.fits-2.ensures ∙ c.if-not-fits-2.false, sym c.fits-3.ensures ∙ c.if-not-fits-3.false))
    c.take_fit.ensures
