-- `row_step::after` meets its contract. Assumes nothing.
use borrow.Author.Tests.{lt-ltb, le-ltb}
use Rattle.stages.specs.Fit.{place}
use Rattle.steps.specs.Step.{after_row}
use Rattle.steps.proofs.row_step.after.Goals as goal

pub returns-then-row-settings : goal.returns-then-row-settings
unfolding after_row place
returns-then-row-settings c = rw (lt-ltb _ _ c.if-row-settings.true)

pub returns : goal.returns
unfolding after_row place
returns c = rw (le-ltb _ _ c.if-row-settings.false)
