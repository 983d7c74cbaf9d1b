-- `survey::survey` meets its contract. Assumes nothing.
use Rattle.std.proofs.lemmas.Result.{err_from_is_err_and}
use Rattle.reach.specs.Survey.{surveyed, with_reach, with_gap, surveyed_of}
use Rattle.reach.proofs.survey.survey.Goals as goal

pub returns-in_err-gap : goal.returns-in_err-gap
unfolding surveyed_of with_gap
returns-in_err-gap c = let p = err_from_is_err_and c.from_residual.result c.from_residual.ensures.1 in rw (p.1, p.2, ← c.in_err-gap.ensures)

pub returns-in_err-range : goal.returns-in_err-range
unfolding surveyed_of with_gap with_reach
returns-in_err-range c = let p = err_from_is_err_and c.from_residual-in_err-range.result c.from_residual-in_err-range.ensures.1 in
    rw (p.1, p.2, ← c.in_ok-gap.ensures, ← c.saturating_sub.ensures, ← c.in_err-range.ensures)

pub returns-in-Some : goal.returns-in-Some
unfolding surveyed_of surveyed with_gap with_reach
returns-in-Some c = rw (← c.in_ok-gap.ensures, ← c.saturating_sub.ensures, ← c.in_ok-range.ensures, c.in-Some.is, c.max.ensures)

pub returns-in-None : goal.returns-in-None
unfolding surveyed_of with_gap with_reach
returns-in-None c = rw (← c.in_ok-gap.ensures, ← c.saturating_sub.ensures, ← c.in_ok-range.ensures, c.in-None.is)
