-- `take_fit` meets its contract, by the wall. Assumes nothing.
use mathlib.Core.Path.{refl, sym, ◌∙◌, ap}
use lib.ListN.{length}
use Rattle.row.specs.Row.{Pulses, pulses}
use Rattle.steps.specs.Step.{stepped, step_of}
use Rattle.stages.specs.Fit.{wall_fits}
use Rattle.steps.specs.Take.{taken_of, step_from, next_row}
use Rattle.stages.specs.declared.Wall.{Wall}
use Rattle.stages.specs.declared.Wall.TheVariants.{New, Over}
use Rattle.steps.proofs.Laws.Taken.{by_wall, none_taken}
use Rattle.steps.proofs.take_fit.Goals.{Start}
use Rattle.steps.proofs.take_fit.Goals as goal

abbrev held : Start → Pulses
held s = pulses s.args.next.now s.args.letters.now

-- what settings, row 0 and the end are given for a row
abbrev from : Start → Pulses
from s = pulses s.args.row.now s.args.letters.now

pub start-requires : goal.start-requires
unfolding wall_fits
start-requires c = sym (ap (λ (x : Wall). wall_fits x (length c.args.next.now)) c.in-Start.is) ∙ c.requires.2

pub row-requires : goal.row-requires
unfolding wall_fits
row-requires c = let a = c.args in (
  sym (ap (λ (x : Wall). wall_fits x (length a.row.now)) c.in-Row.is) ∙ c.requires.1,
  sym (ap (λ (x : Wall). wall_fits x (length a.next.now)) c.in-Row.is) ∙ c.requires.2,
  sym (ap (λ (x : Wall). wall_fits x (length a.letters.now)) c.in-Row.is) ∙ c.requires.3,
  c.requires.0,
)

pub returns-in-New : goal.returns-in-New
unfolding step_from step_of next_row
returns-in-New c = by_wall {held = held (goal.at.returns-in-New c).Start} {next = held (goal.at.returns-in-New c).Start} New c.in-New.is (c.settings.ensures (from (goal.at.returns-in-New c).Start)) refl

pub returns-in-Start : goal.returns-in-Start
unfolding step_from step_of next_row
returns-in-Start c = by_wall {row = c.args.row.now} {held = held (goal.at.returns-in-Start c).Start} _ c.in-Start.is (c.start.ensures.taken (from (goal.at.returns-in-Start c).Start)) (c.start.ensures.row (from (goal.at.returns-in-Start c).Start))

pub returns-in-Row : goal.returns-in-Row
unfolding step_from step_of next_row
returns-in-Row c = by_wall {row = c.args.row.now} {held = held (goal.at.returns-in-Row c).Start} _ c.in-Row.is c.row.ensures.taken c.row.ensures.row

pub returns-in-End : goal.returns-in-End
unfolding step_from step_of next_row
returns-in-End c = by_wall {held = held (goal.at.returns-in-End c).Start} {next = held (goal.at.returns-in-End c).Start} _ c.in-End.is (c.end.ensures (from (goal.at.returns-in-End c).Start)) refl

pub returns-in-Over : goal.returns-in-Over
unfolding step_from step_of next_row taken_of stepped
returns-in-Over c = by_wall {held = held (goal.at.returns-in-Over c).Start} {next = held (goal.at.returns-in-Over c).Start} Over c.in-Over.is (rw c.in-Over.is (sym (none_taken Over))) refl
