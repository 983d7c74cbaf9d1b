-- `step_in` meets its contract. Assumes nothing.
use mathlib.Core.Path.{◌≡◌, sym, ◌∙◌, ap}
use mathlib.Core.Bool.{true}
use lib.ListN.{length}
use Rattle.row.specs.Row.{Pulses, pulses}
use Rattle.stages.specs.Fit.{wall_fits}
use Rattle.steps.specs.Step.{step_of}
use Rattle.steps.specs.Take.{taken_of, step_from}
use Rattle.steps.proofs.Laws.Answer.{taken_same}
use Rattle.steps.proofs.Laws.Fit.{fit_all, fit_none}
use Rattle.steps.proofs.Laws.Taken.{TakenStep, taken_step, unfit_step}
use Rattle.wall.specs.Operation.{accepted_row}
use Rattle.wall.proofs.Laws.Fit.{by_wall}
use Rattle.wall.proofs.Laws.Replaced.{accepted_right, refused_right}
use Rattle.wall.proofs.Laws.Stepping.{unfit, went}
use Rattle.wall.proofs.step_in.Goals.{Else-not-fits, In_ok-taken, In-Ok, In-Err, Start}
use Rattle.wall.proofs.step_in.Goals as goal

abbrev last : Start → Pulses
last s = pulses s.args.row.now s.args.letters.now

abbrev room : Start → Pulses
room s = pulses s.args.next.now s.args.next_letters.now

letters_fit : (c : Else-not-fits) → wall_fits c.args.wall (length c.args.letters.now) ≡ true
letters_fit c = sym c.fits.ensures ∙ c.if-not-fits.false

step : (c : In_ok-taken) → let a = c.args in
    TakenStep a.wall a.part.now a.row.now (pulses a.next.now a.next_letters.now) c.in_ok-taken.taken (pulses c.take.new.next c.take.new.letters)
step c = taken_step c.take.ensures c.in_ok-taken.was

-- what it answers does not depend on the letters that it is lent
taken_is : (c : In_ok-taken) → let a = c.args in c.in_ok-taken.taken ≡ taken_of (step_of a.wall (pulses a.row.now a.letters.now) a.part.now)
unfolding step_from
taken_is c = let a = c.args in (step c).is ∙ taken_same a.wall a.row.now a.part.now a.next_letters.now a.letters.now

pub returns-then-not-fits : goal.returns-then-not-fits
returns-then-not-fits c = let a = c.args in
    let r = last (goal.at.returns-then-not-fits c).Start in
    unfit a.wall a.part.now r a.out.now a.at (by_wall a.wall r (length a.out.now) a.at c.requires.2 ∙ rw (sym c.fits.ensures ∙ c.if-not-fits.true))

pub text-end-requires : goal.text-end-requires
text-end-requires c = let t = (goal.at.text-end-requires c).In_ok-taken in
    ((fit_all _ _ _ (step t).fits).0, letters_fit (goal.at.text-end-requires c).Else-not-fits, c.requires.2, taken_is t)

pub replace-requires : goal.replace-requires
replace-requires c = let t = (goal.at.replace-requires c).In_ok-taken in (
  (fit_all _ _ _ (step t).fits).0,
  letters_fit (goal.at.replace-requires c).Else-not-fits,
  c.take.auto.next ∙ c.requires.0,
  c.take.auto.letters ∙ c.requires.1,
)

pub returns-in-Ok : goal.returns-in-Ok
returns-in-Ok c = let a = c.args in
    let s = (goal.at.returns-in-Ok c).Start in
    let t = (goal.at.returns-in-Ok c).In_ok-taken in
    let f = letters_fit (goal.at.returns-in-Ok c).Else-not-fits in
    let right = accepted_right (last s) a.part.now (room s) a.wall (sym (taken_is t) ∙ c.in-Ok.is) in
    went a.wall a.part.now (last s) a.out.now a.at
    (by_wall a.wall (last s) (length a.out.now) a.at c.requires.2 ∙ rw f (fit_all _ _ _ (step t).fits).0)
    right.1 c.text-end.ensures
    (c.replace.ensures ∙ ap (λ (n : Pulses). accepted_row a.wall n (last s)) (step t).written ∙ right.0)

pub returns-in-Err : goal.returns-in-Err
returns-in-Err c = let a = c.args in
    let s = (goal.at.returns-in-Err c).Start in
    let t = (goal.at.returns-in-Err c).In_ok-taken in
    let f = letters_fit (goal.at.returns-in-Err c).Else-not-fits in
    let right = refused_right (last s) a.part.now (room s) a.wall (sym (taken_is t) ∙ c.in-Err.is) in
    went a.wall a.part.now (last s) a.out.now a.at
    (by_wall a.wall (last s) (length a.out.now) a.at c.requires.2 ∙ rw f (fit_all _ _ _ (step t).fits).0)
    right.1 c.text-end.ensures right.0

pub returns-in_err-taken : goal.returns-in_err-taken
returns-in_err-taken c = let a = c.args in
    let s = (goal.at.returns-in_err-taken c).Start in
    rw c.from_residual.ensures
    (unfit a.wall a.part.now (last s) a.out.now a.at
    (by_wall a.wall (last s) (length a.out.now) a.at c.requires.2
    ∙ rw (letters_fit (goal.at.returns-in_err-taken c).Else-not-fits) (fit_none _ _ (room s) c.requires.0 c.requires.1 (unfit_step c.take.ensures c.in_err-taken.was))))
