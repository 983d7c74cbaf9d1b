-- What calls of `take` write and answer over a file is what the steps over it show. Assumes nothing.
use mathlib.Core.Path.{◌≡◌, refl, sym, ◌∙◌, ap}
use mathlib.Core.Bool.{true}
use mathlib.Core.List.{List, ◌++◌}
use mathlib.Core.Option.{some}
use Prim.Native.Nat.{ℕ, zero, suc, ◌+◌, ◌≤◌}
use lib.ListN.{length, take, drop}
use native.Mathlib.Omega.{arith}
use Rattle.std.specs.Prelude.{Option, Some, None, Result}
use Rattle.row.specs.Row.{Pulses}
use Rattle.stages.specs.Fit.{due_of, wall_fits}
use Rattle.stages.specs.declared.Wall.{Wall}
use Rattle.stages.specs.declared.Wall.TheVariants.{New, Start, Row, End, Over}
use Rattle.stages.proofs.Laws.{fits_due}
use Rattle.steps.specs.Answer.{wall_of, cause_due, number_due, wall_then, row_then}
use Rattle.steps.specs.Shown.{Shown}
use Rattle.steps.specs.Step.{stepped, away, step_of, steps_shown}
use Rattle.steps.specs.Take.{refused_at, taken_of, step_from, next_row, Takes}
use Rattle.steps.specs.declared.RefusedAt.{RefusedAt}
use Rattle.steps.proofs.Laws.Answer.{step_goes, step_away, taken_goes, taken_gone, row_goes_on, taken_same}
use Rattle.steps.proofs.Laws.Fit.{fit_all}
use Rattle.steps.proofs.Laws.Taken.{by_cause, TakenStep, taken_step}
use Rattle.file.specs.File.{shown}
use Rattle.file.specs.Takes as specs
use Rattle.file.specs.Takes.{call_shows, lent_next, TakeCalls}
use Rattle.file.proofs.Laws.Calls.{any_letters, any_row}
use Rattle.file.proofs.Laws.Steps.{nothing_more, steps_right}

-- the row that the next call is lent is the step's
lent_is : (x : Wall) (row : Pulses) (part : List ℕ) (held next : Pulses) → next ≡ next_row x row.times part held → number_due x row.times part ≡ 0 →
    lent_next x row next ≡ row_then x row.times part (lent_next x row held)
unfolding lent_next row_then
lent_is New row part held next w e = refl
lent_is (Start p) row part held next w e = w ∙ row_goes_on row.times part held (Start p) e
lent_is (Row p) row part held next w e = w ∙ row_goes_on row.times part held (Row p) e
lent_is (End p) row part held next w e = refl
lent_is Over row part held next w e = refl

-- row 0 has no letters: those that it was lent don't matter
from_lent : (x : Wall) (row : Pulses) (part : List ℕ) (held : Pulses) (m : ℕ) (rest : List ℕ) →
    steps_shown m (wall_then x part) (row_then x row.times part row) rest
    ≡ steps_shown m (wall_then x part) (row_then x row.times part (lent_next x row held)) rest
unfolding lent_next row_then wall_then
from_lent New row part held m rest = refl
from_lent (Start p) row part held m rest = any_letters m p.settings _ _ row.letters held.letters rest
from_lent (Row p) row part held m rest = refl
from_lent (End p) row part held m rest = refl
from_lent Over row part held m rest = refl

-- a call that took a step shows what the step shows, and the next goes on from there
module _ (x : Wall) (row : Pulses) (part : List ℕ) (held next : Pulses) (t : Result Wall RefusedAt) (k : TakenStep x part row.times held t next) where
  -- the answer is that of the step from the row with its own letters
  is_taken : t ≡ taken_of (step_of x row part)
  unfolding step_from
  is_taken = k.is ∙ taken_same x row.times part held.letters row.letters

  shows_is : call_shows x row part (Some t) ≡ (step_of x row part).shows
  unfolding call_shows refused_at stepped away number_due
  shows_is =
      by_cause (cause_due x row.times part)
      (λ e. rw (is_taken ∙ taken_goes row part x e, step_goes row part x e))
      (λ why e. rw (is_taken ∙ taken_gone row part x e, step_away row part x e))

  goes_on : (y : Wall) → wall_of (Some t) ≡ some y → (m : ℕ) (rest : List ℕ) →
      steps_shown m (step_of x row part).next (step_of x row part).row rest ≡ steps_shown m y (lent_next x row next) rest
  unfolding wall_of refused_at stepped away number_due
  goes_on y is m rest =
      by_cause (cause_due x row.times part)
      (λ e. let w : some (wall_then x part) ≡ some y = rw (is_taken ∙ taken_goes row part x e) at is in
      let same : wall_then x part ≡ y = cc in
      rw (← same, step_goes row part x e, lent_is x row part held next k.written e) (from_lent x row part held m rest))
      (λ why e. let w : some Over ≡ some y = rw (is_taken ∙ taken_gone row part x e) at is in
      let same : Over ≡ y = cc in
      rw (← same, step_away row part x e, nothing_more m row rest) (sym (nothing_more m (lent_next x row next) rest)))

-- what one step shows and those after it
step_then : (m : ℕ) (x : Wall) (n : ℕ) (row : Pulses) (rest : List ℕ) → wall_fits x n ≡ true →
    let o = step_of x row (take (due_of x) rest) in
    steps_shown (suc m) x row rest ≡ o.shows ++ steps_shown m o.next o.row (drop (due_of x) rest)
unfolding steps_shown
step_then m x n row rest e = rw (fits_due x n e)

-- so many steps, or more, show this
record Shows (x : Wall) (row : Pulses) (rest : List ℕ) (shows : List Shown) : Type 0 where
  pub steps : ℕ
  pub is : (n : ℕ) → steps ≤ n → steps_shown n x row rest ≡ shows

one_more : {x : Wall} {row : Pulses} {rest : List ℕ} {shows : List Shown} (held : Pulses) (a : Option (Result Wall RefusedAt)) (y : Wall) (next : Pulses) →
    Takes x (take (due_of x) rest) row.times held a next → wall_of a ≡ some y → Shows y (lent_next x row next) (drop (due_of x) rest) shows →
    Shows x row rest (call_shows x row (take (due_of x) rest) a ++ shows)
unfolding wall_of
one_more {x} {row} {rest} {shows} held None y next d e k =
    let never : ◌≡◌ {A = ℕ} 0 1 = cc in absurd (let g : ⊥ = omega arith in g)
one_more {x} {row} {rest} {shows} held (Some t) y next d e k = record { steps = suc k.steps; is = go }
  where
    part : List ℕ
    part = take (due_of x) rest

    s : TakenStep x part row.times held t next
    s = taken_step d refl

    go : (n : ℕ) → suc k.steps ≤ n → steps_shown n x row rest ≡ call_shows x row part (Some t) ++ shows
    go zero j = let never : ⊥ = omega arith in absurd never
    go (suc m) j =
        step_then m x (length row.times) row rest (fit_all x (length row.times) held s.fits).0
        ∙ ap (λ (l : List Shown). (step_of x row part).shows ++ l)
        (goes_on x row part held next t s y e m (drop (due_of x) rest) ∙ k.is m (omega arith))
        ∙ ap (λ (l : List Shown). l ++ shows) (sym (shows_is x row part held next t s))

shows : {x : Wall} {row : Pulses} {rest : List ℕ} {shows : List Shown} → TakeCalls x row rest shows → Shows x row rest shows
shows (specs.over {row} {rest}) = record { steps = 0; is = λ n i. nothing_more n row rest }
shows (specs.lent {p} {row} {rest} held c) =
    let k = shows c in
    record { steps = k.steps; is = λ n i. any_row n p held row rest ∙ k.is n i }
shows (specs.taken held a y next d e c) = one_more held a y next d e (shows c)

pub take_calls_right : (row : Pulses) (file : List ℕ) (xs : List Shown) → TakeCalls New row file xs → xs ≡ shown file
take_calls_right row file xs c =
    let k = shows c in
    sym (k.is (k.steps + 1027) (omega arith)) ∙ steps_right row file (k.steps + 1027) (omega arith)
