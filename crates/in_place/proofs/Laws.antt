-- A step that is lent the last row's own place to write, and what is then known of both rows. Assumes nothing.
use mathlib.Core.Path.{◌≡◌, sym, ◌∙◌, ap}
use mathlib.Core.List.{List, ◌++◌}
use Prim.Native.Nat.{ℕ, ◌≤◌}
use native.Mathlib.Omega.{arith}
use lib.ListN.{length, drop, length-append}
use lib.Seq.{take_at}
use Rattle.row.specs.Row.{Pulses, pulses, cut}
use Rattle.stages.specs.declared.Wall.{Wall}
use Rattle.steps.specs.Step.{step_of}
use Rattle.steps.specs.Take.{taken_of, step_from, StepTaken}
use Rattle.steps.specs.declared.RefusedAt.{RefusedAt}
use Rattle.std.specs.Prelude.{Result}
use Rattle.in_place.specs.Replaced.{Replaces}
use Rattle.show.proofs.Laws.{row_in_place}

-- by copies of the last row
pub replaces : {x : Wall} {part : List ℕ} {lent after : Pulses} {t : Result Wall RefusedAt} {times letters : List ℕ} → times ≡ lent.times → letters ≡ lent.letters → StepTaken x part times lent t after →
    Replaces x part lent t (pulses times letters) after
unfolding step_from
replaces {x} {part} {lent} e f k = record { taken = k.is ∙ rw e; kept = rw (e, f); row = rw e at k.written ∙ row_in_place x lent part }

-- a row of n tiles, in the place of the first of a longer one
abbrev pub placed : (n : ℕ) → (long row : Pulses) → Pulses
placed n long row = pulses (row.times ++ drop n long.times) (row.letters ++ drop n long.letters)

pub cut_placed : (n : ℕ) (long row : Pulses) → length row.times ≡ n → length row.letters ≡ n → cut n (placed n long row) ≡ row
cut_placed n long row t l = rw (take_at row.times (drop n long.times) n t, take_at row.letters (drop n long.letters) n l)

-- the last row, kept in the first places of longer room
module _ {x : Wall} {part : List ℕ} {lent last after : Pulses} {t : Result Wall RefusedAt} (d : Replaces x part lent t last after) {n : ℕ} (times : length lent.times ≡ n) (letters : length lent.letters ≡ n)
    (room : Pulses) where
  times_long : length last.times ≡ n
  times_long = ap (λ (q : Pulses). length q.times) d.kept ∙ times

  letters_long : length last.letters ≡ n
  letters_long = ap (λ (q : Pulses). length q.letters) d.kept ∙ letters

  pub times_in : n ≤ length (placed n room last).times
  times_in = omega (arith, times_long, length-append last.times (drop n room.times))

  pub letters_in : n ≤ length (placed n room last).letters
  letters_in = omega (arith, letters_long, length-append last.letters (drop n room.letters))

  pub last_is : cut n (placed n room last) ≡ lent
  last_is = cut_placed n room last times_long letters_long ∙ d.kept

  pub last_taken : t ≡ taken_of (step_of x (cut n (placed n room last)) part)
  last_taken = d.taken ∙ ap (λ (q : Pulses). taken_of (step_of x q part)) (sym last_is)
