-- What is promised of the answer: it is the first in what is shown. Each statement is proved in proofs/Promises.antt, under its name in
-- small letters. Assumes nothing.
use Rattle.std.specs.Prelude.{◌≡◌, List, [], ◌∷◌, ◌++◌, ℕ}
use Rattle.std.proofs.Math.Option.{none, some}
use Rattle.settings.specs.Refusal.{number_in}
use Rattle.settings.specs.declared.refusal.Refusal.{Refusal}
use Rattle.row.specs.Row.{Pulses}
use Rattle.steps.specs.Shown.{Shown, lines, turned_away}
use Rattle.file.specs.File.{shown}
use Rattle.file.specs.Limits.{Keeps}
use Rattle.file.specs.Promises.{Every}
use Rattle.wide.specs.Wide.{row_first, wide_of}
use Rattle.found.specs.Found.{wide, refused, found}

-- §E7.3 rows that are shown, none of which has a wide seam, and no refusal
pub data Quiet (n : ℕ) : List Shown → Type 0 where
  no_more : Quiet n []
  also : {w l : ℕ} {ms : List ℕ} {r : Pulses} {xs : List Shown} → wide_of (row_first n w r.times ms) ≡ none → Quiet n xs → Quiet n (lines w l ms r ∷ xs)

-- §E7.3 what is shown up to a row's first wide seam: only rows without one
pub record WideFirst (n : ℕ) (xs : List Shown) (l a b g : ℕ) : Type 0 where
  pub before : List Shown
  pub width : ℕ
  pub marks : List ℕ
  pub row : Pulses
  pub after : List Shown
  pub split : xs ≡ before ++ (lines width l marks row ∷ after)
  pub quiet : Quiet n before
  pub is : wide_of (row_first n width row.times marks) ≡ some (record { left = a; right = b; half_gap = g })

-- §E7.3 what is shown up to a refusal: only rows without a wide seam
pub record RefusedFirst (n : ℕ) (xs : List Shown) (why : Refusal) (at : ℕ) : Type 0 where
  pub before : List Shown
  pub after : List Shown
  pub split : xs ≡ before ++ (turned_away why at ∷ after)
  pub quiet : Quiet n before

-- §E7.3 the answer is the first in what is shown; no is the answer only where nothing there answers
unfoldable pub FoundFirst : Type 0
FoundFirst =
    (n : ℕ) (xs : List Shown) →
    ((l a b g : ℕ) → found n xs ≡ some (wide l a b g) → WideFirst n xs l a b g)
    × ((why : Refusal) (at : ℕ) → found n xs ≡ some (refused why at) → RefusedFirst n xs why at)
    × (found n xs ≡ none → Quiet n xs)

-- §E7.3 so no is the answer only for a wall within all limits, none of whose rows has a wide seam
unfoldable pub NoKept : Type 0
NoKept = (n : ℕ) (file : List ℕ) → found n (shown file) ≡ none → Keeps file × Quiet n (shown file)

-- §8.4 of a row that is shown: no seam is turned away before its first wide one
unfoldable pub NotLate : (limit : ℕ) → Shown → Type 0
NotLate n (lines w l ms r) = number_in (row_first n w r.times ms) ≡ 0
NotLate n (turned_away why at) = Unit {0}

-- §8.4 so it is with all rows of a file
unfoldable pub NeverLate : Type 0
NeverLate = (n : ℕ) (file : List ℕ) → Every (NotLate n) (shown file)
