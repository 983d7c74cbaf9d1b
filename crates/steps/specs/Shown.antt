-- What is shown of a wall file. Assumes nothing.
use Rattle.std.specs.Prelude.{List, [], ◌∷◌, ℕ, zero, suc, replicate}
use Rattle.settings.specs.Refusal.{number}
use Rattle.settings.specs.declared.refusal.Refusal.{Refusal}
use Rattle.settings.specs.declared.Settings.{Settings}
use Rattle.columns.specs.Marks.{mark_bytes}
use Rattle.row.specs.Row.{Pulses}

-- §10.1 what a run shows: the lines of a row, or that the file is turned away
pub data Shown : Type 0 where
  lines : (w row : ℕ) (marks : List ℕ) (pulses : Pulses) → Shown
  turned_away : (why : Refusal) (offset : ℕ) → Shown

-- §10.1 a row's lines; row 0 has none
unfoldable pub row_shown : Settings → (l : ℕ) → (marks : List ℕ) → (row : Pulses) → List Shown
row_shown s zero ms r = []
row_shown s (suc l) ms r = lines s.width (suc l) ms r ∷ []

-- §11.5 the marks of row R: none is set
unfoldable pub no_marks : (w : ℕ) → List ℕ
no_marks w = replicate (mark_bytes w) 0

-- §9.6 the number of the refusal that is shown, 0 where there is none
unfoldable pub number_shown : List Shown → ℕ
number_shown [] = 0
number_shown (lines w l ms r ∷ xs) = number_shown xs
number_shown (turned_away why at ∷ xs) = number why

-- §9.8 the offset of the refusal that is shown
unfoldable pub offset_shown : List Shown → ℕ
offset_shown [] = 0
offset_shown (lines w l ms r ∷ xs) = offset_shown xs
offset_shown (turned_away why at ∷ xs) = at
