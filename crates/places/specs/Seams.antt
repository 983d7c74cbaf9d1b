-- The seams of a row by their place, 0 to W: their columns, and what each holds. `SeamsInOrder` says that these are the seams of the
-- printed lines, in their order. Assumes nothing.
use Rattle.std.specs.Prelude.{Bool, cond, not, ◌||◌, List, [], ◌∷◌, ℕ, suc, ◌-◌, eqb, ltb, length, get_or, Option, Some, None, Result}
use Rattle.settings.specs.Refusal.{◌when◌, first, or_else, answer}
use Rattle.settings.specs.Settings.{settings_cause}
use Rattle.settings.specs.declared.Settings.{Settings}
use Rattle.settings.specs.declared.refusal.Refusal.{Refusal}
use Rattle.settings.specs.declared.refusal.Refusal.TheVariants.{Lengths}
use Rattle.columns.specs.Marks.{marked, mark_bytes}
use Rattle.seam.specs.declared.Seam.{Seam}
use Rattle.seam.specs.Seam.{seam_of}
use Rattle.places.specs.declared.seams.Columns.{Columns}
use Rattle.places.specs.declared.seams.RowSeam.{RowSeam}

-- §10.3 the left column of seam i. The seams are 0 and 1; 0 and 2; then each column from 1 on with the next, and W - 3 and W - 1 before the
-- last, W - 2 and W - 1
unfoldable pub seam_left : (w i : ℕ) → ℕ
seam_left w i = cond (ltb i 2) 0 (cond (ltb (suc i) w) (i - 1) (i - 2))

-- §10.3 its right column
unfoldable pub seam_right : (w i : ℕ) → ℕ
seam_right w i = cond (ltb i 2) (suc i) (cond (ltb i w) i (w - 1))

-- §17.4 the record of both
unfoldable pub columns : (left right : ℕ) → Columns
columns a b = record { left = a; right = b }

-- §17.4 both, 1 to 9, or that there is no such seam
unfoldable pub columns_of : Settings → (i : ℕ) → Result (Option Columns) Refusal
columns_of s i =
    answer (settings_cause s) (cond (ltb s.width i) None (Some (columns (seam_left s.width i) (seam_right s.width i))))

-- §17.4 21: there are other than W times, or than a byte of marks for each eight columns begun
unfoldable pub other_lengths : (w times marks : ℕ) → Bool
other_lengths w n m = not (eqb n w) || not (eqb m (mark_bytes w))

-- §17.4 the record of a seam, or 31, with its columns
unfoldable pub row_seam : (left right : ℕ) → Result Seam Refusal → RowSeam
row_seam a b x = record { left = a; right = b; seam = x }

-- §17.4 the seam of two columns of a row
unfoldable pub between : (times marks : List ℕ) → (left right : ℕ) → RowSeam
between ts ms a b = row_seam a b (seam_of (get_or ts a 0) (marked ms a) (get_or ts b 0) (marked ms b))

-- §17.4 seam i of a row with its columns, 1 to 9, 21, or that there is none
unfoldable pub seam_at : Settings → (times marks : List ℕ) → (i : ℕ) → Result (Option RowSeam) Refusal
seam_at s ts ms i =
    answer (or_else (settings_cause s) (first (Lengths when other_lengths s.width (length ts) (length ms) ∷ [])))
    (cond (ltb s.width i) None (Some (between ts ms (seam_left s.width i) (seam_right s.width i))))
