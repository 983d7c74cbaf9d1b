-- The line of a seam after what the lines of a row begin with, and the lines of a run of seams. Assumes nothing.
use Rattle.std.specs.Prelude.{not, List, [], ◌∷◌, ◌++◌, ℕ, ◌+◌, ◌-◌, T, get_or, Result, Ok, Err}
use Rattle.std.specs.Float.Ieee.{is_nan}
use Rattle.settings.specs.declared.refusal.Refusal.{Refusal}
use Rattle.columns.specs.Marks.{marked}
use Rattle.seam.specs.Seam.{seam_of}
use Rattle.seam.specs.declared.Halves.{Halves}
use Rattle.seam.specs.declared.Seam.{Seam}
use Rattle.seam.specs.declared.Seam.TheVariants.{Closed, Open}
use Rattle.lines.specs.Line.{line_end, halves_words, open_words}
use Rattle.lines.specs.Row.{each_below}
use Rattle.tables.specs.Word.{spaced}

-- §10.3 halves whose bits can be taken
pub record Numbers (h : Halves) : Type 0 where
  pub midpoint : T (not (is_nan h.midpoint))
  pub half_gap : T (not (is_nan h.half_gap))

-- §10.3 the line of a seam, after what the lines of a row begin with
unfoldable pub seam_after : (head : List ℕ) → (left right : ℕ) → Result Seam Refusal → List ℕ
seam_after head a b (Ok (Closed h)) = head ++ spaced a ++ spaced b ++ (halves_words h ++ (line_end ∷ []))
seam_after head a b (Ok (Open side)) = head ++ spaced a ++ spaced b ++ (open_words side ++ (line_end ∷ []))
seam_after head a b (Err why) = []

-- §10.3 the lines of seams of columns as far apart as `gap`: the right columns from one on, that many
unfoldable pub run_after : (head marks times : List ℕ) → (gap from count : ℕ) → List ℕ
run_after head ms ts gap from n =
    each_below n
    (λ k. seam_after head (from + k - gap) (from + k)
    (seam_of (get_or ts (from + k - gap) 0) (marked ms (from + k - gap)) (get_or ts (from + k) 0) (marked ms (from + k))))
