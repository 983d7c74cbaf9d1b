-- Whether any seam of a wall file is too wide: from any bytes to what is printed. Assumes nothing.
use Rattle.std.specs.Prelude.{List, [], ◌∷◌, ℕ, Some, None, Result, Ok, Err}
use Rattle.std.specs.Prelude as prelude
use Rattle.std.proofs.Math.Option.{Option, none, some}
use Rattle.settings.specs.Refusal.{number}
use Rattle.settings.specs.declared.refusal.Refusal.{Refusal}
use Rattle.lines.specs.Line.{refused_line, line_text}
use Rattle.steps.specs.Shown.{Shown, lines, turned_away}
use Rattle.file.specs.File.{shown}
use Rattle.wide.specs.Wide.{row_first}
use Rattle.wide.specs.declared.Wide.{Wide}

-- §E7.3 what answers the question: a wide seam by its row, its columns and its half gap in half ticks, or a refusal
pub data Found : Type 0 where
  wide : (row left right half_gap : ℕ) → Found
  refused : (why : Refusal) (offset : ℕ) → Found

-- §E7.3 a row's first wide seam, or what comes after the row. No row of a wall file has a seam that is turned away (`NeverLate`).
unfoldable pub in_row : (row : ℕ) → Result (prelude.Option Wide) Refusal → (after : Option Found) → Option Found
in_row l (Ok (Some x)) rest = some (wide l x.left x.right x.half_ticks)
in_row l (Ok None) rest = rest
in_row l (Err why) rest = rest

-- §E7.3 the first that answers in all that is shown
unfoldable pub found : (limit : ℕ) → List Shown → Option Found
found n [] = none
found n (lines w l ms r ∷ xs) = in_row l (row_first n w r.times ms) (found n xs)
found n (turned_away why at ∷ xs) = some (refused why at)

-- §E7.4 `wide`
abbrev pub wide_word : List ℕ
wide_word = 119 ∷ 105 ∷ 100 ∷ 101 ∷ []

-- §E7.4 `no`
abbrev pub no_word : List ℕ
no_word = 110 ∷ 111 ∷ []

-- §E7.4 the line of an answer
unfoldable pub answer_text : Option Found → List ℕ
answer_text (some (wide l a b g)) = line_text wide_word (l ∷ a ∷ b ∷ g ∷ [])
answer_text (some (refused why at)) = refused_line (number why) at
answer_text none = line_text no_word []

-- §E7.4 what `wallwide` prints of a file
unfoldable pub wide_text : (limit : ℕ) → (file : List ℕ) → List ℕ
wide_text n bs = answer_text (found n (shown bs))
