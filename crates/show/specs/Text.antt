-- The text of what is shown. Assumes nothing.
use Rattle.std.specs.Prelude.{List, [], ◌∷◌, ◌++◌, ℕ}
use Rattle.settings.specs.Refusal.{number}
use Rattle.lines.specs.Line.{refused_line}
use Rattle.lines.specs.Row.{row_text}
use Rattle.steps.specs.Shown.{Shown, lines, turned_away}

-- §10.1 the lines of a row, or the line of a refusal
unfoldable pub text_of : Shown → List ℕ
text_of (lines w l ms r) = row_text w l ms r.times r.letters
text_of (turned_away why at) = refused_line (number why) at

-- §10.1 all that is shown, one after the other
unfoldable pub texts_of : List Shown → List ℕ
texts_of [] = []
texts_of (x ∷ xs) = text_of x ++ texts_of xs
