-- The lines of a search at numbers, as they are printed. Each statement is proved in proofs/Cases.antt, under its name in small letters.
-- Assumes nothing.
use Rattle.std.specs.Prelude.{◌≡◌, [], ◌∷◌}
use Rattle.settings.specs.Settings.{settings}
use Rattle.settings.specs.declared.Settings.{Settings}
use Rattle.file.specs.Cases.{printed}
use Rattle.lines.specs.Line.{line_text}
use Rattle.search_lines.specs.Text.{faulty_word, largest_text, gap_text}

-- §15.4 W 10, R 5, d 100, u 10, A 400, r 0, h 12
unfoldable pub wall : Settings
wall = settings 10 5 100 10 400 0 12

-- §15.4 `b F B`, then `r F L TICKS HOPS` for each later row of the wall that is asked for, in the order of the arguments; `largest TICKS ticks`;
-- `faulty ROW COLUMN`
unfoldable pub LineCases : Type 0
LineCases =
    (gap_text wall 80 0 [] ≡ printed ("b 0 80" ∷ []))
    × (gap_text wall 80 2 (5 ∷ 3 ∷ []) ≡ printed ("b 2 80" ∷ "r 2 5 258 3" ∷ "r 2 3 256 1" ∷ []))
    × (gap_text wall 80 2 (6 ∷ 3 ∷ 2 ∷ 1 ∷ []) ≡ printed ("b 2 80" ∷ "r 2 3 256 1" ∷ []))
    × (largest_text 1099511627872 ≡ printed ("largest 1099511627872 ticks" ∷ []))
    × (largest_text 0 ≡ printed ("largest 0 ticks" ∷ []))
    × (line_text faulty_word (2 ∷ 13 ∷ []) ≡ printed ("faulty 2 13" ∷ []))
