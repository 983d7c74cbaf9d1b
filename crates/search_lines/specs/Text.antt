-- The lines of a search, in ASCII. Assumes nothing.
use Rattle.std.specs.Prelude.{List, [], ◌∷◌, ◌++◌, ℕ, ◌-◌, Option, Some, None, Result, Ok, Err}
use Rattle.settings.specs.declared.Settings.{Settings}
use Rattle.settings.specs.declared.refusal.Refusal.{Refusal}
use Rattle.reach.specs.Search.{reach_in_row}
use Rattle.reach.specs.declared.Range.{Range}
use Rattle.lines.specs.Number.{decimal}
use Rattle.lines.specs.Line.{space, line_end, line_text}

-- §15.4 `b`
abbrev pub b_word : List ℕ
b_word = 98 ∷ []

-- §15.4 `r`
abbrev pub r_word : List ℕ
r_word = 114 ∷ []

-- §15.4 `faulty`
abbrev pub faulty_word : List ℕ
faulty_word = 102 ∷ 97 ∷ 117 ∷ 108 ∷ 116 ∷ 121 ∷ []

-- §15.4 `largest`
abbrev pub largest_word : List ℕ
largest_word = 108 ∷ 97 ∷ 114 ∷ 103 ∷ 101 ∷ 115 ∷ 116 ∷ []

-- §15.4 `ticks`
abbrev pub ticks_word : List ℕ
ticks_word = 116 ∷ 105 ∷ 99 ∷ 107 ∷ 115 ∷ []

-- §15.4 the last line of a whole answer: a word stands behind the number, so that one that is cut short can be told
unfoldable pub largest_text : (largest : ℕ) → List ℕ
largest_text n = ((largest_word ++ (space ∷ decimal n)) ++ (space ∷ ticks_word)) ++ (line_end ∷ [])

-- §15.4 the reach of row f in row l, where that is a later row of the wall: its ticks and its hops
unfoldable pub reach_text : (f l : ℕ) → Result (Option Range) Refusal → List ℕ
reach_text f l (Ok (Some r)) = line_text r_word (f ∷ l ∷ r.ticks ∷ (l - f) ∷ [])
reach_text f l (Ok None) = []
reach_text f l (Err why) = []

-- §15.4 the same for each row that is asked for
unfoldable pub reach_texts : Settings → (gap f : ℕ) → (asked : List ℕ) → List ℕ
reach_texts s b f [] = []
reach_texts s b f (l ∷ ls) = reach_text f l (reach_in_row s b f l 0) ++ reach_texts s b f ls

-- §15.4 B of row f, and its reach in each row asked for
unfoldable pub gap_text : Settings → (gap f : ℕ) → (asked : List ℕ) → List ℕ
gap_text s b f asked = line_text b_word (f ∷ b ∷ []) ++ reach_texts s b f asked
