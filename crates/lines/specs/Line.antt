-- The printed lines, in ASCII. Assumes nothing.
use Rattle.std.specs.Prelude.{Bool, cond, List, [], ◌∷◌, ◌++◌, ℕ, Result, Ok, Err}
use Rattle.std.specs.Float.{binary64}
use Rattle.std.specs.Float.Ieee.{to_bits}
use Rattle.settings.specs.declared.refusal.Refusal.{Refusal}
use Rattle.seam.specs.declared.Halves.{Halves}
use Rattle.seam.specs.declared.Side.{Side}
use Rattle.seam.specs.declared.Side.TheVariants.{Left, Right, Both}
use Rattle.seam.specs.declared.Seam.{Seam}
use Rattle.seam.specs.declared.Seam.TheVariants.{Closed, Open}
use Rattle.lines.specs.Number.{decimal, hexadecimal}

-- §10.2 what stands between the words of a line
abbrev pub space : ℕ
space = 32

-- §10.2 the line feed that ends a line
abbrev pub line_end : ℕ
line_end = 10

-- §10.2 `-`, a faulty tile's time
abbrev pub dash : List ℕ
dash = 45 ∷ []

-- §10.4 `at`
abbrev pub at_word : List ℕ
at_word = 97 ∷ 116 ∷ []

-- §10.4 `refused`
abbrev pub refused_word : List ℕ
refused_word = 114 ∷ 101 ∷ 102 ∷ 117 ∷ 115 ∷ 101 ∷ 100 ∷ []

-- §10.3 `open`
abbrev pub open_word : List ℕ
open_word = 111 ∷ 112 ∷ 101 ∷ 110 ∷ []

-- §10.3 `left`, `right` or `both`
unfoldable pub side_word : Side → List ℕ
side_word Left = 108 ∷ 101 ∷ 102 ∷ 116 ∷ []
side_word Right = 114 ∷ 105 ∷ 103 ∷ 104 ∷ 116 ∷ []
side_word Both = 98 ∷ 111 ∷ 116 ∷ 104 ∷ []

-- §10.2 the line of a tile, with its letter (§E3.5) where it is correct
unfoldable pub t_line : (row column : ℕ) → (faulty : Bool) → (time letter : ℕ) → List ℕ
t_line l c f t x =
    (116 ∷ space ∷ decimal l) ++ (space ∷ decimal c) ++ (space ∷ cond f dash (decimal t ++ (space ∷ x ∷ []))) ++ (line_end ∷ [])

-- §10.3 what a closed seam's line ends with: the bits of its midpoint, then of its half gap
unfoldable pub halves_words : Halves → List ℕ
halves_words h = hexadecimal 16 (to_bits binary64 h.midpoint) ++ (space ∷ hexadecimal 16 (to_bits binary64 h.half_gap))

-- §10.3 what an open seam's line ends with
unfoldable pub open_words : Side → List ℕ
open_words side = open_word ++ (space ∷ side_word side)

-- §10.3 what a seam's line begins with: `s`, its row, left and right
unfoldable pub seam_head : (row left right : ℕ) → List ℕ
seam_head l a b = (115 ∷ space ∷ decimal l) ++ (space ∷ decimal a) ++ (space ∷ decimal b)

-- §10.3 the line of a seam that ends with these words
unfoldable pub seam_line : (row left right : ℕ) → (words : List ℕ) → List ℕ
seam_line l a b words = seam_head l a b ++ (space ∷ words) ++ (line_end ∷ [])

-- §10.3 the line of a seam; one that is turned away has none, and in a wall file none is
unfoldable pub s_line : (row left right : ℕ) → Result Seam Refusal → List ℕ
s_line l a b (Ok (Closed h)) = seam_line l a b (halves_words h)
s_line l a b (Ok (Open side)) = seam_line l a b (open_words side)
s_line l a b (Err why) = []

-- §10.4 the line of a refusal
unfoldable pub refused_line : (number offset : ℕ) → List ℕ
refused_line n at = (refused_word ++ (space ∷ decimal n)) ++ (space ∷ at_word) ++ (space ∷ decimal at) ++ (line_end ∷ [])

-- §15.4 numbers, each after a space
unfoldable pub numbers_text : List ℕ → List ℕ
numbers_text [] = []
numbers_text (n ∷ ns) = (space ∷ decimal n) ++ numbers_text ns

-- §15.4 a line of a word and numbers
unfoldable pub line_text : (word numbers : List ℕ) → List ℕ
line_text word ns = (word ++ numbers_text ns) ++ (line_end ∷ [])
