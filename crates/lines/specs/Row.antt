-- The lines of one row. Assumes nothing.
use Rattle.std.specs.Prelude.{◌&&◌, List, [], ◌∷◌, ◌++◌, ℕ, zero, suc, ◌+◌, ◌*◌, ltb, get_or}
use Rattle.columns.specs.Columns.{are_neighbours, columns_from}
use Rattle.columns.specs.Marks.{marked}
use Rattle.seam.specs.Seam.{seam_of}
use Rattle.lines.specs.Line.{t_line, s_line}

-- §10.2 the text of each number below n, in turn
unfoldable pub each_below : (n : ℕ) → (ℕ → List ℕ) → List ℕ
each_below zero f = []
each_below (suc n) f = each_below n f ++ f n

-- §10.3 the text of each number in a list, in turn
unfoldable pub each_of : List ℕ → (ℕ → List ℕ) → List ℕ
each_of [] f = []
each_of (k ∷ ks) f = f k ++ each_of ks f

-- §8.1 the right columns of the seams that have this left one, rising
unfoldable pub right_neighbours : (w a : ℕ) → List ℕ
right_neighbours w a = columns_from w 0 (λ b. ltb a b && are_neighbours w a b)

-- §10.2 a tile's line, by the marks, the times and the letters of its row
unfoldable pub tile_text : (row : ℕ) → (marks times letters : List ℕ) → (column : ℕ) → List ℕ
tile_text l ms ts ls c = t_line l c (marked ms c) (get_or ts c 0) (get_or ls c 0)

-- §10.3 a seam's line, by the marks and the times of its row
unfoldable pub seam_text : (row : ℕ) → (marks times : List ℕ) → (left right : ℕ) → List ℕ
seam_text l ms ts a b = s_line l a b (seam_of (get_or ts a 0) (marked ms a) (get_or ts b 0) (marked ms b))

-- §10.3 the lines of a row: all tiles, then all seams, for each left column its right ones
unfoldable pub row_text : (w row : ℕ) → (marks times letters : List ℕ) → List ℕ
row_text w l ms ts ls =
    each_below w (tile_text l ms ts ls) ++ each_below w (λ a. each_of (right_neighbours w a) (seam_text l ms ts a))

-- §10.3 room that is enough for the lines of a row: 34 bytes a tile and 64 a seam, of which there are W + 1
unfoldable pub row_room : (w : ℕ) → ℕ
row_room w = 98 * w + 64

-- §10.3 room for the text of any step: the lines of a row of 256 tiles
abbrev pub step_room : ℕ
step_room = 25152
