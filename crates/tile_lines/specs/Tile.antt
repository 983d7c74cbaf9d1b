-- The line of a tile after what the lines of a row begin with, and the codes of a row's tiles. Assumes nothing.
use Rattle.std.specs.Prelude.{Bool, cond, List, [], ◌∷◌, ◌++◌, ℕ, get_or}
use Rattle.columns.specs.Marks.{marked}
use Rattle.lines.specs.Number.{decimal}
use Rattle.lines.specs.Line.{space, line_end, dash}
use Rattle.tables.specs.Word.{spaced, Holds}

-- §10.2 the code of a tile: a correct one's time, and 2^64 - 1 for a faulty one
unfoldable pub code : (faulty : Bool) → (time : ℕ) → ℕ
code f t = cond f 18446744073709551615 t

-- §10.2 the codes of so many tiles of a row, by its marks and times
unfoldable pub Coded : (codes marks times : List ℕ) → (count : ℕ) → Type 0
Coded cs ms ts n = Holds cs 0 n (λ k. code (marked ms k) (get_or ts k 0))

-- §10.2 the line of a tile, with its letter (§E3.5) where it is correct, after what the lines of a row begin with
unfoldable pub tile_after : (head : List ℕ) → (column : ℕ) → (faulty : Bool) → (time letter : ℕ) → List ℕ
tile_after head c f t x = head ++ spaced c ++ cond f dash (decimal t ++ (space ∷ x ∷ [])) ++ (line_end ∷ [])
