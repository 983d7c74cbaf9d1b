-- The text of a row's tiles, column by column, and how long it is. Assumes nothing.
use mathlib.Core.Path.{◌≡◌}
use mathlib.Core.Bool.{Bool, true, false, cond}
use mathlib.Core.List.{List, [], ◌∷◌, ◌++◌, append_assoc}
use Prim.Native.Nat.{ℕ, ◌≤◌, zero, suc, ◌+◌, ◌*◌}
use lib.ListN.{length, length-append, get_or}
use native.Mathlib.Omega.{arith}
use native.Mathlib.Numerals.{add-one}
use Rattle.lines.specs.Line.{space, line_end, dash, t_line}
use Rattle.tables.specs.Word.{spaced}
use Rattle.tile_lines.specs.Tile.{tile_after}
use Rattle.lines.specs.Number.{decimal}
use Rattle.lines.proofs.Laws.Number.{decimal_length, decimal_length_3, decimal_length_4}
use Rattle.columns.specs.Marks.{marked}
use Rattle.lines.specs.Row.{each_below, tile_text}

pub tile_is : (l c : ℕ) (f : Bool) (t x : ℕ) → tile_after (116 ∷ space ∷ spaced l) c f t x ≡ t_line l c f t x
unfolding tile_after t_line spaced
tile_is l c f t x = simp append_assoc

-- the end of a correct tile's line is written as one
pub lettered_is : (begun digits : List ℕ) (x : ℕ) →
    begun ++ digits ++ (space ∷ x ∷ line_end ∷ []) ≡ begun ++ (digits ++ (space ∷ x ∷ [])) ++ (line_end ∷ [])
lettered_is begun digits x = simp append_assoc

pub time_length : (f : Bool) (t x : ℕ) → length (cond f dash (decimal t ++ (space ∷ x ∷ []))) ≤ 22
time_length true t x = omega arith
time_length false t x = simp length-append (omega (arith, decimal_length t))

pub t_line_length : (l c : ℕ) (f : Bool) (t x : ℕ) → l ≤ 1024 → c ≤ 255 → length (t_line l c f t x) ≤ 34
unfolding t_line
t_line_length l c f t x i j =
    simp length-append (omega (arith, decimal_length_4 l (omega arith), decimal_length_3 c (omega arith), time_length f t x))

pub each_more : (n : ℕ) (f : ℕ → List ℕ) → each_below n f ++ f n ≡ each_below (n + 1) f
unfolding each_below
each_more n f = rw add-one

pub tiles_length : (l : ℕ) (ms ts ls : List ℕ) → l ≤ 1024 → (c : ℕ) → c ≤ 256 → length (each_below c (tile_text l ms ts ls)) ≤ 34 * c
unfolding each_below tile_text
tiles_length l ms ts ls i zero j = omega arith
tiles_length l ms ts ls i (suc c) j =
    simp length-append (omega (arith, tiles_length l ms ts ls i c (omega arith), t_line_length l c (marked ms c) (get_or ts c 0) (get_or ls c 0) i (omega arith)))

-- the text of a tile, by the mark that was read
module _ (l : ℕ) (ms ts ls : List ℕ) where
  pub tile_known : (c : ℕ) (f : Bool) → f ≡ marked ms c → t_line l c f (get_or ts c 0) (get_or ls c 0) ≡ tile_text l ms ts ls c
  unfolding tile_text
  tile_known c f e = rw e
