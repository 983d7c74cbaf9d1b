-- The last number in a text. Assumes nothing.
use Rattle.std.specs.Prelude.{Bool, false, cond, List, [], ◌∷◌, ℕ, ◌+◌, ◌*◌}
use Rattle.lines.specs.Promises.{is_digit, value_of}

-- §15.4 a digit behind a digit goes on with the number so far, one behind any other glyph begins anew
unfoldable pub read_from : (so_far : ℕ) → (within : Bool) → (text : List ℕ) → ℕ
read_from n within [] = n
read_from n within (g ∷ gs) = read_from (cond (is_digit g) (cond within (n * 10) 0 + value_of g) n) (is_digit g) gs

-- §15.4 the last number in a text
unfoldable pub last_number : (text : List ℕ) → ℕ
last_number gs = read_from 0 false gs
