-- Numbers as text. Assumes nothing.
use Rattle.std.specs.Prelude.{cond, List, [], ◌∷◌, ◌++◌, ℕ, zero, suc, ◌+◌, ◌/◌, ◌%◌, ltb}

-- §10.3 the ASCII code of a digit below 16: `0` to `9`, then `a` to `f`
unfoldable pub glyph : (digit : ℕ) → ℕ
glyph d = cond (ltb d 10) (48 + d) (87 + d)

-- §10.2 decimal digits, the most significant first, as many as it takes; `most` bounds how many are written
unfoldable pub decimal_in : (most n : ℕ) → List ℕ
decimal_in zero n = []
decimal_in (suc most) n = cond (ltb n 10) (glyph n ∷ []) (decimal_in most (n / 10) ++ (glyph (n % 10) ∷ []))

-- §10.2 a number in decimal; one of 64 bits has at most 20 digits
unfoldable pub decimal : ℕ → List ℕ
decimal n = decimal_in 20 n

-- §10.3 the last hexadecimal digits, that many, the most significant first
unfoldable pub hexadecimal : (places n : ℕ) → List ℕ
hexadecimal zero n = []
hexadecimal (suc k) n = hexadecimal k (n / 16) ++ (glyph (n % 16) ∷ [])
