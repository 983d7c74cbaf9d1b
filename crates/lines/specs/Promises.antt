-- What is promised of the text. Each statement is proved in proofs/Promises.antt, under its name in small letters.
-- Assumes nothing.
use Rattle.std.specs.Prelude.{◌≡◌, Bool, true, cond, ◌&&◌, ◌||◌, List, [], ◌∷◌, ◌++◌, ℕ, ◌+◌, ◌-◌, ◌*◌, ◌^◌, ◌<◌, ltb, leb, length, get_or}
use Rattle.lines.specs.Number.{decimal, hexadecimal}
use Rattle.lines.specs.Line.{line_end}
use Rattle.lines.specs.Row.{row_text}

-- §10.2 `0` to `9`
unfoldable pub is_digit : (glyph : ℕ) → Bool
is_digit g = leb 48 g && ltb g 58

-- §10.3 `0` to `9` and `a` to `f`
unfoldable pub is_hexadecimal : (glyph : ℕ) → Bool
is_hexadecimal g = is_digit g || (leb 97 g && ltb g 103)

-- §10.2 whether each character is such a digit
unfoldable pub all_are : (ℕ → Bool) → List ℕ → Bool
all_are f [] = true
all_are f (g ∷ gs) = f g && all_are f gs

-- §10.3 a digit's value
unfoldable pub value_of : (glyph : ℕ) → ℕ
value_of g = cond (ltb g 58) (g - 48) (g - 87)

-- §10.2 the number that digits spell after those that spell `so_far`
unfoldable pub spelt_from : (base so_far : ℕ) → List ℕ → ℕ
spelt_from b n [] = n
spelt_from b n (g ∷ gs) = spelt_from b (n * b + value_of g) gs

-- §10.2 the number that digits spell, the most significant first
unfoldable pub spelt : (base : ℕ) → List ℕ → ℕ
spelt b gs = spelt_from b 0 gs

-- §10.2 a number's decimal digits spell it, and it begins with no `0` unless it is 0
pub record Decimal (n : ℕ) : Type 0 where
  pub digits : all_are is_digit (decimal n) ≡ true
  pub spell : spelt 10 (decimal n) ≡ n
  pub some : 0 < length (decimal n)
  pub no_zero : 0 < n → get_or (decimal n) 0 48 ≡ 48 → ⊥

-- §10.2 so it is with each number of up to 20 digits
unfoldable pub DecimalRight : Type 0
DecimalRight = (n : ℕ) → n < 10 ^ 20 → Decimal n

-- §10.3 16 hexadecimal digits spell a number of 64 bits
pub record Hexadecimal (n : ℕ) : Type 0 where
  pub digits : all_are is_hexadecimal (hexadecimal 16 n) ≡ true
  pub spell : spelt 16 (hexadecimal 16 n) ≡ n
  pub sixteen : length (hexadecimal 16 n) ≡ 16

-- §10.3 so it is with each of them
unfoldable pub HexadecimalRight : Type 0
HexadecimalRight = (n : ℕ) → n < 2 ^ 64 → Hexadecimal n

-- §14.4 the lines of its row, byte by byte
unfoldable pub printed_lines : List ℕ
printed_lines =
    -- t 1 0 1500 k
    (116 ∷ 32 ∷ 49 ∷ 32 ∷ 48 ∷ 32 ∷ 49 ∷ 53 ∷ 48 ∷ 48 ∷ 32 ∷ 107 ∷ line_end ∷ [])
    -- t 1 1 1500 k
    ++ (116 ∷ 32 ∷ 49 ∷ 32 ∷ 49 ∷ 32 ∷ 49 ∷ 53 ∷ 48 ∷ 48 ∷ 32 ∷ 107 ∷ line_end ∷ [])
    -- t 1 2 1500 k
    ++ (116 ∷ 32 ∷ 49 ∷ 32 ∷ 50 ∷ 32 ∷ 49 ∷ 53 ∷ 48 ∷ 48 ∷ 32 ∷ 107 ∷ line_end ∷ [])
    -- t 1 3 1536 l
    ++ (116 ∷ 32 ∷ 49 ∷ 32 ∷ 51 ∷ 32 ∷ 49 ∷ 53 ∷ 51 ∷ 54 ∷ 32 ∷ 108 ∷ line_end ∷ [])
    -- t 1 4 1500 k
    ++ (116 ∷ 32 ∷ 49 ∷ 32 ∷ 52 ∷ 32 ∷ 49 ∷ 53 ∷ 48 ∷ 48 ∷ 32 ∷ 107 ∷ line_end ∷ [])
    -- t 1 5 1500 k
    ++ (116 ∷ 32 ∷ 49 ∷ 32 ∷ 53 ∷ 32 ∷ 49 ∷ 53 ∷ 48 ∷ 48 ∷ 32 ∷ 107 ∷ line_end ∷ [])
    -- s 1 0 1 4097700000000000 0000000000000000
    ++ (115 ∷ 32 ∷ 49 ∷ 32 ∷ 48 ∷ 32 ∷ 49 ∷ 32 ∷ 52 ∷ 48 ∷ 57 ∷ 55 ∷ 55 ∷ 48 ∷ 48 ∷ 48 ∷ 48 ∷ 48 ∷ 48 ∷ 48 ∷ 48 ∷ 48 ∷ 48 ∷ 48 ∷ 32 ∷ 48 ∷ 48 ∷ 48 ∷ 48 ∷ 48 ∷ 48 ∷ 48 ∷ 48 ∷ 48 ∷ 48 ∷ 48 ∷ 48 ∷ 48 ∷ 48 ∷ 48 ∷ 48 ∷ line_end ∷ [])
    -- s 1 0 2 4097700000000000 0000000000000000
    ++ (115 ∷ 32 ∷ 49 ∷ 32 ∷ 48 ∷ 32 ∷ 50 ∷ 32 ∷ 52 ∷ 48 ∷ 57 ∷ 55 ∷ 55 ∷ 48 ∷ 48 ∷ 48 ∷ 48 ∷ 48 ∷ 48 ∷ 48 ∷ 48 ∷ 48 ∷ 48 ∷ 48 ∷ 32 ∷ 48 ∷ 48 ∷ 48 ∷ 48 ∷ 48 ∷ 48 ∷ 48 ∷ 48 ∷ 48 ∷ 48 ∷ 48 ∷ 48 ∷ 48 ∷ 48 ∷ 48 ∷ 48 ∷ line_end ∷ [])
    -- s 1 1 2 4097700000000000 0000000000000000
    ++ (115 ∷ 32 ∷ 49 ∷ 32 ∷ 49 ∷ 32 ∷ 50 ∷ 32 ∷ 52 ∷ 48 ∷ 57 ∷ 55 ∷ 55 ∷ 48 ∷ 48 ∷ 48 ∷ 48 ∷ 48 ∷ 48 ∷ 48 ∷ 48 ∷ 48 ∷ 48 ∷ 48 ∷ 32 ∷ 48 ∷ 48 ∷ 48 ∷ 48 ∷ 48 ∷ 48 ∷ 48 ∷ 48 ∷ 48 ∷ 48 ∷ 48 ∷ 48 ∷ 48 ∷ 48 ∷ 48 ∷ 48 ∷ line_end ∷ [])
    -- s 1 2 3 4097b80000000000 4032000000000000
    ++ (115 ∷ 32 ∷ 49 ∷ 32 ∷ 50 ∷ 32 ∷ 51 ∷ 32 ∷ 52 ∷ 48 ∷ 57 ∷ 55 ∷ 98 ∷ 56 ∷ 48 ∷ 48 ∷ 48 ∷ 48 ∷ 48 ∷ 48 ∷ 48 ∷ 48 ∷ 48 ∷ 48 ∷ 32 ∷ 52 ∷ 48 ∷ 51 ∷ 50 ∷ 48 ∷ 48 ∷ 48 ∷ 48 ∷ 48 ∷ 48 ∷ 48 ∷ 48 ∷ 48 ∷ 48 ∷ 48 ∷ 48 ∷ line_end ∷ [])
    -- s 1 3 4 4097b80000000000 c032000000000000
    ++ (115 ∷ 32 ∷ 49 ∷ 32 ∷ 51 ∷ 32 ∷ 52 ∷ 32 ∷ 52 ∷ 48 ∷ 57 ∷ 55 ∷ 98 ∷ 56 ∷ 48 ∷ 48 ∷ 48 ∷ 48 ∷ 48 ∷ 48 ∷ 48 ∷ 48 ∷ 48 ∷ 48 ∷ 32 ∷ 99 ∷ 48 ∷ 51 ∷ 50 ∷ 48 ∷ 48 ∷ 48 ∷ 48 ∷ 48 ∷ 48 ∷ 48 ∷ 48 ∷ 48 ∷ 48 ∷ 48 ∷ 48 ∷ line_end ∷ [])
    -- s 1 3 5 4097b80000000000 c032000000000000
    ++ (115 ∷ 32 ∷ 49 ∷ 32 ∷ 51 ∷ 32 ∷ 53 ∷ 32 ∷ 52 ∷ 48 ∷ 57 ∷ 55 ∷ 98 ∷ 56 ∷ 48 ∷ 48 ∷ 48 ∷ 48 ∷ 48 ∷ 48 ∷ 48 ∷ 48 ∷ 48 ∷ 48 ∷ 32 ∷ 99 ∷ 48 ∷ 51 ∷ 50 ∷ 48 ∷ 48 ∷ 48 ∷ 48 ∷ 48 ∷ 48 ∷ 48 ∷ 48 ∷ 48 ∷ 48 ∷ 48 ∷ 48 ∷ line_end ∷ [])
    -- s 1 4 5 4097700000000000 0000000000000000
    ++ (115 ∷ 32 ∷ 49 ∷ 32 ∷ 52 ∷ 32 ∷ 53 ∷ 32 ∷ 52 ∷ 48 ∷ 57 ∷ 55 ∷ 55 ∷ 48 ∷ 48 ∷ 48 ∷ 48 ∷ 48 ∷ 48 ∷ 48 ∷ 48 ∷ 48 ∷ 48 ∷ 48 ∷ 32 ∷ 48 ∷ 48 ∷ 48 ∷ 48 ∷ 48 ∷ 48 ∷ 48 ∷ 48 ∷ 48 ∷ 48 ∷ 48 ∷ 48 ∷ 48 ∷ 48 ∷ 48 ∷ 48 ∷ line_end ∷ [])

-- §14.4 they are the text of its times and letters
unfoldable pub PrintedRow : Type 0
PrintedRow = row_text 6 1 (0 ∷ []) (1500 ∷ 1500 ∷ 1500 ∷ 1536 ∷ 1500 ∷ 1500 ∷ []) (107 ∷ 107 ∷ 107 ∷ 108 ∷ 107 ∷ 107 ∷ []) ≡ printed_lines
