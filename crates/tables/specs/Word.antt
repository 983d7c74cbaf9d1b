-- Text as words, eight bytes as one number, the first byte lowest; and the tables of words. Assumes nothing.
use Rattle.std.specs.Prelude.{◌≡◌, List, [], ◌∷◌, ◌++◌, ℕ, zero, suc, ◌+◌, ◌*◌, ◌/◌, ◌%◌, ◌<◌, length, get_or}
use Rattle.lines.specs.Number.{glyph, decimal}
use Rattle.lines.specs.Line.{space}

-- §10.2 the first bytes of a word
unfoldable pub bytes : (count word : ℕ) → List ℕ
bytes zero w = []
bytes (suc k) w = (w % 256) ∷ bytes k (w / 256)

-- §10.2 the word of a text
unfoldable pub word_of : List ℕ → ℕ
word_of [] = 0
word_of (b ∷ bs) = b + 256 * word_of bs

-- §10.2 the last decimal digits, that many, zeros too
unfoldable pub padded : (places n : ℕ) → List ℕ
padded zero n = []
padded (suc k) n = padded k (n / 10) ++ (glyph (n % 10) ∷ [])

-- §10.2 a number and a space
unfoldable pub spaced : (n : ℕ) → List ℕ
spaced n = decimal n ++ (space ∷ [])

-- §10.2 the two digits of a number in a base, as a word
unfoldable pub pair : (base n : ℕ) → ℕ
pair b n = glyph (n / b) + 256 * glyph (n % b)

-- §10.3 the three hexadecimal digits of a number below 4096, as a word
unfoldable pub triple : (n : ℕ) → ℕ
triple n = pair 16 (n / 16) + 65536 * glyph (n % 16)

-- §10.2 what a table holds from a place on
unfoldable pub Holds : (table : List ℕ) → (at count : ℕ) → (ℕ → ℕ) → Type 0
Holds t at n f = (k : ℕ) → k < n → get_or t (at + k) 0 ≡ f k

-- §10.3 words of hexadecimal digits, three as the first and as the next, and two as the last; of pairs of decimal digits at each of the four
-- places of a word; of each column with a space after it, and how long that is
pub record Tables (t : List ℕ) : Type 0 where
  pub size : length t ≡ 9616
  pub last_pairs : Holds t 256 256 (λ k. pair 16 k * 281474976710656)
  pub first_digits : Holds t 512 100 (λ k. pair 10 k * 1)
  pub second_digits : Holds t 612 100 (λ k. pair 10 k * 65536)
  pub third_digits : Holds t 712 100 (λ k. pair 10 k * 4294967296)
  pub fourth_digits : Holds t 812 100 (λ k. pair 10 k * 281474976710656)
  pub columns : Holds t 912 256 (λ k. word_of (spaced k))
  pub lengths : Holds t 1168 256 (λ k. length (spaced k))
  pub first_triples : Holds t 1424 4096 triple
  pub next_triples : Holds t 5520 4096 (λ k. triple k * 16777216)
