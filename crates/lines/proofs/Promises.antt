-- The proofs of what specs/Promises.antt states. Assumes nothing.
use mathlib.Core.Path.{◌≡◌, refl, sym, ◌∙◌}
use mathlib.Core.Bool.{Bool, true, false, ◌||◌}
use mathlib.Core.List.{List, [], ◌∷◌, ◌++◌}
use Prim.Native.Nat.{ℕ, zero, suc, ◌+◌, ◌*◌, ◌/◌, ◌%◌, ◌^◌, ◌≤◌, ◌<◌}
use native.Mathlib.Omega.{arith}
use lib.ListN.{length, get_or, length-append, get_or-append}
use lib.Ieee.{to_bits, round}
use borrow.Author.Tests.{lt-ltb, le-ltb, le-leb}
use Rattle.settings.proofs.Laws.Cases.{by_order}
use Rattle.columns.specs.Columns.{are_neighbours, columns_from}
use Rattle.columns.specs.Marks.{marked}
use Rattle.seam.specs.Seam.{half, halves, late, joined, seam_of}
use Rattle.lines.specs.Number.{glyph, decimal_in, decimal, hexadecimal}
use Rattle.lines.specs.Line.{t_line, halves_words, open_words, side_word, seam_head, seam_line, s_line}
use Rattle.lines.specs.Row.{each_below, each_of, right_neighbours, tile_text, seam_text, row_text}
use Rattle.lines.specs.Promises.{is_digit, is_hexadecimal, all_are, value_of, spelt_from, spelt, DecimalRight, HexadecimalRight, printed_lines, PrintedRow}
use Rattle.lines.proofs.Laws.All.{all_then}
use Rattle.lines.proofs.Laws.Number.{glyph_low, glyph_high, one_digit, more_digits, hexadecimal_length}

-- a digit's glyph has its value, and is a digit
value_glyph : (d : ℕ) → d < 16 → value_of (glyph d) ≡ d
unfolding value_of
value_glyph d i =
    by_order 10 d
    (λ p. rw (glyph_high d p, le-ltb (87 + d) 58 (omega arith)) (omega arith))
    (λ p. rw (glyph_low d p, lt-ltb (48 + d) 58 (omega arith)) (omega arith))

digit_glyph : (d : ℕ) → d < 10 → is_digit (glyph d) ≡ true
unfolding is_digit
digit_glyph d i = rw (glyph_low d i, le-leb 48 (48 + d) (omega arith), lt-ltb (48 + d) 58 (omega arith))

hexadecimal_glyph : (d : ℕ) → d < 16 → is_hexadecimal (glyph d) ≡ true
unfolding is_hexadecimal
hexadecimal_glyph d i =
    by_order 10 d
    (λ p. rw (glyph_high d p, le-leb 97 (87 + d) (omega arith), lt-ltb (87 + d) 103 (omega arith)) (either (is_digit (87 + d))))
    (λ p. rw (digit_glyph d p))
  where
    either : (b : Bool) → (b || true) ≡ true
    either true = refl
    either false = refl

-- one digit more
spelt_more : (b n : ℕ) (gs : List ℕ) (g : ℕ) → spelt_from b n (gs ++ (g ∷ [])) ≡ spelt_from b n gs * b + value_of g
unfolding spelt_from
spelt_more b n [] g = refl
spelt_more b n (h ∷ gs) g = spelt_more b (n * b + value_of h) gs g

all_more : (f : ℕ → Bool) (gs : List ℕ) (g : ℕ) → all_are f gs ≡ true → f g ≡ true → all_are f (gs ++ (g ∷ [])) ≡ true
all_more f gs g e d = all_then f gs (g ∷ []) e (unfold all_are in rw d)

-- digits that spell a number and begin with no `0` unless it is 0
record Spells (n : ℕ) (gs : List ℕ) : Type 0 where
  digits : all_are is_digit gs ≡ true
  spell : spelt_from 10 0 gs ≡ n
  some : 0 < length gs
  no_zero : 0 < n → get_or gs 0 48 ≡ 48 → ⊥

spells_one : (n : ℕ) → n < 10 → Spells n (glyph n ∷ [])
unfolding all_are spelt_from
spells_one n i =
    record {
      digits = rw (digit_glyph n i);
      spell = omega (arith, value_glyph n (omega arith));
      some = omega arith;
      no_zero = λ p e. omega (arith, glyph_low n i);
    }

spells_more : (n : ℕ) (gs : List ℕ) → 10 ≤ n → Spells (n / 10) gs → Spells n (gs ++ (glyph (n % 10) ∷ []))
spells_more n gs i s =
    record {
      digits = all_more is_digit gs (glyph (n % 10)) s.digits (digit_glyph (n % 10) (omega arith));
      spell = spelt_more 10 0 gs (glyph (n % 10)) ∙ omega (arith, s.spell, value_glyph (n % 10) (omega arith));
      some = simp length-append (omega arith);
      no_zero = λ p e. s.no_zero (omega arith) (sym (get_or-append gs (glyph (n % 10) ∷ []) 48 0 s.some) ∙ e);
    }

spells_in : (m n : ℕ) → n < 10 ^ suc m → Spells n (decimal_in (suc m) n)
spells_in zero n i = let few : n < 10 = omega arith in rw (one_digit zero n few) (spells_one n few)
spells_in (suc m) n i =
    by_order 10 n
    (λ p. rw (more_digits (suc m) n p) (spells_more n (decimal_in (suc m) (n / 10)) p (spells_in m (n / 10) (omega arith))))
    (λ p. rw (one_digit (suc m) n p) (spells_one n p))

pub decimal_right : DecimalRight
unfolding DecimalRight decimal spelt
decimal_right n i =
    let s = spells_in 19 n i in
    record { digits = s.digits; spell = s.spell; some = s.some; no_zero = s.no_zero }

-- so do the last hexadecimal digits of a number that has no more
spelt_hexadecimal : (k n : ℕ) → n < 16 ^ k → spelt_from 16 0 (hexadecimal k n) ≡ n
unfolding hexadecimal spelt_from
spelt_hexadecimal zero n i = omega arith
spelt_hexadecimal (suc k) n i =
    spelt_more 16 0 (hexadecimal k (n / 16)) (glyph (n % 16))
    ∙ omega (arith, spelt_hexadecimal k (n / 16) (omega arith), value_glyph (n % 16) (omega arith))

all_hexadecimal : (k n : ℕ) → all_are is_hexadecimal (hexadecimal k n) ≡ true
unfolding hexadecimal all_are
all_hexadecimal zero n = refl
all_hexadecimal (suc k) n =
    all_more is_hexadecimal (hexadecimal k (n / 16)) (glyph (n % 16)) (all_hexadecimal k (n / 16)) (hexadecimal_glyph (n % 16) (omega arith))

pub hexadecimal_right : HexadecimalRight
unfolding HexadecimalRight spelt
hexadecimal_right n i =
    record {
      digits = all_hexadecimal 16 n;
      spell = spelt_hexadecimal 16 n i;
      sixteen = hexadecimal_length 16 n;
    }

pub printed_row : PrintedRow
unfolding PrintedRow printed_lines row_text each_below each_of right_neighbours columns_from are_neighbours tile_text seam_text marked t_line s_line seam_line seam_head halves_words open_words side_word decimal decimal_in hexadecimal glyph seam_of joined late halves half to_bits round
printed_row = refl
