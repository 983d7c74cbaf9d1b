-- How many digits numbers have, and the digits of a number from those of a tenth of it. Assumes nothing.
use mathlib.Core.Path.{◌≡◌, refl, sym, ◌∙◌, ap}
use mathlib.Core.List.{List, [], ◌∷◌, ◌++◌}
use Prim.Native.Nat.{ℕ, zero, suc, ◌+◌, ◌/◌, ◌%◌, ◌^◌, ◌≤◌, ◌<◌}
use native.Mathlib.Omega.{arith}
use lib.ListN.{length, length-append}
use borrow.Author.Tests.{lt-ltb, le-ltb}
use Rattle.settings.proofs.Laws.Cases.{by_order}
use Rattle.lines.specs.Number.{glyph, decimal_in, decimal, hexadecimal}

-- a digit below ten, and one above
pub glyph_low : (d : ℕ) → d < 10 → glyph d ≡ 48 + d
unfolding glyph
glyph_low d i = rw (lt-ltb d 10 i)

pub glyph_high : (d : ℕ) → 10 ≤ d → glyph d ≡ 87 + d
unfolding glyph
glyph_high d i = rw (le-ltb d 10 i)

-- one digit, and more
pub one_digit : (m n : ℕ) → n < 10 → decimal_in (suc m) n ≡ glyph n ∷ []
unfolding decimal_in
one_digit m n i = rw (lt-ltb n 10 i)

pub more_digits : (m n : ℕ) → 10 ≤ n → decimal_in (suc m) n ≡ decimal_in m (n / 10) ++ (glyph (n % 10) ∷ [])
unfolding decimal_in
more_digits m n i = rw (le-ltb n 10 i)

-- places that are enough give the same digits
places : (k m n : ℕ) → n < 10 ^ suc k → n < 10 ^ suc m → decimal_in (suc k) n ≡ decimal_in (suc m) n
places zero m n i j = one_digit zero n (omega arith) ∙ sym (one_digit m n (omega arith))
places (suc k) zero n i j = one_digit (suc k) n (omega arith) ∙ sym (one_digit zero n (omega arith))
places (suc k) (suc m) n i j =
    by_order 10 n
    (λ p. more_digits (suc k) n p
    ∙ ap (λ (l : List ℕ). l ++ (glyph (n % 10) ∷ [])) (places k m (n / 10) (omega arith) (omega arith))
    ∙ sym (more_digits (suc m) n p))
    (λ p. one_digit (suc k) n p ∙ sym (one_digit (suc m) n p))

at_most : (m n : ℕ) → length (decimal_in m n) ≤ m
unfolding decimal_in
at_most zero n = omega arith
at_most (suc m) n =
    by_order 10 n
    (λ p. rw (le-ltb n 10 p) (simp length-append (omega (arith, at_most m (n / 10)))))
    (λ p. rw (lt-ltb n 10 p) (omega arith))

pub decimal_length : (n : ℕ) → length (decimal n) ≤ 20
unfolding decimal
decimal_length n = at_most 20 n

pub decimal_length_3 : (n : ℕ) → n < 1000 → length (decimal n) ≤ 3
unfolding decimal
decimal_length_3 n i = rw (places 19 2 n (omega arith) i) (at_most 3 n)

pub decimal_length_4 : (n : ℕ) → n < 10000 → length (decimal n) ≤ 4
unfolding decimal
decimal_length_4 n i = rw (places 19 3 n (omega arith) i) (at_most 4 n)

-- the digits of a tenth, and the last
pub decimal_one : (n : ℕ) → n < 10 → decimal n ≡ glyph n ∷ []
unfolding decimal
decimal_one n i = one_digit 19 n i

pub decimal_more : (n : ℕ) → 10 ≤ n → n < 10 ^ 20 → decimal n ≡ decimal (n / 10) ++ (glyph (n % 10) ∷ [])
unfolding decimal
decimal_more n p i = more_digits 19 n p ∙ ap (λ (l : List ℕ). l ++ (glyph (n % 10) ∷ [])) (places 18 19 (n / 10) (omega arith) (omega arith))

pub hexadecimal_length : (k n : ℕ) → length (hexadecimal k n) ≡ k
unfolding hexadecimal
hexadecimal_length zero n = refl
hexadecimal_length (suc k) n = simp length-append (omega (arith, hexadecimal_length k (n / 16)))
