-- The decimal digits of a number as so many digits, the first of them 0 or not, and in two parts. Assumes nothing.
use mathlib.Core.Path.{◌≡◌, refl, sym, ◌∙◌, ap}
use mathlib.Core.List.{List, [], ◌∷◌, ◌++◌, append_assoc, append-nil}
use Prim.Native.Nat.{ℕ, zero, suc, ◌+◌, ◌*◌, ◌/◌, ◌%◌, ◌^◌, ◌≤◌, ◌<◌}
use native.Mathlib.Nat.{div-div-eq-div-mul, pow-succ', pow-le-pow_right, mul_assoc}
use native.Mathlib.Omega.{arith}
use lib.ListN.{length, drop, length-append, drop_of_length-le}
use lib.Seq.{drop-append-le}
use Rattle.lines.specs.Number.{glyph, decimal}
use Rattle.lines.specs.Line.{space}
use Rattle.tables.specs.Word.{padded, spaced, word_of}
use Rattle.lines.proofs.Laws.Number.{decimal_one, decimal_more, decimal_length_3, decimal_length_4}
use Rattle.tables.proofs.Laws.Word.{padded_length, small_spaced, word_bound}

-- a power of ten above the first
ten_le : (m : ℕ) → 10 ≤ 10 ^ suc m
ten_le m = pow-le-pow_right {n = 10} (omega arith) {i = 1} {j = suc m} (omega arith)

-- a number of m + 1 digits
pub decimal_padded : (m n : ℕ) → n < 10 ^ 20 → (0 < m → 10 ^ m ≤ n) → n < 10 ^ suc m → decimal n ≡ padded (suc m) n
unfolding padded
decimal_padded zero n l i j =
    let few : n < 10 = omega arith in
    let same : n ≡ n % 10 = omega arith in
    decimal_one n few ∙ ap (λ (d : ℕ). glyph d ∷ []) same
decimal_padded (suc m) n l i j =
    let most : 10 ^ suc m ≤ n = i (omega arith) in
    let ten : 10 ≤ 10 ^ suc m = ten_le m in
    decimal_more n (omega arith) l
    ∙ ap (λ (ds : List ℕ). ds ++ (glyph (n % 10) ∷ [])) (decimal_padded m (n / 10) (omega arith) (λ z. omega arith) (omega arith))

-- the last digits of more
pub drop_padded : (j m k n : ℕ) → k ≡ m + j → drop j (padded k n) ≡ padded m n
unfolding padded
drop_padded j zero k n e = drop_of_length-le (padded k n) {i = j} (omega (arith, padded_length k n))
drop_padded j (suc m) zero n e = let never : ⊥ = omega arith in absurd never
drop_padded j (suc m) (suc k) n e =
    drop-append-le j (padded k (n / 10)) (glyph (n % 10) ∷ []) (omega (arith, padded_length k (n / 10)))
    ∙ ap (λ (ds : List ℕ). ds ++ (glyph (n % 10) ∷ [])) (drop_padded j m k (n / 10) (omega arith))

-- the first digits, and the last k
pub decimal_split : (k n : ℕ) → 10 ^ k ≤ n → n < 10 ^ 20 → decimal n ≡ decimal (n / 10 ^ k) ++ padded k n
unfolding padded
decimal_split zero n i j = let same : n ≡ n / 1 = omega arith in ap decimal same ∙ sym (append-nil (decimal (n / 10 ^ 0)))
decimal_split (suc k) n i j =
    let ten : 10 ≤ 10 ^ suc k = ten_le k in
    decimal_more n (omega arith) j
    ∙ ap (λ (ds : List ℕ). ds ++ (glyph (n % 10) ∷ [])) (decimal_split k (n / 10) (omega arith) (omega arith))
    ∙ append_assoc (decimal (n / 10 / 10 ^ k)) (padded k (n / 10)) (glyph (n % 10) ∷ [])
    ∙ ap (λ (q : ℕ). decimal q ++ (padded k (n / 10) ++ (glyph (n % 10) ∷ [])))
    (div-div-eq-div-mul n 10 (10 ^ k) ∙ ap (λ (d : ℕ). n / d) (sym (pow-succ' 10 k)))

pub padded_past : (k n h : ℕ) → padded k (10 ^ k * h + n) ≡ padded k n
unfolding padded
padded_past zero n h = refl
padded_past (suc k) n h =
    let x = 10 ^ k * h in
    let times : 10 ^ suc k * h ≡ 10 * x = ap (λ (d : ℕ). d * h) (pow-succ' 10 k) ∙ mul_assoc 10 (10 ^ k) h in
    let tens : (10 ^ suc k * h + n) / 10 ≡ x + n / 10 = omega (arith, times) in
    let last : (10 ^ suc k * h + n) % 10 ≡ n % 10 = omega (arith, times) in
    rw (tens, last) (ap (λ (ds : List ℕ). ds ++ (glyph (n % 10) ∷ [])) (padded_past k (n / 10) h))

-- numbers of one to four digits with a space after them
spaced_as : (m n : ℕ) → n < 10 ^ 20 → (0 < m → 10 ^ m ≤ n) → n < 10 ^ suc m → spaced n ≡ padded (suc m) n ++ (space ∷ [])
unfolding spaced
spaced_as m n l i j = ap (λ (ds : List ℕ). ds ++ (space ∷ [])) (decimal_padded m n l i j)

module _ (n : ℕ) where
  pub spaced_length : (m : ℕ) → n < 10 ^ 20 → (0 < m → 10 ^ m ≤ n) → n < 10 ^ suc m → length (spaced n) ≡ m + 2
  spaced_length m l i j = ap length (spaced_as m n l i j) ∙ simp length-append (omega (arith, padded_length (suc m) n))

  pub word_one : n < 10 → word_of (spaced n) ≡ glyph (n % 10) + 256 * 32
  unfolding word_of padded
  word_one i = rw (spaced_as 0 n (omega arith) (omega arith) i) (omega arith)

  pub word_two : 10 ≤ n → n < 100 → word_of (spaced n) ≡ glyph (n / 10 % 10) + 256 * (glyph (n % 10) + 256 * 32)
  unfolding word_of padded
  word_two i j = rw (spaced_as 1 n (omega arith) (omega arith) j) (omega arith)

  pub word_three : 100 ≤ n → n < 1000 →
      word_of (spaced n) ≡ glyph (n / 100 % 10) + 256 * (glyph (n / 10 % 10) + 256 * (glyph (n % 10) + 256 * 32))
  unfolding word_of padded
  word_three i j = rw (spaced_as 2 n (omega arith) (omega arith) j, div-div-eq-div-mul n 10 10) (omega arith)

  pub word_four : 1000 ≤ n → n < 10000 →
      word_of (spaced n) ≡ glyph (n / 1000) + 256 * (glyph (n / 100 % 10) + 256 * (glyph (n / 10 % 10) + 256 * (glyph (n % 10) + 256 * 32)))
  unfolding word_of padded
  word_four i j =
      let top : n / 1000 % 10 ≡ n / 1000 = omega arith in
      rw (spaced_as 3 n (omega arith) (omega arith) j, div-div-eq-div-mul n 10 10, div-div-eq-div-mul n 100 10, top) (omega arith)

pub spaced_some : (n : ℕ) → 0 < length (spaced n)
unfolding spaced
spaced_some n = simp length-append (omega arith)

pub spaced_short : (n : ℕ) → n < 1000 → length (spaced n) ≤ 4
unfolding spaced
spaced_short n i = simp length-append (omega (arith, decimal_length_3 n i))

-- a number below 10,000 and a space are at most five bytes
pub spaced_most : (n : ℕ) → n < 10000 → length (spaced n) ≤ 5
unfolding spaced
spaced_most n i = simp length-append (omega (arith, decimal_length_4 n i))

pub word_small : (n : ℕ) → n < 10000 → word_of (spaced n) < 1099511627776
word_small n i = word_bound (small_spaced n) (spaced_most n i)
