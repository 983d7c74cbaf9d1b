-- Eight digits as four pairs, decimal and hexadecimal. Assumes nothing.
use mathlib.Core.Path.{◌≡◌, refl, sym, ◌∙◌, ap}
use mathlib.Core.List.{List, [], ◌∷◌, ◌++◌, append_assoc, append-nil}
use Prim.Native.Nat.{ℕ, zero, suc, ◌+◌, ◌*◌, ◌/◌, ◌%◌, ◌^◌, ◌≤◌, ◌<◌}
use native.Mathlib.Nat.{mod-lt, div-lt_iff_lt-mul, div-div-eq-div-mul, pow-succ', mul_assoc}
use native.Mathlib.Omega.{arith}
use Rattle.lines.specs.Number.{glyph, hexadecimal}
use Rattle.tables.specs.Word.{word_of, padded, pair, triple}
use Rattle.tables.proofs.Laws.Word.{glyph_small}

-- a pair is of two bytes
pub pair_small : (b k : ℕ) → 0 < b → b ≤ 16 → k < b * b → pair b k < 32768
unfolding pair
pair_small b k z i j =
    let first : k / b < b = (div-lt_iff_lt-mul z).1 j in
    let second : k % b < b = mod-lt k z in
    omega (arith, glyph_small (k / b) (omega arith), glyph_small (k % b) (omega arith))

pub decimal_pair_small : (k : ℕ) → k < 100 → pair 10 k < 32768
decimal_pair_small k i = pair_small 10 k (omega arith) (omega arith) i

pub hexadecimal_pair_small : (k : ℕ) → k < 256 → pair 16 k < 32768
hexadecimal_pair_small k i = pair_small 16 k (omega arith) (omega arith) i

-- the last two digits
two_digits : (k m d n : ℕ) → d < 100 → n ≡ m * 100 + d → padded (suc (suc k)) n ≡ padded k m ++ (glyph (d / 10) ∷ glyph (d % 10) ∷ [])
unfolding padded
two_digits k m d n i e =
    let rest : n / 10 / 10 ≡ m = omega arith in
    let first : n / 10 % 10 ≡ d / 10 = omega arith in
    let second : n % 10 ≡ d % 10 = omega arith in
    rw (rest, first, second) (append_assoc (padded k m) (glyph (d / 10) ∷ []) (glyph (d % 10) ∷ []))

two_hexadecimal : (k m d n : ℕ) → d < 256 → n ≡ m * 256 + d → hexadecimal (suc (suc k)) n ≡ hexadecimal k m ++ (glyph (d / 16) ∷ glyph (d % 16) ∷ [])
unfolding hexadecimal
two_hexadecimal k m d n i e =
    let rest : n / 16 / 16 ≡ m = omega arith in
    let first : n / 16 % 16 ≡ d / 16 = omega arith in
    let second : n % 16 ≡ d % 16 = omega arith in
    rw (rest, first, second) (append_assoc (hexadecimal k m) (glyph (d / 16) ∷ []) (glyph (d % 16) ∷ []))

-- the word of eight
module _ (a b c d : ℕ) where
  eight_decimal_list : (n : ℕ) → a < 100 → b < 100 → c < 100 → d < 100 → n ≡ ((a * 100 + b) * 100 + c) * 100 + d →
      padded 8 n ≡ glyph (a / 10) ∷ glyph (a % 10) ∷ glyph (b / 10) ∷ glyph (b % 10) ∷ glyph (c / 10) ∷ glyph (c % 10) ∷ glyph (d / 10) ∷ glyph (d % 10) ∷ []
  unfolding padded
  eight_decimal_list n i j k l e =
      two_digits 6 ((a * 100 + b) * 100 + c) d n l e
      ∙ ap (λ (ds : List ℕ). ds ++ (glyph (d / 10) ∷ glyph (d % 10) ∷ []))
      (two_digits 4 (a * 100 + b) c ((a * 100 + b) * 100 + c) k refl
      ∙ ap (λ (ds : List ℕ). ds ++ (glyph (c / 10) ∷ glyph (c % 10) ∷ []))
      (two_digits 2 a b (a * 100 + b) j refl
      ∙ ap (λ (ds : List ℕ). ds ++ (glyph (b / 10) ∷ glyph (b % 10) ∷ [])) (two_digits 0 0 a a i (omega arith))))

  pub eight_decimal : (n : ℕ) → a < 100 → b < 100 → c < 100 → d < 100 → n ≡ ((a * 100 + b) * 100 + c) * 100 + d →
      pair 10 a * 1 + pair 10 b * 65536 + pair 10 c * 4294967296 + pair 10 d * 281474976710656 ≡ word_of (padded 8 n)
  unfolding pair word_of
  eight_decimal n i j k l e = rw (eight_decimal_list n i j k l e) (omega arith)

-- the last three hexadecimal digits
three_hexadecimal : (k m d n : ℕ) → d < 4096 → n ≡ m * 4096 + d →
    hexadecimal (suc (suc (suc k))) n ≡ hexadecimal k m ++ (glyph (d / 16 / 16) ∷ glyph (d / 16 % 16) ∷ glyph (d % 16) ∷ [])
unfolding hexadecimal
three_hexadecimal k m d n i e =
    let rest : n / 16 / 16 / 16 ≡ m = omega arith in
    let first : n / 16 / 16 % 16 ≡ d / 16 / 16 = omega arith in
    let second : n / 16 % 16 ≡ d / 16 % 16 = omega arith in
    let third : n % 16 ≡ d % 16 = omega arith in
    rw (rest, first, second, third) (simp append_assoc)

module _ (a b d : ℕ) where
  eight_hexadecimal_list : (n : ℕ) → a < 4096 → b < 4096 → d < 256 → n ≡ (a * 4096 + b) * 256 + d →
      hexadecimal 8 n
      ≡ glyph (a / 16 / 16) ∷ glyph (a / 16 % 16) ∷ glyph (a % 16) ∷ glyph (b / 16 / 16) ∷ glyph (b / 16 % 16) ∷ glyph (b % 16) ∷ glyph (d / 16) ∷ glyph (d % 16) ∷ []
  unfolding hexadecimal
  eight_hexadecimal_list n i j l e =
      two_hexadecimal 6 (a * 4096 + b) d n l e
      ∙ ap (λ (ds : List ℕ). ds ++ (glyph (d / 16) ∷ glyph (d % 16) ∷ []))
      (three_hexadecimal 3 a b (a * 4096 + b) j refl
      ∙ ap (λ (ds : List ℕ). ds ++ (glyph (b / 16 / 16) ∷ glyph (b / 16 % 16) ∷ glyph (b % 16) ∷ [])) (three_hexadecimal 0 0 a a i (omega arith)))

  pub eight_hexadecimal : (n : ℕ) → a < 4096 → b < 4096 → d < 256 → n ≡ (a * 4096 + b) * 256 + d →
      triple a + triple b * 16777216 + pair 16 d * 281474976710656 ≡ word_of (hexadecimal 8 n)
  unfolding triple pair word_of
  eight_hexadecimal n i j l e = rw (eight_hexadecimal_list n i j l e) (omega arith)

pub triple_small : (k : ℕ) → k < 4096 → triple k < 8388608
unfolding triple
triple_small k i = omega (arith, hexadecimal_pair_small (k / 16) (omega arith), glyph_small (k % 16) (omega arith))

-- sixteen digits as twice eight
hexadecimal_past : (k n h : ℕ) → hexadecimal k (16 ^ k * h + n) ≡ hexadecimal k n
unfolding hexadecimal
hexadecimal_past zero n h = refl
hexadecimal_past (suc k) n h =
    let x = 16 ^ k * h in
    let times : 16 ^ suc k * h ≡ 16 * x = ap (λ (d : ℕ). d * h) (pow-succ' 16 k) ∙ mul_assoc 16 (16 ^ k) h in
    let rest : (16 ^ suc k * h + n) / 16 ≡ x + n / 16 = omega (arith, times) in
    let last : (16 ^ suc k * h + n) % 16 ≡ n % 16 = omega (arith, times) in
    rw (rest, last) (ap (λ (ds : List ℕ). ds ++ (glyph (n % 16) ∷ [])) (hexadecimal_past k (n / 16) h))

hexadecimal_split : (j k t n : ℕ) → t ≡ k + j → hexadecimal t n ≡ hexadecimal j (n / 16 ^ k) ++ hexadecimal k n
unfolding hexadecimal
hexadecimal_split j zero t n e =
    let places : t ≡ j = omega arith in
    let whole : n ≡ n / 1 = omega arith in
    ap (λ (p : ℕ). hexadecimal p n) places ∙ ap (λ (m : ℕ). hexadecimal j m) whole ∙ sym (append-nil (hexadecimal j (n / 1)))
hexadecimal_split j (suc k) zero n e = let never : ⊥ = omega arith in absurd never
hexadecimal_split j (suc k) (suc t) n e =
    ap (λ (ds : List ℕ). ds ++ (glyph (n % 16) ∷ [])) (hexadecimal_split j k t (n / 16) (omega arith))
    ∙ append_assoc (hexadecimal j (n / 16 / 16 ^ k)) (hexadecimal k (n / 16)) (glyph (n % 16) ∷ [])
    ∙ ap (λ (q : ℕ). hexadecimal j q ++ (hexadecimal k (n / 16) ++ (glyph (n % 16) ∷ [])))
    (div-div-eq-div-mul n 16 (16 ^ k) ∙ ap (λ (d : ℕ). n / d) (sym (pow-succ' 16 k)))

pub sixteen : (n : ℕ) → hexadecimal 8 (n / 4294967296) ++ hexadecimal 8 (n % 4294967296) ≡ hexadecimal 16 n
sixteen n =
    let back : 16 ^ 8 * (n / 4294967296) + n % 4294967296 ≡ n = omega arith in
    ap (λ (ds : List ℕ). hexadecimal 8 (n / 4294967296) ++ ds)
    (sym (hexadecimal_past 8 (n % 4294967296) (n / 4294967296)) ∙ ap (λ (m : ℕ). hexadecimal 8 m) back)
    ∙ sym (hexadecimal_split 8 8 16 n refl)
