-- Words and their bytes: a word's bytes spell the text that it was made of, and so does what is left after a shift.
-- Assumes nothing.
use mathlib.Core.Path.{◌≡◌, refl, sym, ◌∙◌, ap}
use mathlib.Core.List.{List, [], ◌∷◌, ◌++◌}
use Prim.Native.Nat.{ℕ, zero, suc, ◌+◌, ◌*◌, ◌/◌, ◌%◌, ◌^◌, ◌≤◌, ◌<◌}
use native.Mathlib.Nat.{div-div-eq-div-mul, pow-succ'}
use native.Mathlib.Omega.{arith}
use lib.ListN.{length, take, drop, length-append, length-take, length-drop}
use lib.Seq.{take-take, take-append-add, length-take-le}
use Rattle.lines.specs.Number.{glyph, decimal_in, decimal, hexadecimal}
use Rattle.tables.specs.Word.{bytes, word_of, padded, spaced}
use Rattle.columns.specs.Wrote.{Wrote}
use Rattle.settings.proofs.Laws.Cases.{by_order}
use Rattle.lines.proofs.Laws.Number.{glyph_low, glyph_high, one_digit, more_digits}
use Rattle.columns.proofs.Laws.Wrote.{wrote_as}
use Rattle.std.proofs.lemmas.Slice.{take-put_mid}
use borrow.Rule.Slice.PartMut.{put_mid}

-- bytes
pub data Small : List ℕ → Type 0 where
  none : Small []
  more : {b : ℕ} {bs : List ℕ} → b < 256 → Small bs → Small (b ∷ bs)

pub small_append : {xs ys : List ℕ} → Small xs → Small ys → Small (xs ++ ys)
small_append none s = s
small_append (more i r) s = more i (small_append r s)

pub glyph_small : (d : ℕ) → d < 16 → glyph d < 128
glyph_small d i = by_order 10 d (λ p. omega (arith, glyph_high d p)) (λ p. omega (arith, glyph_low d p))

one_small : (d : ℕ) → d < 16 → Small (glyph d ∷ [])
one_small d i = more {b = glyph d} (omega (arith, glyph_small d i)) none

small_in : (m n : ℕ) → Small (decimal_in m n)
unfolding decimal_in
small_in zero n = none
small_in (suc m) n =
    by_order 10 n
    (λ p. rw (more_digits m n p) (small_append (small_in m (n / 10)) (one_small (n % 10) (omega arith))))
    (λ p. rw (one_digit m n p) (one_small n (omega arith)))

pub small_decimal : (n : ℕ) → Small (decimal n)
unfolding decimal
small_decimal n = small_in 20 n

pub small_spaced : (n : ℕ) → Small (spaced n)
unfolding spaced
small_spaced n = small_append (small_decimal n) (more {b = 32} (omega arith) none)

pub small_padded : (k n : ℕ) → Small (padded k n)
unfolding padded
small_padded zero n = none
small_padded (suc k) n = small_append (small_padded k (n / 10)) (one_small (n % 10) (omega arith))

pub small_hexadecimal : (k n : ℕ) → Small (hexadecimal k n)
unfolding hexadecimal
small_hexadecimal zero n = none
small_hexadecimal (suc k) n = small_append (small_hexadecimal k (n / 16)) (one_small (n % 16) (omega arith))

pub padded_length : (k n : ℕ) → length (padded k n) ≡ k
unfolding padded
padded_length zero n = refl
padded_length (suc k) n = simp length-append (omega (arith, padded_length k (n / 10)))

-- a word's bytes
low_byte : (b w : ℕ) → b < 256 → (b + 256 * w) % 256 ≡ b
low_byte b w i = omega arith

high_bytes : (b w : ℕ) → b < 256 → (b + 256 * w) / 256 ≡ w
high_bytes b w i = omega arith

pub bytes_word : {xs : List ℕ} → Small xs → bytes (length xs) (word_of xs) ≡ xs
unfolding bytes word_of
bytes_word none = refl
bytes_word (more {b} {bs} i s) = rw (low_byte b (word_of bs) i, high_bytes b (word_of bs) i, bytes_word s)

pub take_bytes : (k n w : ℕ) → k ≤ n → take k (bytes n w) ≡ bytes k w
unfolding bytes
take_bytes zero n w i = refl
take_bytes (suc k) zero w i = let never : ⊥ = omega arith in absurd never
take_bytes (suc k) (suc n) w i = ap (λ (l : List ℕ). (w % 256) ∷ l) (take_bytes k n (w / 256) (omega arith))

pub bytes_length : (k w : ℕ) → length (bytes k w) ≡ k
unfolding bytes
bytes_length zero w = refl
bytes_length (suc k) w = ap suc (bytes_length k (w / 256))

-- past the first bytes
pub word_past : {xs : List ℕ} → Small xs → (j : ℕ) → j ≤ length xs → word_of xs / 256 ^ j ≡ word_of (drop j xs)
unfolding word_of
word_past s zero i = omega arith
word_past none (suc j) i = let never : ⊥ = omega arith in absurd never
word_past (more {b} {bs} k s) (suc j) i =
    ap (λ (d : ℕ). (b + 256 * word_of bs) / d) (pow-succ' 256 j)
    ∙ sym (div-div-eq-div-mul (b + 256 * word_of bs) 256 (256 ^ j))
    ∙ ap (λ (d : ℕ). d / 256 ^ j) (high_bytes b (word_of bs) k)
    ∙ word_past s j (omega arith)

small_drop : {xs : List ℕ} → Small xs → (j : ℕ) → Small (drop j xs)
small_drop s zero = s
small_drop none (suc j) = none
small_drop (more i s) (suc j) = small_drop s j

pub bytes_past : {xs : List ℕ} → Small xs → (j m : ℕ) → j ≤ length xs → length (drop j xs) ≡ m → bytes m (word_of xs / 256 ^ j) ≡ drop j xs
bytes_past {xs} s j m i e =
    ap (λ (w : ℕ). bytes m w) (word_past s j i)
    ∙ ap (λ (k : ℕ). bytes k (word_of (drop j xs))) (sym e)
    ∙ bytes_word (small_drop s j)

-- of a text that was written, the first part
module _ {a b t : List ℕ} {at end : ℕ} (wrote : Wrote a at t b end) where
  pub wrote_first : (k : ℕ) → k ≤ length t → at ≤ length a → Wrote a at (take k t) b (at + k)
  wrote_first k i j =
      record {
        as_long = wrote.as_long;
        goes = omega (arith, length-take-le k t i);
        holds = sym (take-take (at + k) end b (omega (arith, wrote.goes))) ∙ ap (λ (l : List ℕ). take (at + k) l) wrote.holds ∙ cut;
      }
    where
      cut : take (at + k) (take at a ++ t) ≡ take at a ++ take k t
      cut = ap (λ (n : ℕ). take (n + k) (take at a ++ t)) (sym (length-take-le at a j)) ∙ take-append-add (take at a) t k

  pub wrote_nothing : at ≤ length a → Wrote a at [] b at
  wrote_nothing j = let same : at + 0 ≡ at = omega arith in rw same at (wrote_first 0 (omega arith) j)

-- of a word that was written, its first bytes, or the text that it was made of
module _ (w : ℕ) {a b : List ℕ} {at : ℕ} (wrote : Wrote a at (bytes 8 w) b (at + 8)) (room : at ≤ length a) where
  pub wrote_bytes : (k : ℕ) → k ≤ 8 → Wrote a at (bytes k w) b (at + k)
  wrote_bytes k i = wrote_as (wrote_first wrote k (omega (arith, bytes_length 8 w)) room) (take_bytes k 8 w i)

  pub wrote_text : {xs : List ℕ} → Small xs → (k : ℕ) → length xs ≡ k → k ≤ 8 → w ≡ word_of xs → Wrote a at xs b (at + k)
  wrote_text {xs} s k l i e =
      wrote_as (wrote_bytes k i) (ap (λ (n : ℕ). bytes n w) (sym l) ∙ ap (λ (n : ℕ). bytes (length xs) n) e ∙ bytes_word s)

-- a part that was written in its place
pub wrote_part : (m at end : ℕ) (t p : List ℕ) → m ≡ length p → end ≡ at + length p → end ≤ length t → Wrote t at p (put_mid at m t p) end
wrote_part m at end t p same ends room =
    record { as_long = simp (length-append, length-take, length-drop) (omega arith); goes = ends; holds = take-put_mid at m t p end ends (omega arith) }

-- the bytes of a word, by shifts
pub bytes_shifted : (w : ℕ) →
    (w % 256 ∷ w / 256 % 256 ∷ w / 65536 % 256 ∷ w / 16777216 % 256 ∷ w / 4294967296 % 256 ∷ w / 1099511627776 % 256 ∷ w / 281474976710656 % 256 ∷ w / 72057594037927936 % 256 ∷ [])
    ≡ bytes 8 w
unfolding bytes
bytes_shifted w =
    rw (
      div-div-eq-div-mul w 256 256,
      div-div-eq-div-mul w 65536 256,
      div-div-eq-div-mul w 16777216 256,
      div-div-eq-div-mul w 4294967296 256,
      div-div-eq-div-mul w 1099511627776 256,
      div-div-eq-div-mul w 281474976710656 256,
    )

-- five bytes
pub word_bound : {xs : List ℕ} → Small xs → length xs ≤ 5 → word_of xs < 1099511627776
unfolding word_of
word_bound none l = omega arith
word_bound (more a none) l = omega arith
word_bound (more a (more b none)) l = omega arith
word_bound (more a (more b (more c none))) l = omega arith
word_bound (more a (more b (more c (more d none)))) l = omega arith
word_bound (more a (more b (more c (more d (more e none))))) l = omega arith
word_bound (more a (more b (more c (more d (more e (more f s)))))) l = let never : ⊥ = omega arith in absurd never
