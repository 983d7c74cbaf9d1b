-- Which times have their first digits in common: those of as many digits, and those with the same digits before the last eight.
-- Assumes nothing.
use mathlib.Core.Path.{◌≡◌, refl, sym, ◌∙◌, ap}
use mathlib.Core.List.{List, [], ◌∷◌, ◌++◌}
use mathlib.Core.Logic.{◌⊎◌, inl, inr}
use Prim.Native.Nat.{ℕ, zero, suc, ◌+◌, ◌-◌, ◌*◌, ◌/◌, ◌^◌, ◌≤◌, ◌<◌}
use native.Mathlib.Nat.{pow-succ', pow-le-pow_right}
use native.Mathlib.Numerals.{add-one}
use native.Mathlib.Omega.{arith}
use lib.ListN.{length, take, drop, length-append, length-drop}
use lib.Pow.{pow-add}
use lib.Seq.{take-append_seam}
use Rattle.settings.proofs.Laws.Cases.{by_order}
use Rattle.lines.specs.Number.{decimal}
use Rattle.lines.specs.Line.{space}
use Rattle.tables.specs.Word.{bytes, word_of, padded, spaced}
use Rattle.tile_lines.specs.Near.{Serves}
use Rattle.tile_lines.specs.declared.near.Near.{Near}
use Rattle.lines.proofs.Laws.Number.{decimal_length_4}
use Rattle.tables.proofs.Laws.Word.{small_spaced, small_padded, padded_length, bytes_word, bytes_past, take_bytes}
use Rattle.tables.proofs.Laws.Digits.{decimal_padded, drop_padded, decimal_split, padded_past}

pub power_next : (d : ℕ) → 10 ^ (d + 1) ≡ 10 * 10 ^ d
power_next d = rw add-one (pow-succ' 10 d)

pub power_below : (d : ℕ) → 10 ^ d < 100000000 → d < 8
power_below d i = by_order 8 d (λ p. let most : 10 ^ 8 ≤ 10 ^ d = pow-le-pow_right {n = 10} (omega arith) {i = 8} {j = d} p in omega arith) (λ p. p)

pub power_most : (d : ℕ) → d ≤ 8 → 10 ^ d ≤ 100000000
power_most d i = pow-le-pow_right {n = 10} (omega arith) {i = d} {j = 8} i

-- a shift by bytes
shift_bytes : (j : ℕ) → 2 ^ (8 * j) ≡ 256 ^ j
shift_bytes zero = refl
shift_bytes (suc j) =
    let eight : 8 * suc j ≡ 8 + 8 * j = omega arith in
    ap (λ (k : ℕ). 2 ^ k) eight ∙ pow-add 2 8 (8 * j) ∙ ap (λ (p : ℕ). 256 * p) (shift_bytes j) ∙ sym (pow-succ' 256 j)

-- of as many digits
abbrev pub of_digits : (low span shift digits : ℕ) → Near
of_digits low span s d = record { low = low; span = span; base = 0; word = 0; length = 0; shift = s; digits = d }

pub digits_serve : (low span s m t : ℕ) → m < 8 → s ≡ 8 * (7 - m) → t < 10 ^ suc m → (0 < m → 10 ^ m ≤ t) → Serves (of_digits low span s (suc m)) t
unfolding bytes
digits_serve low span s m t i e j k =
    let most : 10 ^ suc m ≤ 100000000 = power_most (suc m) (omega arith) in
    let left : 7 - m ≡ 8 - suc m = omega arith in
    let whole : t - 0 ≡ t = omega arith in
    record {
      past = omega arith;
      few = omega arith;
      first = omega arith;
      last = omega arith;
      shift = ap (λ (n : ℕ). 2 ^ n) e ∙ shift_bytes (7 - m) ∙ ap (λ (n : ℕ). 256 ^ n) left;
      shifts = omega arith;
      text =
          decimal_padded m t (omega arith) k j
          ∙ sym (drop_padded (8 - suc m) (suc m) 8 t (omega arith))
          ∙ ap (λ (n : ℕ). drop (8 - suc m) (padded 8 n)) (sym whole);
    }

-- of the same first digits
abbrev pub of_first : (high word length : ℕ) → Near
of_first h w l = record { low = h * 100000000; span = 100000000; base = h * 100000000; word = w; length = l; shift = 0; digits = 8 }

first_bytes : (h : ℕ) → bytes (length (decimal h)) (word_of (spaced h)) ≡ decimal h
unfolding spaced
first_bytes h =
    sym (take_bytes (length (decimal h)) (length (spaced h)) (word_of (spaced h)) (simp length-append (omega arith)))
    ∙ ap (λ (bs : List ℕ). take (length (decimal h)) bs) (bytes_word (small_spaced h))
    ∙ take-append_seam (decimal h) (space ∷ [])

digits_of : (h : ℕ) → length (spaced h) - 1 ≡ length (decimal h)
unfolding spaced
digits_of h = simp length-append (omega arith)

pub first_serves : (h w l t : ℕ) → 0 < h → h < 10000 → w ≡ word_of (spaced h) → l ≡ length (spaced h) - 1 → h * 100000000 ≤ t → t - h * 100000000 < 100000000 →
    Serves (of_first h w l) t
first_serves h w l t z i e d j k =
    let high : t / 10 ^ 8 ≡ h = omega arith in
    let back : 10 ^ 8 * h + (t - h * 100000000) ≡ t = omega arith in
    let short : l ≡ length (decimal h) = d ∙ digits_of h in
    record {
      past = j;
      few = k;
      first = omega (arith, short, decimal_length_4 h i);
      last = omega arith;
      shift = refl;
      shifts = omega arith;
      text =
          decimal_split 8 t (omega arith) (omega arith)
          ∙ ap (λ (n : ℕ). decimal n ++ padded 8 t) high
          ∙ ap (λ (n : ℕ). decimal h ++ padded 8 n) (sym back)
          ∙ ap (λ (ds : List ℕ). decimal h ++ ds) (padded_past 8 (t - h * 100000000) h)
          ∙ ap (λ (ds : List ℕ). ds ++ padded 8 (t - h * 100000000)) (sym (first_bytes h) ∙ ap (λ (n : ℕ). bytes n (word_of (spaced h))) (sym short) ∙ ap (λ (n : ℕ). bytes l n) (sym e));
    }

-- what is known of a time that is served, and the bytes that a shift leaves of its last digits
pub serving : (near : Near) (t : ℕ) → (near.span ≡ 0) ⊎ Serves near t → (near.span ≡ 0 → ⊥) → Serves near t
serving near t (inl z) n = absurd (n z)
serving near t (inr s) n = s

pub last_bytes : (near : Near) (t e : ℕ) → Serves near t → e ≡ word_of (padded 8 (t - near.base)) →
    bytes near.digits (e / 2 ^ near.shift) ≡ drop (8 - near.digits) (padded 8 (t - near.base))
last_bytes near t e s d =
    let x = t - near.base in
    let j = 8 - near.digits in
    let left : length (drop j (padded 8 x)) ≡ near.digits = omega (arith, length-drop j (padded 8 x), padded_length 8 x, s.last) in
    ap (λ (p : ℕ). bytes near.digits (e / p)) s.shift
    ∙ ap (λ (w : ℕ). bytes near.digits (w / 256 ^ j)) d
    ∙ bytes_past (small_padded 8 x) j near.digits (omega (arith, padded_length 8 x)) left
