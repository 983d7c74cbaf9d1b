-- Two words and a byte, put one after the other, write sixteen digits and the byte. Assumes nothing.
use mathlib.Core.Path.{◌≡◌, refl, ◌∙◌}
use mathlib.Core.List.{List, [], ◌∷◌, ◌++◌}
use Prim.Native.Nat.{ℕ, ◌+◌, ◌/◌, ◌%◌, ◌≤◌}
use native.Mathlib.Omega.{arith}
use lib.ListN.{length, set, length-set}
use Rattle.lines.specs.Number.{hexadecimal}
use Rattle.tables.specs.Word.{bytes, word_of}
use Rattle.columns.specs.Wrote.{Wrote}
use Rattle.lines.proofs.Laws.Number.{hexadecimal_length}
use Rattle.tables.proofs.Laws.Pairs.{sixteen}
use Rattle.tables.proofs.Laws.Word.{small_hexadecimal, wrote_text}
use Rattle.columns.proofs.Laws.Wrote.{wrote_more, wrote_then, wrote_end, wrote_as}

-- eight digits
eight : (w n : ℕ) {a b : List ℕ} {at : ℕ} → w ≡ word_of (hexadecimal 8 n) → Wrote a at (bytes 8 w) b (at + 8) → at ≤ length a →
    Wrote a at (hexadecimal 8 n) b (at + 8)
eight w n e wrote room = wrote_text w wrote room (small_hexadecimal 8 n) 8 (hexadecimal_length 8 n) (omega arith) e

module _ {o o₁ o₂ t₁ t₂ : List ℕ} {at : ℕ} (one : Wrote o at t₁ o₁ (at + 8)) (two : Wrote o₁ (at + 8) t₂ o₂ (at + 8 + 8)) where
  pub sixteen_long : (b : ℕ) → length (set o₂ (at + 16) b) ≡ length o
  sixteen_long b = length-set o₂ (at + 16) b ∙ two.as_long ∙ one.as_long

pub wrote_sixteen : {o o₁ o₂ : List ℕ} {at w₁ w₂ : ℕ} → at + 17 ≤ length o → Wrote o at (bytes 8 w₁) o₁ (at + 8) → Wrote o₁ (at + 8) (bytes 8 w₂) o₂ (at + 8 + 8) →
    (n b : ℕ) → w₁ ≡ word_of (hexadecimal 8 (n / 4294967296)) → w₂ ≡ word_of (hexadecimal 8 (n % 4294967296)) →
    Wrote o at (hexadecimal 16 n ++ (b ∷ [])) (set o₂ (at + 16) b) (at + 17)
wrote_sixteen {o} {o₁} {o₂} {at} {w₁} {w₂} room one two n b e f =
    let high = eight w₁ (n / 4294967296) e one (omega arith) in
    let low = eight w₂ (n % 4294967296) f two (omega (arith, one.as_long)) in
    let digits = wrote_end (wrote_as (wrote_then high low) (sixteen n)) (at + 16) (omega arith) in
    wrote_more digits b (omega arith) refl (omega arith)
