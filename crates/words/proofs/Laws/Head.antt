-- What the lines of a row begin with, as bytes. Assumes nothing.
use mathlib.Core.Path.{◌≡◌, ◌∙◌, ap}
use mathlib.Core.List.{◌∷◌}
use Prim.Native.Nat.{ℕ, ◌+◌, ◌*◌, ◌<◌}
use native.Mathlib.Omega.{arith}
use lib.ListN.{length}
use Rattle.lines.specs.Line.{space}
use Rattle.tables.specs.Word.{bytes, word_of, spaced}
use Rattle.tables.proofs.Laws.Word.{more, small_spaced, bytes_word}

-- the bytes that they begin with
pub head_bytes : (tag l w n head long : ℕ) → tag < 256 → w ≡ word_of (spaced l) → n ≡ length (spaced l) → head ≡ tag + 256 * (space + 256 * w) → long ≡ 2 + n →
    bytes long head ≡ tag ∷ space ∷ spaced l
unfolding word_of
head_bytes tag l w n head long i e d h k =
    let word : head ≡ word_of (tag ∷ space ∷ spaced l) = omega (arith, e, h) in
    let count : long ≡ length (tag ∷ space ∷ spaced l) = omega (arith, d, k) in
    ap (λ (m : ℕ). bytes m head) count
    ∙ ap (λ (m : ℕ). bytes (length (tag ∷ space ∷ spaced l)) m) word
    ∙ bytes_word (more {b = tag} i (more {b = space} (omega arith) (small_spaced l)))
