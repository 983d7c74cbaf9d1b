-- Which part of the rule fixed a pulse: its letter, beside the rule of Forward.antt. Assumes nothing.
--
-- Throughout: unit h, step j (§2.4); own, min and max are o, l and m.
use Rattle.std.specs.Prelude.{cond, ℕ, ◌*◌, ℤ, pos, ◌+ℤ◌, ◌-ℤ◌}
use Rattle.std.specs.Int.Signed.{lt_z, le_z}
use Rattle.rule.specs.Stamp.{Stamp, heard, silent}
use Rattle.rule.specs.Forward.{D, P}
use Rattle.rule.specs.declared.letter.Letter.{Letter}
use Rattle.rule.specs.declared.letter.Letter.TheVariants.{Kept, Early, Middle, Back, Late}

-- §E3.3 a letter as a byte: `k`, `e`, `m`, `b` and `l`
abbrev pub byte_of : Letter → ℕ
byte_of Kept = 107
byte_of Early = 101
byte_of Middle = 109
byte_of Back = 98
byte_of Late = 108

-- §E3.1 `e` where P is above own, otherwise `k`
unfoldable pub early_or_kept : (own : ℕ) → (p : ℤ) → Letter
early_or_kept o p = cond (lt_z (pos o) p) Early Kept

-- §E3.1 where all stamps are heard, by where D lies: from 0 to J, below, or above
unfoldable pub heard_letter : (h j own least most : ℕ) → Letter
heard_letter h j o l m =
    let x = D h o l m in
    cond (lt_z x (pos 0)) (early_or_kept o (P h j (heard o) (heard l) (heard m)))
    (cond (le_z x (pos j)) Middle
    (cond (le_z (pos o -ℤ pos j) (pos m +ℤ pos (3 * h))) Back Late))

-- §E3.1 the letter for any stamps: `l` where own is silent, `e` or `k` where a neighbour is
unfoldable pub letter : (h j : ℕ) → (own least most : Stamp) → Letter
letter h j silent l m = Late
letter h j (heard o) (heard l) (heard m) = heard_letter h j o l m
letter h j (heard o) (heard l) silent = early_or_kept o (P h j (heard o) (heard l) silent)
letter h j (heard o) silent m = early_or_kept o (P h j (heard o) silent m)
