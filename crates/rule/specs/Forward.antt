-- The forwarding rule, as the requirements have it in their sections 4 and 5. Assumes nothing.
--
-- Throughout: unit h, step j (§2.4); own, min and max are o, l and m.
use Rattle.std.specs.Prelude.{cond, ℕ, zero, suc, ◌-◌, ◌*◌, ℤ, pos, ◌+ℤ◌, ◌-ℤ◌, Option, Some, None}
use Rattle.std.specs.Int.Signed.{lt_z, le_z}
use Rattle.rule.specs.Signed.{larger, smaller}
use Rattle.rule.specs.Stamp.{Stamp, heard, silent}

-- §4.1 the number that s gives: own - max + 8hs, or own - min - 8hs where that is larger
unfoldable pub larger_at : (h own least most s : ℕ) → ℤ
larger_at h o l m s = larger (pos o -ℤ pos m +ℤ pos (8 * h * s)) (pos o -ℤ pos l -ℤ pos (8 * h * s))

-- §4.1 the least of f 0 to f n
unfoldable pub least_to : (n : ℕ) → (ℕ → ℤ) → ℤ
least_to zero f = f zero
least_to (suc n) f = smaller (least_to n f) (f (suc n))

-- §4.1 D: the least number that an s gives, less h.
-- No s above max - min gives less: `DLeast` shows that this is the least over ALL s.
unfoldable pub D : (h own least most : ℕ) → ℤ
D h o l m = least_to (m - l) (larger_at h o l m) -ℤ pos h

-- §4.2 the correction where all stamps are heard, by where D lies
unfoldable pub heard_correction : (h j own least most : ℕ) → ℤ
heard_correction h j o l m =
    let x = D h o l m in
    cond (lt_z x (pos 0)) (smaller (pos o -ℤ pos l +ℤ pos (3 * h)) (pos 0))
    (cond (le_z x (pos j)) x (larger (pos o -ℤ pos m -ℤ pos (3 * h)) (pos j)))

-- §4.3 P where all stamps are heard; then by §5.2 and §5.3, where own is silent, or a neighbour. With two or more silent the tile is
-- turned away, with number 13.
unfoldable pub P : (h j : ℕ) → (own least most : Stamp) → ℤ
P h j (heard o) (heard l) (heard m) = pos o -ℤ heard_correction h j o l m
P h j silent l (heard m) = pos m +ℤ pos (3 * h)
P h j (heard o) (heard l) silent = larger (pos o) (pos l -ℤ pos (3 * h))
P h j (heard o) silent m = pos o
P h j silent l silent = pos 0

-- §4.3 own less P, which has a sign; none where own is silent (§5.2)
unfoldable pub correction : (h j : ℕ) → (own least most : Stamp) → Option ℤ
correction h j silent l m = None
correction h j (heard o) l m = Some (pos o -ℤ P h j (heard o) l m)
