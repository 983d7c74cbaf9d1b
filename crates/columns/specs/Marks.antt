-- Fault marks: one bit a column. Assumes nothing.
use Rattle.std.specs.Prelude.{Bool, cond, List, [], ◌∷◌, ℕ, ◌/◌, ◌%◌, ◌^◌, ◌+◌, eqb, get_or}

-- §7.2 the bit of column c is set
unfoldable pub marked : (marks : List ℕ) → (c : ℕ) → Bool
marked ms c = eqb (get_or ms (c / 8) 0 / 2 ^ (c % 8) % 2) 1

-- §7.2 bytes of marks
unfoldable pub mark_bytes : (w : ℕ) → ℕ
mark_bytes w = (w + 7) / 8

-- §7.5 how many of some columns are marked
unfoldable pub faulty_among : (marks : List ℕ) → (columns : List ℕ) → ℕ
faulty_among ms [] = 0
faulty_among ms (k ∷ ks) = cond (marked ms k) 1 0 + faulty_among ms ks
