-- Numbers in the bytes of a wall file. Assumes nothing.
use Rattle.std.specs.Prelude.{List, ℕ, zero, suc, ◌+◌, ◌*◌, get_or}

-- §9.1 the number in n bytes from a place on, the most significant first
unfoldable pub big_endian : (n : ℕ) → (bytes : List ℕ) → (place : ℕ) → ℕ
big_endian zero bs at = 0
big_endian (suc n) bs at = big_endian n bs at * 256 + get_or bs (at + n) 0
