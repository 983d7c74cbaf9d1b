-- Big-endian numbers, byte by byte. Assumes nothing.
use mathlib.Core.Path.{◌≡◌}
use mathlib.Core.List.{List}
use Prim.Native.Nat.{ℕ, ◌+◌, ◌*◌}
use lib.ListN.{get_or}
use native.Mathlib.Omega.{arith}
use Rattle.fields.specs.Bytes.{big_endian}

pub two_bytes : (bs : List ℕ) (at : ℕ) → big_endian 2 bs at ≡ get_or bs at 0 * 256 + get_or bs (at + 1) 0
unfolding big_endian
two_bytes bs at = let e : at + 0 ≡ at = omega arith in rw e (omega arith)

pub four_bytes : (bs : List ℕ) (at : ℕ) →
    big_endian 4 bs at ≡ ((get_or bs at 0 * 256 + get_or bs (at + 1) 0) * 256 + get_or bs (at + 2) 0) * 256 + get_or bs (at + 3) 0
unfolding big_endian
four_bytes bs at = let e : at + 0 ≡ at = omega arith in rw e (omega arith)

pub eight_bytes : (bs : List ℕ) (at : ℕ) →
    big_endian 8 bs at
    ≡ ((((((get_or bs at 0 * 256 + get_or bs (at + 1) 0) * 256 + get_or bs (at + 2) 0) * 256 + get_or bs (at + 3) 0) * 256 + get_or bs (at + 4) 0) * 256
    + get_or bs (at + 5) 0) * 256 + get_or bs (at + 6) 0) * 256 + get_or bs (at + 7) 0
unfolding big_endian
eight_bytes bs at = let e : at + 0 ≡ at = omega arith in rw e (omega arith)
