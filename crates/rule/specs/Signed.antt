-- Whole numbers with a sign: the larger and the smaller of two, and the natural ones among them. Assumes nothing.
use Rattle.std.specs.Prelude.{cond, ℕ, ℤ, pos, negsuc}
use Rattle.std.specs.Int.Signed.{le_z}

-- §4.1 the larger of two
unfoldable pub larger : ℤ → ℤ → ℤ
larger a b = cond (le_z a b) b a

-- §4.1 the smaller of two
unfoldable pub smaller : ℤ → ℤ → ℤ
smaller a b = cond (le_z a b) a b

-- §4.3 a whole number that is not below zero, as a natural one
unfoldable pub natural : ℤ → ℕ
natural (pos n) = n
natural (negsuc n) = 0
