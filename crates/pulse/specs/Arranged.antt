-- The code's own: own among the first three predecessors of a tile, which are adjacent columns. Assumes nothing.
use Rattle.std.specs.Prelude.{ℕ, zero, suc}

-- §1.3 what is said or worked out of own and the two others, in their order, by own's place among x, y and z
unfoldable pub arranged {ℓ} : {A : Type ℓ} (place : ℕ) → ((own a b : ℕ) → A) → (x y z : ℕ) → A
arranged zero f x y z = f x y z
arranged (suc zero) f x y z = f y x z
arranged (suc (suc n)) f x y z = f z x y
