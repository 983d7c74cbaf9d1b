-- What follows wherever own stands. Assumes nothing.
use mathlib.Core.Path.{◌≡◌}
use Prim.Native.Nat.{ℕ, zero, suc}
use Rattle.pulse.specs.Arranged.{arranged}

module _ {P : (own a b : ℕ) → Type 0} where
  pub wherever : {C : Type 0} (n x y z : ℕ) → ((own a b : ℕ) → P own a b → C) → arranged n P x y z → C
  unfolding arranged
  wherever zero x y z h p = h x y z p
  wherever (suc zero) x y z h p = h y x z p
  wherever (suc (suc n)) x y z h p = h z x y p

  pub arranged_map : (Q : (own a b : ℕ) → Type 0) (n x y z : ℕ) (g : ℕ → ℕ) → ((own a b : ℕ) → P own a b → Q (g own) (g a) (g b)) →
      arranged n P x y z → arranged n Q (g x) (g y) (g z)
  unfolding arranged
  arranged_map Q zero x y z g h p = h x y z p
  arranged_map Q (suc zero) x y z g h p = h y x z p
  arranged_map Q (suc (suc n)) x y z g h p = h z x y p

-- what holds wherever own stands holds of own and the others as they are taken out
pub taken : (P : (own a b : ℕ) → Type 0) {o a b : ℕ} (n x y z : ℕ) →
    arranged n (λ own c d. (o ≡ own) × (a ≡ c) × (b ≡ d)) x y z → arranged n P x y z → P o a b
unfolding arranged
taken P zero x y z e p = rw (e.0, e.1, e.2) p
taken P (suc zero) x y z e p = rw (e.0, e.1, e.2) p
taken P (suc (suc n)) x y z e p = rw (e.0, e.1, e.2) p
