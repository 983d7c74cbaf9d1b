-- The largest of some numbers is one of them and none is above it; so for the smallest. Assumes nothing.
use mathlib.Core.Path.{◌≡◌, refl, sym, subst}
use mathlib.Core.Bool.{Bool, true, false, cond, not, true≢false}
use mathlib.Core.List.{List, [], ◌∷◌}
use Prim.Native.Nat.{ℕ, zero, suc, ◌<◌}
use native.Mathlib.Omega.{arith}
use lib.Dec.{T, le→leb}
use lib.IntN.{ℤ, pos, negsuc}
use lib.ListN.{length, get_or}
use lib.Signed.{le_z, lt_z, ◌≤ℤ◌, le_z_yes, lt_z_yes, lt_z_no, ≤ℤ_refl, <ℤ-≤ℤ_trans, clash_ℤ}
use borrow.Author.Tests.{leb-false}
use Rattle.rule.specs.Signed.{larger, smaller}
use Rattle.waves.specs.Reading.{largest, smallest}
use Rattle.waves.specs.Promises.{Largest, Smallest}

≤ℤ_trans : {a b c : ℤ} → a ≤ℤ b → b ≤ℤ c → a ≤ℤ c
≤ℤ_trans {a} {b} {c} h k = go (lt_z c a) refl
  where
    go : (t : Bool) → lt_z c a ≡ t → a ≤ℤ c
    go true e = clash_ℤ (<ℤ-≤ℤ_trans (lt_z_yes (subst T (sym e) tt)) h) k
    go false e = lt_z_no (subst (λ (t : Bool). T (not t)) (sym e) tt)

reversed : (a b : ℤ) → le_z a b ≡ false → b ≤ℤ a
reversed (pos a) (pos b) e = let i = leb-false a b e in le_z_yes (le→leb b a (omega arith))
reversed (pos a) (negsuc b) e = le_z_yes tt
reversed (negsuc a) (pos b) e = absurd (true≢false e)
reversed (negsuc a) (negsuc b) e = let i = leb-false b a e in le_z_yes (le→leb a b (omega arith))

module _ (a b : ℤ) where
  above : (a ≤ℤ larger a b) × (b ≤ℤ larger a b)
  unfolding larger
  above = go (le_z a b) refl
    where
      go : (t : Bool) → le_z a b ≡ t → (a ≤ℤ cond (le_z a b) b a) × (b ≤ℤ cond (le_z a b) b a)
      go true e = rw e (le_z_yes (subst T (sym e) tt), ≤ℤ_refl b)
      go false e = rw e (≤ℤ_refl a, reversed a b e)

  below : (smaller a b ≤ℤ a) × (smaller a b ≤ℤ b)
  unfolding smaller
  below = go (le_z a b) refl
    where
      go : (t : Bool) → le_z a b ≡ t → (cond (le_z a b) a b ≤ℤ a) × (cond (le_z a b) a b ≤ℤ b)
      go true e = rw e (≤ℤ_refl a, le_z_yes (subst T (sym e) tt))
      go false e = rw e (reversed a b e, ≤ℤ_refl b)

most : (z : ℤ) (zs : List ℤ) (k : ℕ) → k < length (z ∷ zs) → get_or (z ∷ zs) k (pos 0) ≤ℤ largest z zs
unfolding largest
most z [] zero i = ≤ℤ_refl z
most z [] (suc k) i = let never : ⊥ = omega arith in absurd never
most z (y ∷ ys) zero i = (above z (largest y ys)).0
most z (y ∷ ys) (suc k) i = ≤ℤ_trans (most y ys k (omega arith)) (above z (largest y ys)).1

least : (z : ℤ) (zs : List ℤ) (k : ℕ) → k < length (z ∷ zs) → smallest z zs ≤ℤ get_or (z ∷ zs) k (pos 0)
unfolding smallest
least z [] zero i = ≤ℤ_refl z
least z [] (suc k) i = let never : ⊥ = omega arith in absurd never
least z (y ∷ ys) zero i = (below z (smallest y ys)).0
least z (y ∷ ys) (suc k) i = ≤ℤ_trans (below z (smallest y ys)).1 (least y ys k (omega arith))

-- one of the numbers, by its place
record Among (zs : List ℤ) (m : ℤ) : Type 0 where
  place : ℕ
  inside : place < length zs
  is : get_or zs place (pos 0) ≡ m

first : (z : ℤ) (zs : List ℤ) → Among (z ∷ zs) z
first z zs = record { place = 0; inside = omega arith; is = refl }

behind : (z : ℤ) (zs : List ℤ) (m : ℤ) → Among zs m → Among (z ∷ zs) m
behind z zs m a = record { place = suc a.place; inside = omega (arith, a.inside); is = a.is }

either : (t : Bool) (zs : List ℤ) (a b : ℤ) → Among zs a → Among zs b → Among zs (cond t a b)
either true zs a b p q = p
either false zs a b p q = q

largest_among : (z : ℤ) (zs : List ℤ) → Among (z ∷ zs) (largest z zs)
unfolding largest larger
largest_among z [] = first z []
largest_among z (y ∷ ys) =
    either (le_z z (largest y ys)) (z ∷ y ∷ ys) (largest y ys) z (behind z (y ∷ ys) (largest y ys) (largest_among y ys)) (first z (y ∷ ys))

smallest_among : (z : ℤ) (zs : List ℤ) → Among (z ∷ zs) (smallest z zs)
unfolding smallest smaller
smallest_among z [] = first z []
smallest_among z (y ∷ ys) =
    either (le_z z (smallest y ys)) (z ∷ y ∷ ys) z (smallest y ys) (first z (y ∷ ys)) (behind z (y ∷ ys) (smallest y ys) (smallest_among y ys))

pub largest_right : (z : ℤ) (zs : List ℤ) → Largest (z ∷ zs) (largest z zs)
largest_right z zs =
    let a = largest_among z zs in
    record { place = a.place; inside = a.inside; among = a.is; most = most z zs }

pub smallest_right : (z : ℤ) (zs : List ℤ) → Smallest (z ∷ zs) (smallest z zs)
smallest_right z zs =
    let a = smallest_among z zs in
    record { place = a.place; inside = a.inside; among = a.is; least = least z zs }
