-- What holds of each character of a text (`all_are`): of one text behind another, and at a place. Assumes nothing.
use mathlib.Core.Path.{◌≡◌, refl, sym}
use mathlib.Core.Bool.{Bool, true, false, ◌&&◌, true≢false}
use mathlib.Core.List.{List, [], ◌∷◌, ◌++◌}
use Prim.Native.Nat.{ℕ, zero, suc, ◌<◌}
use native.Mathlib.Omega.{arith}
use lib.ListN.{length, get_or}
use Rattle.lines.specs.Promises.{all_are}

pub both : (a b : Bool) → (a && b) ≡ true → (a ≡ true) × (b ≡ true)
both true b e = (refl, e)
both false b e = absurd (true≢false (sym e))

module _ (f : ℕ → Bool) where
  pub all_then : (gs hs : List ℕ) → all_are f gs ≡ true → all_are f hs ≡ true → all_are f (gs ++ hs) ≡ true
  unfolding all_are
  all_then [] hs e d = d
  all_then (g ∷ gs) hs e d = let k = both (f g) (all_are f gs) e in rw k.0 (all_then gs hs k.1 d)

  pub all_at : (gs : List ℕ) (i : ℕ) → all_are f gs ≡ true → i < length gs → f (get_or gs i 0) ≡ true
  unfolding all_are
  all_at [] i e j = absurd (omega (arith, j))
  all_at (g ∷ gs) zero e j = (both (f g) (all_are f gs) e).0
  all_at (g ∷ gs) (suc i) e j = all_at gs i (both (f g) (all_are f gs) e).1 (omega (arith, j))
