-- The times of a closed wave are within the latest, and its seam has their halves. Assumes nothing.
use mathlib.Core.Path.{◌≡◌, refl, sym, ◌∙◌}
use mathlib.Core.Bool.{Bool, true, false}
use Prim.Native.Nat.{ℕ, ◌≤◌}
use native.Mathlib.Omega.{arith}
use borrow.Author.Tests.{ltb-false}
use Rattle.std.specs.Prelude.{Result, Ok, Err}
use Rattle.settings.specs.declared.refusal.Refusal.{Refusal}
use Rattle.settings.specs.declared.refusal.Refusal.TheVariants.{LateSide}
use Rattle.seam.specs.Seam.{latest, halves, late, joined, seam_of}
use Rattle.seam.specs.declared.Halves.{Halves}
use Rattle.seam.specs.declared.Seam.{Seam}
use Rattle.seam.specs.declared.Seam.TheVariants.{Closed}
use Rattle.seam.proofs.Laws.{refused_left, refused_right, accepted}

-- a seam that is turned away is not closed
not_closed : {C : Type 0} (s : Result Seam Refusal) (h : Halves) → s ≡ Err LateSide → s ≡ Ok (Closed h) → C
not_closed s h p q = let never : ⊥ = cc in absurd never

not_late : (t : ℕ) → late t false ≡ false → t ≤ latest
unfolding late
not_late t e = ltb-false latest t e

-- a seam of two tiles is closed where both are correct, and has their halves
both_correct : (lf rf : Bool) (g h : Halves) → ◌≡◌ {A = Result Seam Refusal} (Ok (joined lf rf g)) (Ok (Closed h)) → (lf ≡ false) × (rf ≡ false) × (h ≡ g)
unfolding joined
both_correct false false g h e = (refl, refl, cc)
both_correct true false g h e = let never : ⊥ = cc in absurd never
both_correct false true g h e = let never : ⊥ = cc in absurd never
both_correct true true g h e = let never : ⊥ = cc in absurd never

module _ (l : ℕ) (lf : Bool) (r : ℕ) (rf : Bool) (h : Halves) (e : seam_of l lf r rf ≡ Ok (Closed h)) where
  closed_as : (l ≤ latest) × (r ≤ latest) × (h ≡ halves l r)
  closed_as = go (late l lf) (late r rf) refl refl
    where
      go : (a b : Bool) → late l lf ≡ a → late r rf ≡ b → (l ≤ latest) × (r ≤ latest) × (h ≡ halves l r)
      go true b p q = not_closed (seam_of l lf r rf) h (refused_left l lf r rf p) e
      go false true p q = not_closed (seam_of l lf r rf) h (refused_right l lf r rf q) e
      go false false p q =
          let c = both_correct lf rf (halves l r) h (sym (accepted l lf r rf p q) ∙ e) in
          (not_late l (rw c.0 at p), not_late r (rw c.1 at q), c.2)

  pub closed_times : (l ≤ latest) × (r ≤ latest)
  closed_times = (closed_as.0, closed_as.1)

  pub closed_halves : h ≡ halves l r
  closed_halves = closed_as.2
