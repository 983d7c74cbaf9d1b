-- The proofs of what specs/Promises.antt states. Assumes nothing.
use mathlib.Core.Path.{◌≡◌, refl, sym, subst}
use mathlib.Core.Bool.{true}
use Prim.Native.Nat.{ℕ, suc}
use native.Mathlib.Omega.{arith}
use borrow.Author.Tests.{eq-eqb, ne_eqb}
use lib.ListN.{length}
use Rattle.std.specs.Prelude.{Option, Some, None}
use Rattle.settings.specs.Settings.{settings_cause, settings_refusal}
use Rattle.settings.specs.declared.Settings.{Settings}
use Rattle.settings.specs.declared.refusal.Refusal.{Refusal}
use Rattle.settings.proofs.Laws.Cases.{by_order, by_equal}
use Rattle.columns.specs.Marks.{mark_bytes}
use Rattle.seam.specs.Promises.{HalvesExact}
use Rattle.seam.proofs.Promises.{halves_exact}
use Rattle.places.specs.Seams.{other_lengths}
use Rattle.places.proofs.Laws.Seams.{left_first, left_inner, left_last, right_first, right_inner, right_last}
use Rattle.wide.specs.Wide.{wide_of}
use Rattle.wide.specs.Promises.{HalfGapHeld, FirstAnswered, OrderBoth}
use Rattle.wide.proofs.Laws.Seam.{half_ticks_is, settings_wrong, lengths_wrong, row_lent}
use Rattle.wide.proofs.Laws.First.{From, all}

pub half_gap_held : HalfGapHeld
unfolding HalfGapHeld HalvesExact
half_gap_held l r i j = rw (half_ticks_is l r) (halves_exact l r i j).half_gap

-- other lengths than the row's
lengths_other : (w n m : ℕ) → ((n ≡ w) × (m ≡ mark_bytes w) → ⊥) → other_lengths w n m ≡ true
unfolding other_lengths
lengths_other w n m k =
    by_equal n w
    (λ e. rw (eq-eqb n w e, ne_eqb m (mark_bytes w) (λ f. k (e, f))))
    (λ j. rw (ne_eqb n w j))

-- settings that are turned away have a refusal
given : (s : Settings) → (settings_refusal s ≡ 0 → ⊥) → (r : Refusal) × (settings_cause s ≡ Some r)
unfolding settings_refusal
given s n = go (settings_cause s) refl
  where
    go : (c : Option Refusal) → settings_cause s ≡ c → (r : Refusal) × (settings_cause s ≡ Some r)
    go None e = absurd (n (rw e))
    go (Some r) e = (r, e)

pub first_answered : FirstAnswered
unfolding FirstAnswered wide_of settings_refusal
first_answered s ts ms n = (
  λ k. let g = given s k in rw (settings_wrong s ts ms n g.0 g.1, g.1) (refl, refl),
  λ pass k. rw (lengths_wrong s ts ms n pass (lengths_other s.width (length ts) (length ms) k)) (refl, refl),
  λ pass e f.
      let is = row_lent s ts ms n pass e f in
      let a = subst (From n s.width ts ms) (sym is) (all n s.width ts ms) in
      record { wide = a.wide; none_wide = a.none_wide; late = a.late },
)

-- the columns of a seam and of the next
pub order_both : OrderBoth
unfolding OrderBoth
order_both w i a b =
    by_order 2 i
    (λ j. by_order w (suc i)
    (λ k. (omega (arith, left_last w i j k, left_last w (suc i) (omega arith) (omega arith)), omega (arith, right_inner w i j b, right_last w (suc i) (omega arith) k)))
    (λ k. by_order w (suc (suc i))
    (λ l. (omega (arith, left_inner w i j k, left_last w (suc i) (omega arith) l), omega (arith, right_inner w i j b, right_inner w (suc i) (omega arith) k)))
    (λ l. (omega (arith, left_inner w i j k, left_inner w (suc i) (omega arith) l), omega (arith, right_inner w i j b, right_inner w (suc i) (omega arith) k)))))
    (λ j. by_order 1 i
    (λ k. (omega (arith, left_first w i j), omega (arith, right_first w i j, right_inner w (suc i) (omega (arith, k)) (omega (arith, a, j)))))
    (λ k. (omega (arith, left_first w i j), omega (arith, right_first w i j, right_first w (suc i) (omega (arith, k))))))
