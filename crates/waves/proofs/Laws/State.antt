-- What a state that fits has, and the place after a place. Assumes nothing.
use mathlib.Core.Path.{◌≡◌, sym, ◌∙◌}
use mathlib.Core.Bool.{true, false, true≢false}
use Prim.Native.Nat.{ℕ, suc, ◌≤◌, ◌<◌}
use lib.Dec.{ltb}
use borrow.Author.Tests.{ltb-true, le-leb, lt-leb, lt-ltb, eq-eqb, ne_eqb}
use Rattle.settings.proofs.Laws.Cases.{by_order}
use Rattle.waves.specs.State.{size, next, fits, following}
use Rattle.waves.specs.declared.Waves.{Waves}

module _ (s : Waves) where
  pub too_many : 64 < size s → fits s ≡ false
  unfolding fits
  too_many i = rw (lt-leb (size s) 64 i)

  pub fit_by_next : size s ≤ 64 → fits s ≡ ltb (next s) (size s)
  unfolding fits
  fit_by_next i = rw (le-leb (size s) 64 i)

  pub fit : size s ≤ 64 → next s < size s → fits s ≡ true
  fit i k = fit_by_next i ∙ lt-ltb (next s) (size s) k

  pub inside_fit : fits s ≡ true → (size s ≤ 64) × (next s < size s)
  inside_fit e =
      by_order (size s) 64
      (λ i. (i, ltb-true (next s) (size s) (sym (fit_by_next i) ∙ e)))
      (λ i. absurd (true≢false (sym e ∙ too_many i)))

module _ (i n : ℕ) where
  pub after_last : suc i ≡ n → following i n ≡ 0
  unfolding following
  after_last e = rw (eq-eqb (suc i) n e)

  pub after_inner : (suc i ≡ n → ⊥) → following i n ≡ suc i
  unfolding following
  after_inner e = rw (ne_eqb (suc i) n e)
