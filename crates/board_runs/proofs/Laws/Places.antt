-- Numbers at four places, for own and up to three neighbours: those of senders, and what a place past the count holds. Assumes nothing.
use mathlib.Core.Path.{◌≡◌, refl, ◌∙◌}
use mathlib.Core.Bool.{cond}
use mathlib.Core.List.{List, [], ◌∷◌, map}
use Prim.Native.Nat.{ℕ, zero, suc, ◌≤◌, ◌<◌}
use lib.Dec.{leb}
use lib.ListN.{get_or, set, replicate}
use native.Mathlib.Omega.{arith}
use borrow.Author.Tests.{le-leb, lt-leb}
use Rattle.settings.proofs.Laws.Cases.{by_order}
use Rattle.board_runs.specs.Reading.{at_places}

abbrev four : (ℕ → ℕ) → List ℕ
four f = map f (0 ∷ 1 ∷ 2 ∷ 3 ∷ [])

four_same : (f g : ℕ → ℕ) → ((k : ℕ) → g k ≡ f k) → four g ≡ four f
four_same f g e = rw (e 0, e 1, e 2, e 3)

four_set : (f g : ℕ → ℕ) (j w : ℕ) → j ≤ 3 → g j ≡ w → ((k : ℕ) → (j ≡ k → ⊥) → g k ≡ f k) → four g ≡ set (four f) j w
four_set f g zero w i e o = rw (e, o 1 (λ q. omega arith), o 2 (λ q. omega arith), o 3 (λ q. omega arith))
four_set f g (suc zero) w i e o = rw (o 0 (λ q. omega arith), e, o 2 (λ q. omega arith), o 3 (λ q. omega arith))
four_set f g (suc (suc zero)) w i e o = rw (o 0 (λ q. omega arith), o 1 (λ q. omega arith), e, o 3 (λ q. omega arith))
four_set f g (suc (suc (suc zero))) w i e o = rw (o 0 (λ q. omega arith), o 1 (λ q. omega arith), o 2 (λ q. omega arith), e)
four_set f g (suc (suc (suc (suc j)))) w i e o = let never : ⊥ = omega arith in absurd never

four_at : (f : ℕ → ℕ) (j : ℕ) → j ≤ 3 → get_or (four f) j 0 ≡ f j
four_at f zero i = refl
four_at f (suc zero) i = refl
four_at f (suc (suc zero)) i = refl
four_at f (suc (suc (suc zero))) i = refl
four_at f (suc (suc (suc (suc j)))) i = let never : ⊥ = omega arith in absurd never

module _ (n d : ℕ) (f : ℕ → ℕ) where
  abbrev at : ℕ → ℕ
  at k = cond (leb k n) (f k) d

  of_sender : (k : ℕ) → k ≤ n → at k ≡ f k
  of_sender k i = rw (le-leb k n i)

  past : (k : ℕ) → n < k → at k ≡ d
  past k i = rw (lt-leb k n i)

  -- what a place holds
  pub place_of : (k : ℕ) → n ≤ 3 → k ≤ n → get_or (at_places n d f) k 0 ≡ f k
  unfolding at_places
  place_of k three i = four_at at k (omega arith) ∙ of_sender k i

  pub place_past : (k : ℕ) → k ≤ 3 → n < k → get_or (at_places n d f) k 0 ≡ d
  unfolding at_places
  place_past k three i = four_at at k three ∙ past k i

  pub places_none : ((k : ℕ) → f k ≡ d) → at_places n d f ≡ replicate 4 d
  unfolding at_places
  places_none e = four_same (λ k. d) at (λ k. by_order k n (λ i. of_sender k i ∙ e k) (past k))

-- where no sender's number changes, and where one does
module _ (n d : ℕ) (f g : ℕ → ℕ) where
  pub places_same : ((k : ℕ) → k ≤ n → g k ≡ f k) → at_places n d g ≡ at_places n d f
  unfolding at_places
  places_same e = four_same (at n d f) (at n d g) (λ k. by_order k n (λ i. rw (le-leb k n i) (e k i)) (λ i. rw (lt-leb k n i)))

  pub places_set : (j w : ℕ) → n ≤ 3 → j ≤ n → g j ≡ w → ((k : ℕ) → (j ≡ k → ⊥) → g k ≡ f k) → at_places n d g ≡ set (at_places n d f) j w
  unfolding at_places
  places_set j w three i e o = four_set (at n d f) (at n d g) j w (omega arith) (of_sender n d g j i ∙ e) (λ k q. rw (o k q))
