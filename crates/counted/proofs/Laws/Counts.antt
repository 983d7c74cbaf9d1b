-- Repeats by the events, and with them the counts: a repeat raises its sender's, and no other event raises any. Assumes nothing.
use mathlib.Core.Path.{◌≡◌, refl, sym, ◌∙◌, ap}
use mathlib.Core.Bool.{Bool, true, false, cond}
use mathlib.Core.List.{List, [], ◌∷◌, ◌++◌}
use Prim.Native.Nat.{ℕ, suc, ◌+◌, ◌≤◌, ◌<◌, min}
use lib.Dec.{eqb}
use lib.ListN.{replicate}
use native.Mathlib.Omega.{arith}
use borrow.Author.Tests.{eq-eqb, ne_eqb}
use Rattle.settings.proofs.Laws.Cases.{by_equal}
use Rattle.rule.specs.Stamp.{heard, silent}
use Rattle.board.specs.Events.{Event, pulse, close}
use Rattle.board_runs.specs.Reading.{first_pulse}
use Rattle.board_runs.proofs.Laws.Events.{not_silent}
use Rattle.board_runs.proofs.Laws.Places.{place_of, places_none, places_same, places_set}
use Rattle.counted.specs.State.{most, one_more, raised}
use Rattle.counted.specs.Reading.{pulses_of, repeats_of, count_of, counts_in}

-- pulses are counted
pulses_++ : (k : ℕ) (es fs : List Event) → pulses_of k (es ++ fs) ≡ pulses_of k es + pulses_of k fs
unfolding pulses_of
pulses_++ k [] fs = omega arith
pulses_++ k (pulse j ∷ es) fs = pick (eqb j k) (pulses_++ k es fs)
  where
    pick : (b : Bool) → pulses_of k (es ++ fs) ≡ pulses_of k es + pulses_of k fs →
        cond b (suc (pulses_of k (es ++ fs))) (pulses_of k (es ++ fs)) ≡ cond b (suc (pulses_of k es)) (pulses_of k es) + pulses_of k fs
    pick true e = omega arith
    pick false e = e
pulses_++ k (close ∷ es) fs = pulses_++ k es fs

-- none where the sender is silent, and one or more where it is heard
none_of : (v k : ℕ) (es : List Event) → first_pulse v k es ≡ silent → pulses_of k es ≡ 0
unfolding first_pulse pulses_of
none_of v k [] e = refl
none_of v k (pulse j ∷ es) e = pick (eqb j k) (none_of v k es) e
  where
    pick : (b : Bool) → (first_pulse v k es ≡ silent → pulses_of k es ≡ 0) → cond b (heard v) (first_pulse v k es) ≡ silent →
        cond b (suc (pulses_of k es)) (pulses_of k es) ≡ 0
    pick true f e = absurd (not_silent e)
    pick false f e = f e
none_of v k (close ∷ es) e = none_of (suc v) k es e

some_of : (v k : ℕ) {a : ℕ} (es : List Event) → first_pulse v k es ≡ heard a → 0 < pulses_of k es
unfolding first_pulse pulses_of
some_of v k [] e = absurd (not_silent (sym e))
some_of v k {a} (pulse j ∷ es) e = pick (eqb j k) (some_of v k es) e
  where
    pick : (b : Bool) → (first_pulse v k es ≡ heard a → 0 < pulses_of k es) → cond b (heard v) (first_pulse v k es) ≡ heard a →
        0 < cond b (suc (pulses_of k es)) (pulses_of k es)
    pick true f e = omega arith
    pick false f e = f e
some_of v k (close ∷ es) e = some_of (suc v) k es e

-- one more by its own pulse, and by no other event
module _ (k : ℕ) (es : List Event) where
  pulses_more : pulses_of k (es ++ pulse k ∷ []) ≡ pulses_of k es + 1
  unfolding pulses_of
  pulses_more = pulses_++ k es (pulse k ∷ []) ∙ rw (eq-eqb k k refl)

  pulses_other : (j : ℕ) → (j ≡ k → ⊥) → pulses_of k (es ++ pulse j ∷ []) ≡ pulses_of k es
  unfolding pulses_of
  pulses_other j n = pulses_++ k es (pulse j ∷ []) ∙ rw (ne_eqb j k n) (omega arith)

  pulses_closed : pulses_of k (es ++ close ∷ []) ≡ pulses_of k es
  unfolding pulses_of
  pulses_closed = pulses_++ k es (close ∷ []) ∙ omega arith

  -- so are repeats, past the first
  repeats_new : (v : ℕ) → first_pulse v k es ≡ silent → repeats_of k (es ++ pulse k ∷ []) ≡ repeats_of k es
  unfolding repeats_of
  repeats_new v e = omega (arith, pulses_more, none_of v k es e)

  repeats_more : (v : ℕ) {a : ℕ} → first_pulse v k es ≡ heard a → repeats_of k (es ++ pulse k ∷ []) ≡ suc (repeats_of k es)
  unfolding repeats_of
  repeats_more v e = omega (arith, pulses_more, some_of v k es e)

  repeats_other : (j : ℕ) → (j ≡ k → ⊥) → repeats_of k (es ++ pulse j ∷ []) ≡ repeats_of k es
  unfolding repeats_of
  repeats_other j n = omega (arith, pulses_other j n)

  repeats_closed : repeats_of k (es ++ close ∷ []) ≡ repeats_of k es
  unfolding repeats_of
  repeats_closed = omega (arith, pulses_closed)

-- no event, no count
pub counts_none : (n : ℕ) → counts_in n [] ≡ replicate 4 0
unfolding counts_in count_of repeats_of pulses_of
counts_none n = places_none n 0 (λ k. count_of k []) (λ k. refl)

module _ (n : ℕ) (es : List Event) where
  -- where no sender repeats the counts stay
  same : (fs : List Event) → ((j : ℕ) → j ≤ n → repeats_of j fs ≡ repeats_of j es) → counts_in n fs ≡ counts_in n es
  unfolding counts_in count_of
  same fs e = places_same n 0 (λ j. count_of j es) (λ j. count_of j fs) (λ j i. ap (λ (m : ℕ). min m most) (e j i))

  -- a first pulse
  pub counts_new : (v k : ℕ) → first_pulse v k es ≡ silent → counts_in n (es ++ pulse k ∷ []) ≡ counts_in n es
  counts_new v k e = same (es ++ pulse k ∷ []) (λ j i. by_equal k j (λ q. rw (← q) (repeats_new k es v e)) (λ q. repeats_other j es k q))

  -- a repeat
  pub counts_more : (v k : ℕ) {a : ℕ} → n ≤ 3 → k ≤ n → first_pulse v k es ≡ heard a → counts_in n (es ++ pulse k ∷ []) ≡ raised (counts_in n es) k
  unfolding counts_in raised
  counts_more v k three i e =
      rw (place_of n 0 (λ j. count_of j es) k three i)
      (places_set n 0 (λ j. count_of j es) (λ j. count_of j (es ++ pulse k ∷ [])) k (one_more (count_of k es)) three i more other)
    where
      more : count_of k (es ++ pulse k ∷ []) ≡ one_more (count_of k es)
      more = unfold count_of one_more in omega (arith, repeats_more k es v e)

      other : (j : ℕ) → (k ≡ j → ⊥) → count_of j (es ++ pulse k ∷ []) ≡ count_of j es
      other j q = unfold count_of in omega (arith, repeats_other j es k q)

  -- a pulse from no predecessor, and a close
  pub counts_wrong : (k : ℕ) → n < k → counts_in n (es ++ pulse k ∷ []) ≡ counts_in n es
  counts_wrong k i = same (es ++ pulse k ∷ []) (λ j p. repeats_other j es k (λ q. omega arith))

  pub counts_closed : counts_in n (es ++ close ∷ []) ≡ counts_in n es
  counts_closed = same (es ++ close ∷ []) (λ j p. repeats_closed j es)
