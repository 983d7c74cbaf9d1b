-- What is known of the senders, by the events: an event more is what `heard_by` makes of it. Assumes nothing.
use mathlib.Core.Path.{◌≡◌, refl, sym, ◌∙◌, ap}
use mathlib.Core.Bool.{true, false}
use mathlib.Core.List.{List, [], ◌∷◌, ◌++◌, map}
use Prim.Native.Nat.{ℕ, ◌+◌, ◌≤◌, ◌<◌}
use native.Mathlib.Omega.{arith}
use borrow.Author.Tests.{eq-eqb, ne_eqb, le-leb}
use Rattle.settings.proofs.Laws.Cases.{by_order, by_equal}
use Rattle.rule.specs.Stamp.{Stamp, heard, silent, silence, stamp_of, code_of}
use Rattle.rule.proofs.Laws.Stamp.{By, heard_by as by, unheard}
use Rattle.rule.proofs.Laws.Coded.{code_stamp}
use Rattle.senders.specs.Senders.{last, neighbours, code_at, stamp_at, neighbour_stamps, is_heard, heard_by, stamp_fits, fit}
use Rattle.board.specs.Events.{Event, pulse, close}
use Rattle.board_runs.specs.Reading.{closes, first_pulse, neighbour_pulses, senders_of}
use Rattle.board_runs.proofs.Laws.Events.{first_between, first_new, first_kept, first_other, first_closed}
use Rattle.board_runs.proofs.Laws.Places.{place_of, place_past, places_same, places_set}

-- a claim of two neighbours or three, by each
pub by_count {ℓ} : {C : Type ℓ} (n : ℕ) → 2 ≤ n → n ≤ 3 → (n ≡ 2 → C) → (n ≡ 3 → C) → C
by_count n i k f g = by_order 3 n (λ p. g (omega arith)) (λ p. f (omega arith))

map_two : (f : ℕ → Stamp) (n : ℕ) → n ≡ 2 → map f (neighbours n) ≡ f 1 ∷ f 2 ∷ []
unfolding neighbours
map_two f n e = rw e

map_three : (f : ℕ → Stamp) (n : ℕ) → n ≡ 3 → map f (neighbours n) ≡ f 1 ∷ f 2 ∷ f 3 ∷ []
unfolding neighbours
map_three f n e = rw e

-- the numbers of the senders' stamps
abbrev codes : (reading : ℕ) → List Event → ℕ → ℕ
codes v es k = code_of (first_pulse v k es)

stamp_fit : {x : Stamp} → By last x → stamp_fits (code_of x) ≡ true
unfolding stamp_fits code_of
stamp_fit (by {a = a} p) = rw (ne_eqb a silence (λ q. omega arith), le-leb a last p)
stamp_fit unheard = refl

module _ (n v : ℕ) (two : 2 ≤ n) (three : n ≤ 3) (es : List Event) where
  at_place : (k : ℕ) → k ≤ n → code_at (senders_of n v es) k ≡ code_of (first_pulse v k es)
  unfolding code_at senders_of
  at_place k i = place_of n silence (codes v es) k three i

  past_fit : (k : ℕ) → k ≤ 3 → n < k → stamp_fits (code_at (senders_of n v es) k) ≡ true
  unfolding code_at senders_of stamp_fits
  past_fit k i p = rw (place_past n silence (codes v es) k i p)

  -- a sender is heard once its first pulse has come
  pub not_heard : (k : ℕ) → k ≤ n → first_pulse v k es ≡ silent → is_heard (senders_of n v es) k ≡ false
  unfolding is_heard code_of
  not_heard k i e = rw (eq-eqb (code_at (senders_of n v es) k) silence (at_place k i ∙ rw e))

  pub is_known : (k : ℕ) {a : ℕ} → k ≤ n → first_pulse v k es ≡ heard a → v + closes es ≤ last → is_heard (senders_of n v es) k ≡ true
  unfolding is_heard
  is_known k {a} i e small = rw (ne_eqb (code_at (senders_of n v es) k) silence known)
    where
      bounded : By (v + closes es) (heard a) → a ≤ v + closes es
      bounded (by p) = p

      known : code_at (senders_of n v es) k ≡ silence → ⊥
      known q =
          let c : code_at (senders_of n v es) k ≡ a = at_place k i ∙ (unfold code_of in rw e) in
          omega (arith, bounded (rw e at (first_between v k es).by))

  -- a first pulse
  pub heard_new : (k : ℕ) → k ≤ n → first_pulse v k es ≡ silent → heard_by (senders_of n v es) k (v + closes es) ≡ senders_of n v (es ++ pulse k ∷ [])
  unfolding heard_by senders_of code_of
  heard_new k i e =
      rw (
        not_heard k i e,
        ← places_set n silence (codes v es) (codes v (es ++ pulse k ∷ [])) k (v + closes es) three i
            (ap code_of (first_new v k es e))
            (λ j q. ap code_of (first_other v j es k q)),
      )

  -- a repeat
  pub heard_again : (k : ℕ) {a : ℕ} → k ≤ n → first_pulse v k es ≡ heard a → v + closes es ≤ last →
      heard_by (senders_of n v es) k (v + closes es) ≡ senders_of n v (es ++ pulse k ∷ [])
  unfolding heard_by senders_of
  heard_again k i e small =
      rw (is_known k i e small, ← places_same n silence (codes v es) (codes v (es ++ pulse k ∷ [])) (λ j p. ap code_of (same j)))
    where
      same : (j : ℕ) → first_pulse v j (es ++ pulse k ∷ []) ≡ first_pulse v j es
      same j = by_equal k j (λ q. rw (← q) (first_kept v k es (pulse k ∷ []) e ∙ sym e)) (λ q. first_other v j es k q)

  -- a pulse from no predecessor, and a close
  pub heard_wrong : (k : ℕ) → n < k → senders_of n v (es ++ pulse k ∷ []) ≡ senders_of n v es
  unfolding senders_of
  heard_wrong k i =
      rw (places_same n silence (codes v es) (codes v (es ++ pulse k ∷ [])) (λ j p. ap code_of (first_other v j es k (λ q. omega arith))))

  pub heard_close : senders_of n v (es ++ close ∷ []) ≡ senders_of n v es
  unfolding senders_of
  heard_close = rw (places_same n silence (codes v es) (codes v (es ++ close ∷ [])) (λ j p. ap code_of (first_closed v j es)))

  -- the stamps so far, while the open reading is one that opens
  module _ (small : v + closes es ≤ last) where
    by_last : (x : Stamp) → By (v + closes es) x → By last x
    by_last (heard a) (by p) = by {a = a} (omega arith)
    by_last silent unheard = unheard

    pub stamp_is : (k : ℕ) → k ≤ n → stamp_at (senders_of n v es) k ≡ first_pulse v k es
    unfolding stamp_at
    stamp_is k i = ap stamp_of (at_place k i) ∙ code_stamp {hi = last} (omega arith) (by_last (first_pulse v k es) (first_between v k es).by)

    pub neighbours_are : neighbour_stamps (senders_of n v es) ≡ neighbour_pulses n v es
    unfolding neighbour_stamps neighbour_pulses senders_of
    neighbours_are =
        let f : ℕ → Stamp = stamp_at (senders_of n v es) in
        let g : ℕ → Stamp = λ k. first_pulse v k es in
        by_count n two three
        (λ q. map_two f n q ∙ rw (stamp_is 1 (omega arith), stamp_is 2 (omega arith)) (sym (map_two g n q)))
        (λ q. map_three f n q ∙ rw (stamp_is 1 (omega arith), stamp_is 2 (omega arith), stamp_is 3 (omega arith)) (sym (map_three g n q)))

    code_fits : (k : ℕ) → k ≤ 3 → stamp_fits (code_at (senders_of n v es) k) ≡ true
    code_fits k i = by_order k n
        (λ p. rw (at_place k p) (stamp_fit (by_last (first_pulse v k es) (first_between v k es).by)))
        (λ p. past_fit k i p)

    pub fit_is : fit (senders_of n v es) ≡ true
    unfolding fit senders_of
    fit_is =
        rw (
          code_fits 0 (omega arith),
          code_fits 1 (omega arith),
          code_fits 2 (omega arith),
          code_fits 3 (omega arith),
          le-leb 2 n two,
          le-leb n 3 three,
        )
