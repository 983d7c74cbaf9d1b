-- A tile's pulse: it depends on its predecessors' stamps alone, moves at most one tick more than they do, and lies within
-- 2B + 8h of where any one of them, arbitrary or silent, can push it. Assumes nothing.
use mathlib.Core.Path.{◌≡◌, refl, sym, ◌∙◌, ap}
use mathlib.Core.Bool.{true, false, true≢false}
use mathlib.Core.List.{List, [], ◌∷◌, map}
use Prim.Native.Nat.{ℕ, ◌+◌, ◌-◌, ◌*◌, ◌≤◌, ◌<◌}
use lib.ListN.{get_or}
use native.Mathlib.Omega.{arith}
use borrow.Author.Tests.{ne_eqb}
use Rattle.rule.specs.Clock.{phase_most, reads, first_tick}
use Rattle.rule.specs.Stamp.{Stamp, heard, silent, ◌≼◌, in_order, last, ◌≼*◌, after, FromTo, within, unheard_of, unheard_in}
use Rattle.rule.specs.Pulse.{tile_P, tile_pulse}
use Rattle.rule.specs.Promises.{PMonotone, PShifts, OneFree, own_free, neighbour_free, Envelope}
use Rattle.settings.specs.declared.Settings.{Settings}
use Rattle.rule.proofs.Promises.{p_monotone, p_shifts, envelope}
use Rattle.settings.proofs.Laws.Cases.{by_equal}
use Rattle.rule.proofs.Laws.Clock.{moves, reads_mono, reads_step, first_mono, first_step, moves_add}
use Rattle.settings.proofs.Laws.Settings.{Limits, limits}
use Rattle.columns.specs.Columns.{are_neighbours, neighbours, is_predecessor, link}
use Rattle.admission.specs.Call.{Call}
use Rattle.columns.specs.Marks.{marked}
use Rattle.pulse.specs.Pulse.{arrives, arrival, stamp, pulse}
use Rattle.columns.proofs.Laws.Columns.{own, beside, strangers}
use Rattle.columns.proofs.Laws.Lists.{by_test, columns_same, columns_ordered, columns_all, columns_but_one}
use Rattle.admission.proofs.Laws.Accepted.{Accepted}
use Rattle.pulse.proofs.Laws.Stamps.{correct_heard, few_silent, tile_of}

-- a claim of each predecessor of a tile
abbrev pub Predecessors : (w c : ℕ) → (ℕ → Type 0) → Type 0
Predecessors w c Q = (k : ℕ) → k < w → is_predecessor w c k ≡ true → Q k

-- tile c has the same clock in both calls
pub record SameClock (x y : Call) (c : ℕ) : Type 0 where
  pub drift : get_or x.drifts c 0 ≡ get_or y.drifts c 0
  pub phase : get_or x.phases c 0 ≡ get_or y.phases c 0

pub same_clock : {x y : Call} → x.drifts ≡ y.drifts → x.phases ≡ y.phases → (c : ℕ) → SameClock x y c
same_clock d q c = record { drift = ap (λ (ds : List ℕ). get_or ds c 0) d; phase = ap (λ (qs : List ℕ). get_or qs c 0) q }

pub other_way : {x y : Call} {c : ℕ} → SameClock x y c → SameClock y x c
other_way d = record { drift = sym d.drift; phase = sym d.phase }

-- the same stamps and clock give the same pulse
pub pulse_same : (s : Settings) (ts ts' : List ℕ) (x y : Call) (c : ℕ) → c < s.width → SameClock x y c →
    Predecessors s.width c (λ k. stamp s.width ts x c k ≡ stamp s.width ts' y c k) → pulse s ts x c ≡ pulse s ts' y c
unfolding pulse neighbours
pulse_same s ts ts' x y c i d e =
    rw (
      d.drift,
      d.phase,
      e c i (own s.width c c refl),
      columns_same (are_neighbours s.width c) (stamp s.width ts x c) (stamp s.width ts' y c) s.width 0
          (λ k j l t. e k (omega arith) (beside s.width c k t)),
    )

-- shifting stamps
map_after : (n : ℕ) (f : ℕ → Stamp) (ks : List ℕ) → map (λ k. after n (f k)) ks ≡ map (after n) (map f ks)
map_after n f [] = refl
map_after n f (k ∷ ks) = ap (λ l. after n (f k) ∷ l) (map_after n f ks)

unheard_after : (n : ℕ) (x : Stamp) → unheard_of (after n x) ≡ unheard_of x
unfolding unheard_of after
unheard_after n (heard a) = refl
unheard_after n silent = refl

unheard_all : (n : ℕ) (xs : List Stamp) → unheard_in (map (after n) xs) ≡ unheard_in xs
unfolding unheard_in
unheard_all n [] = refl
unheard_all n (x ∷ xs) = rw (unheard_after n x, unheard_all n xs)

-- the stamps of a tile's own column and of its neighbours
abbrev own_of : Settings → List ℕ → Call → ℕ → Stamp
own_of s ts x c = stamp s.width ts x c c

abbrev others_of : Settings → List ℕ → Call → ℕ → List Stamp
others_of s ts x c = map (stamp s.width ts x c) (neighbours s.width c)

-- stamps that come at most `moves p n` later give a pulse at most n + 1 later, and none earlier gives no earlier pulse
module _ {s : Settings} {ts ts' : List ℕ} {x y : Call} (r : Accepted s ts x) (r' : Accepted s ts' y) (c : ℕ) (i : c < s.width)
    (d : SameClock x y c) where
  P_later : (n : ℕ) → Predecessors s.width c (λ k. stamp s.width ts' y c k ≼ after n (stamp s.width ts x c k)) →
      tile_P s (own_of s ts' y c) (others_of s ts' y c) ≤ tile_P s (own_of s ts x c) (others_of s ts x c) + n
  unfolding PMonotone PShifts
  P_later n e =
      rw (← p_shifts s (own_of s ts x c) (others_of s ts x c) n (tile_of r c i (stamp s.width ts x c)) (few_silent r c i))
      (p_monotone s (own_of s ts' y c) (after n (own_of s ts x c)) (others_of s ts' y c) (map (after n) (others_of s ts x c))
      (tile_of r' c i (stamp s.width ts' y c)) (e c i (own s.width c c refl))
      (rw (← map_after n (stamp s.width ts x c) (neighbours s.width c)) in_order_all)
      (rw (unheard_after n (own_of s ts x c), unheard_all n (others_of s ts x c)) (few_silent r c i)))
    where
      in_order_all : map (stamp s.width ts' y c) (neighbours s.width c) ≼* map (λ k. after n (stamp s.width ts x c k)) (neighbours s.width c)
      in_order_all =
          unfold neighbours in
          columns_ordered (are_neighbours s.width c) (stamp s.width ts' y c) (λ k. after n (stamp s.width ts x c k)) s.width 0
          (λ k j l t. e k (omega arith) (beside s.width c k t))

  pub pulse_later : (n : ℕ) →
      Predecessors s.width c (λ k. stamp s.width ts' y c k ≼ after (moves (get_or x.drifts c 0) n) (stamp s.width ts x c k)) →
      pulse s ts' y c ≤ pulse s ts x c + n + 1
  unfolding pulse tile_pulse
  pulse_later n e =
      let p = get_or x.drifts c 0 in
      let k = (limits s r.settings).hold.0 in
      rw (← d.drift, ← d.phase)
      (first_step p (get_or x.phases c 0) n (tile_P s (own_of s ts x c) (others_of s ts x c) + s.hold) (omega (arith, r.in_phase c i)) (omega (arith, P_later (moves p n) e)))

  pub pulse_not_earlier : Predecessors s.width c (λ k. stamp s.width ts' y c k ≼ stamp s.width ts x c k) → pulse s ts' y c ≤ pulse s ts x c
  unfolding pulse tile_pulse
  pulse_not_earlier e =
      rw (← d.drift, ← d.phase)
      (first_mono (get_or x.drifts c 0) (get_or x.phases c 0)
      (omega (arith, P_later 0 (λ k j t. at_once (stamp s.width ts x c k) (e k j t)))))
    where
      at_once : (z : Stamp) {v : Stamp} → v ≼ z → v ≼ after 0 z
      at_once (heard a) (in_order {a = b} q) = unfold after in in_order {a = b} {b = a + 0} (omega arith)
      at_once silent q = unfold after in last

-- a sender that is alike in both calls but for its time
pub record Like (s : Settings) (ts ts' : List ℕ) (x y : Call) (c n k : ℕ) : Type 0 where
  pub mark : marked x.marks k ≡ marked y.marks k
  pub value : link s.width x.links c k ≡ link s.width y.links c k
  pub time : marked x.marks k ≡ false → get_or ts' k 0 ≤ get_or ts k 0 + n

after_later : (n : ℕ) (z : Stamp) → z ≼ after n z
unfolding after
after_later n (heard a) = in_order {a = a} {b = a + n} (omega arith)
after_later n silent = last

-- what is faulty alike arrives alike, whatever the times
faulty_alike : (s : Settings) (ts ts' : List ℕ) (x y : Call) (c k : ℕ) → SameClock x y c →
    marked x.marks k ≡ true → marked y.marks k ≡ true → link s.width x.links c k ≡ link s.width y.links c k →
    stamp s.width ts x c k ≡ stamp s.width ts' y c k
unfolding stamp arrival arrives
faulty_alike s ts ts' x y c k d m m' e = rw (d.drift, d.phase, m, m', e)

module _ {s : Settings} {ts ts' : List ℕ} {x y : Call} (r : Accepted s ts x) (r' : Accepted s ts' y) (c : ℕ) (i : c < s.width)
    (d : SameClock x y c) (n : ℕ) where
  stamp_later : (k : ℕ) → Like s ts ts' x y c n k →
      stamp s.width ts' y c k ≼ after (moves (get_or x.drifts c 0) n) (stamp s.width ts x c k)
  stamp_later k e =
      by_test (marked x.marks k)
      (λ m. rw (← faulty_alike s ts ts' x y c k d m (sym e.mark ∙ m) e.value) (after_later (moves (get_or x.drifts c 0) n) (stamp s.width ts x c k)))
      (λ m. rw (correct_heard r c i k m, correct_heard r' c i k (sym e.mark ∙ m), ← d.drift, ← d.phase, ← e.value)
      (unfold after in
      in_order
      (reads_step (get_or x.drifts c 0) (get_or x.phases c 0) n (get_or ts k 0 + link s.width x.links c k) {b = get_or ts' k 0 + link s.width x.links c k} (omega (arith, e.time m)))))

  -- times at most n later, all else alike, give a pulse at most n + 1 later
  pub pulse_step : Predecessors s.width c (Like s ts ts' x y c n) → pulse s ts' y c ≤ pulse s ts x c + n + 1
  pulse_step e = pulse_later r r' c i d n (λ k j t. stamp_later k (e k j t))

-- all predecessors but k are heard from lo to hi
pub one_free : {w c : ℕ} (wide : 6 ≤ w) (i : c < w) (k : ℕ) → k < w → is_predecessor w c k ≡ true → (lo hi : ℕ) (g : ℕ → Stamp) →
    Predecessors w c (λ j. (j ≡ k → ⊥) → FromTo lo hi (g j)) → OneFree lo hi (g c) (map g (neighbours w c))
unfolding neighbours is_predecessor
one_free {w} {c} wide i k l p lo hi g e =
    by_equal k c
    (λ q. own_free (columns_all (are_neighbours w c) (FromTo lo hi) g w 0
    (λ j a b t. e j (omega arith) (beside w c j t) (λ u. self j t (u ∙ q)))))
    (λ q. neighbour_free (e c i (own w c c refl) (λ u. q (sym u)))
    (columns_but_one (are_neighbours w c) (FromTo lo hi) g k w 0 (omega arith) (omega arith) (other q)
    (λ j a b t u. e j (omega arith) (beside w c j t) u)))
  where
    self : (j : ℕ) → are_neighbours w c j ≡ true → j ≡ c → ⊥
    self j t u = true≢false (sym t ∙ ap (are_neighbours w c) u ∙ strangers w c c (omega arith))

    other : (k ≡ c → ⊥) → are_neighbours w c k ≡ true
    other q = rw (ne_eqb k c q) at p

-- P and Q of two tiles with one clock, each within 3h of a range of arrivals from a to b: their pulses
envelope_step : (s : Settings) → Limits s → (p q a b P Q B e : ℕ) → q ≤ phase_most → b ≤ a + (2 * B + s.uncertainty + e) → Q ≤ reads p q b + 3 * s.unit →
    reads p q a ≤ P + 3 * s.unit → first_tick p q (Q + s.hold) ≤ first_tick p q (P + s.hold) + (e + 2 * B + 8 * s.unit)
envelope_step s k p q a b P Q B e in_phase i u v =
    let n = 2 * B + s.uncertainty + e in
    omega (
      arith,
      k.cost,
      first_step p q (n + 6 * s.unit) (P + s.hold) {w = Q + s.hold} (omega (arith, k.hold))
          (omega (arith, reads_step p q n a i, moves_add p q n (6 * s.unit))),
    )

-- a sender that is correct in both calls, its times at most e apart and at most B from those of tile c's column
pub record Near (s : Settings) (ts ts' : List ℕ) (x y : Call) (c B e j : ℕ) : Type 0 where
  pub correct : marked x.marks j ≡ false
  pub correct' : marked y.marks j ≡ false
  pub value : link s.width x.links c j ≡ link s.width y.links c j
  pub later : get_or ts' j 0 ≤ get_or ts j 0 + e
  pub earlier : get_or ts j 0 ≤ get_or ts' j 0 + e
  pub above : get_or ts j 0 ≤ get_or ts c 0 + B
  pub below : get_or ts c 0 ≤ get_or ts j 0 + B

-- a tile all of whose predecessors but k are correct in both calls, their times at most e apart and at most B from its own
-- column's: its pulses are at most e + 2B + 8h apart, whatever k does in either
module _ {s : Settings} {ts ts' : List ℕ} {x y : Call} (r : Accepted s ts x) (r' : Accepted s ts' y) (c : ℕ) (i : c < s.width)
    (d : SameClock x y c) (k : ℕ) (l : k < s.width) (p : is_predecessor s.width c k ≡ true) (B e : ℕ) where
  -- the correct arrivals lie from `low` to 2B + u after it in the first call, and e more on either side in the second
  low : ℕ
  low = get_or ts c 0 + (s.delay - s.uncertainty) - B

  abbrev high : ℕ
  high = low + (2 * B + s.uncertainty)

  clock : ℕ → ℕ
  clock t = reads (get_or x.drifts c 0) (get_or x.phases c 0) t

  first_within : (j : ℕ) → j < s.width → is_predecessor s.width c j ≡ true → Near s ts ts' x y c B e j → FromTo (clock low) (clock high) (stamp s.width ts x c j)
  unfolding clock low
  first_within j m t n =
      let v = r.delay c j i m t n.correct in
      let u = (limits s r.settings).uncertainty in
      let a = link s.width x.links c j in
      rw (correct_heard r c i j n.correct)
      (within
      (reads_mono (get_or x.drifts c 0) (get_or x.phases c 0) {a = low} {b = get_or ts j 0 + a} (omega (arith, n.above, n.below)))
      (reads_mono (get_or x.drifts c 0) (get_or x.phases c 0) {a = get_or ts j 0 + a} {b = high} (omega (arith, n.above, n.below))))

  second_within : (j : ℕ) → j < s.width → is_predecessor s.width c j ≡ true → Near s ts ts' x y c B e j →
      FromTo (clock (low - e)) (clock (high + e)) (stamp s.width ts' y c j)
  unfolding clock low
  second_within j m t n =
      let v = r.delay c j i m t n.correct in
      let u = (limits s r.settings).uncertainty in
      let a = link s.width x.links c j in
      rw (correct_heard r' c i j n.correct', ← d.drift, ← d.phase, ← n.value)
      (within
      (reads_mono (get_or x.drifts c 0) (get_or x.phases c 0) {a = low - e} {b = get_or ts' j 0 + a} (omega (arith, n.above, n.below, n.earlier)))
      (reads_mono (get_or x.drifts c 0) (get_or x.phases c 0) {a = get_or ts' j 0 + a} {b = high + e} (omega (arith, n.above, n.below, n.later))))

  pub pulse_near : Predecessors s.width c (λ j. (j ≡ k → ⊥) → Near s ts ts' x y c B e j) →
      (pulse s ts' y c ≤ pulse s ts x c + (e + 2 * B + 8 * s.unit)) × (pulse s ts x c ≤ pulse s ts' y c + (e + 2 * B + 8 * s.unit))
  unfolding pulse tile_pulse Envelope clock
  pulse_near near =
      let w = limits s r.settings in
      let P = tile_P s (own_of s ts x c) (others_of s ts x c) in
      let Q = tile_P s (own_of s ts' y c) (others_of s ts' y c) in
      let E1 = envelope s (clock low) (clock high) (own_of s ts x c) (others_of s ts x c) (tile_of r c i (stamp s.width ts x c))
      (one_free w.width.0 i k l p (clock low) (clock high) (stamp s.width ts x c) (λ j m t n. first_within j m t (near j m t n))) in
      let E2 = envelope s (clock (low - e)) (clock (high + e)) (own_of s ts' y c) (others_of s ts' y c) (tile_of r' c i (stamp s.width ts' y c))
      (one_free w.width.0 i k l p (clock (low - e)) (clock (high + e)) (stamp s.width ts' y c) (λ j m t n. second_within j m t (near j m t n))) in
      rw (← d.drift, ← d.phase) (
        envelope_step s w (get_or x.drifts c 0) (get_or x.phases c 0) low (high + e) P Q B e (r.in_phase c i) (omega arith) E2.1 E1.0,
        envelope_step s w (get_or x.drifts c 0) (get_or x.phases c 0) (low - e) high Q P B e (r.in_phase c i) (omega arith) E1.1 E2.0,
      )
