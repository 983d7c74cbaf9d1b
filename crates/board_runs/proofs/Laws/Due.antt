-- When the tile pulses, by the stamps known: not before the reading P + A of the full stamps, and at that. Assumes nothing.
use mathlib.Core.Path.{◌≡◌, refl, sym, ◌∙◌}
use mathlib.Core.Bool.{true, false}
use mathlib.Core.List.{List}
use mathlib.Core.Logic.{◌⊎◌, inl, inr}
use Prim.Native.Nat.{ℕ, ◌+◌, ◌*◌, ◌≤◌, ◌<◌}
use lib.ListN.{length}
use native.Mathlib.Omega.{arith}
use borrow.Author.Tests.{le-leb, lt-leb}
use Rattle.senders.specs.Due.{due, reaches}
use Rattle.settings.specs.Settings.{settings_refusal, step_of}
use Rattle.settings.specs.declared.Settings.{Settings}
use Rattle.settings.proofs.Laws.Cases.{by_order}
use Rattle.settings.proofs.Laws.Settings.{limits, step_small}
use Rattle.rule.specs.Stamp.{Stamp, heard, silent, ◌≼◌, in_order, last, ◌≼*◌, earliest, latest, FromTo, within, All, none, more, AllButOne, unheard_of, unheard_in}
use Rattle.rule.specs.Closed.{closed_P}
use Rattle.rule.specs.Pulse.{tile_P}
use Rattle.rule.specs.Promises.{Tile, PMonotone, OneFree, own_free, neighbour_free, Envelope}
use Rattle.rule.proofs.Promises.{closed, p_monotone, envelope}
use Rattle.rule.proofs.Laws.Stamp.{earliest_within, latest_within, earliest_≼_latest}
use Rattle.senders.proofs.Laws.Senders.{unheard_one}
use Rattle.senders.proofs.Laws.Due.{enough_heard, too_few}
use Rattle.board_runs.proofs.Laws.Late.{own_late, most_late}
use Rattle.board_runs.proofs.Laws.Cut.{Cut, same, late, Cut*, known, all_known, OneLate, one_late, all_heard, one_unheard, late_latest, late_earliest, late_length}

module _ {s : Settings} {own : Stamp} {ns : List Stamp} (t : Tile s ns) where
  -- later stamps, or silence in their place, are due no earlier
  pub not_before : {own' : Stamp} {ns' : List Stamp} (x : ℕ) → own ≼ own' → ns ≼* ns' → x < due s own ns → reaches s own' ns' x ≡ false
  unfolding reaches due PMonotone
  not_before {own'} {ns'} x a b i =
      by_order (unheard_of own' + unheard_in ns') 1
      (λ k. rw (enough_heard (unheard_of own' + unheard_in ns') k, lt-leb (tile_P s own' ns' + s.hold) x (omega (arith, p_monotone s own own' ns ns' t a b k))))
      (λ k. rw (too_few (unheard_of own' + unheard_in ns') k))

  -- the correct stamps come before the reading that is due
  pub in_time : {lo hi : ℕ} → OneFree lo hi own ns → hi + 6 * s.unit ≤ lo + s.hold → hi ≤ due s own ns
  unfolding due Envelope
  in_time {lo} {hi} f near = omega (arith, (envelope s lo hi own ns t f).0)

-- P with silence in the place of a stamp that is late
module _ (s : Settings) (checked : settings_refusal s ≡ 0) where
  abbrev P : (own least most : Stamp) → ℕ
  P own l m = closed_P s.unit (step_of s) own l m

  step_held : step_of s ≤ s.hold
  unfolding step_of
  step_held = let k = limits s checked in omega (arith, step_small s.unit s.drift k.unit.0 k.drift, k.held)

  -- own's
  own_silent : {lo hi : ℕ} {l m : Stamp} (a : ℕ) → l ≼ m → FromTo lo hi l → FromTo lo hi m → P (heard a) l m + s.hold < a → P silent l m ≡ P (heard a) l m
  unfolding closed_P
  own_silent a (in_order i) (within b c) (within d e) k = sym (own_late (limits s checked).unit.0 (step_of s) s.hold a i step_held k)
  own_silent {lo = lo} {hi = hi} {l = l} a last _ x k = elim x [ ]

  own_beside : {lo hi : ℕ} {ns : List Stamp} (a : ℕ) → 2 ≤ length ns → All (FromTo lo hi) ns → P (heard a) (earliest ns) (latest ns) + s.hold < a →
      P silent (earliest ns) (latest ns) ≡ P (heard a) (earliest ns) (latest ns)
  own_beside a two none k = let never : ⊥ = omega arith in absurd never
  own_beside a two (more {x = x} {xs = xs} p q) k = own_silent a (earliest_≼_latest x xs) (earliest_within p q) (latest_within p q) k

  -- a neighbour's
  neighbour_silent : (o l z : ℕ) → l ≤ z → o + 6 * s.unit ≤ l + s.hold → P (heard o) (heard l) (heard z) + s.hold < z →
      P (heard o) (heard l) silent ≡ P (heard o) (heard l) (heard z)
  unfolding closed_P
  neighbour_silent o l z i near k = sym (most_late (limits s checked).unit.0 (step_of s) s.hold o i near k)

-- so the reading that is due is reached, by what is known there
module _ {s : Settings} {ns : List Stamp} (t : Tile s ns) where
  reached_by : (own own' : Stamp) (ns' : List Stamp) → unheard_of own' + unheard_in ns' ≤ 1 → tile_P s own' ns' ≡ tile_P s own ns → reaches s own' ns' (due s own ns) ≡ true
  unfolding reaches due
  reached_by own own' ns' few e =
      rw (enough_heard (unheard_of own' + unheard_in ns') few, le-leb (tile_P s own' ns' + s.hold) (tile_P s own ns + s.hold) (omega arith))

  -- whatever own is
  own_reaches : {lo hi : ℕ} (own : Stamp) → All (FromTo lo hi) ns → reaches s own ns (due s own ns) ≡ true
  own_reaches own q = reached_by own own ns (omega (arith, unheard_one own, all_heard q)) refl

  late_reaches : {lo hi : ℕ} (a : ℕ) → All (FromTo lo hi) ns → due s (heard a) ns < a → reaches s silent ns (due s (heard a) ns) ≡ true
  unfolding due
  late_reaches a q k =
      reached_by (heard a) silent ns (omega (arith, unheard_one silent, all_heard q))
      (closed silent t ∙ own_beside s t.checked a t.two q (omega (arith, k, closed (heard a) t)) ∙ sym (closed (heard a) t))

  with_own : {lo hi x : ℕ} (own own' : Stamp) → All (FromTo lo hi) ns → x ≡ due s own ns → Cut x own' own → reaches s own' ns x ≡ true
  with_own own own' q e same = rw e (own_reaches own q)
  with_own own own' q e (late {a = a} k) = rw e (late_reaches a q (omega arith))

  -- whatever one neighbour is
  with_neighbour : {lo hi : ℕ} (o : ℕ) (ns' : List Stamp) → hi + 6 * s.unit ≤ lo + s.hold → hi ≤ due s (heard o) ns → o ≤ hi →
      AllButOne (FromTo lo hi) ns → (ns' ≡ ns) ⊎ ((z : ℕ) × OneLate (due s (heard o) ns) lo hi ns' ns z) → reaches s (heard o) ns' (due s (heard o) ns) ≡ true
  unfolding due unheard_of
  with_neighbour o ns' near early i q (inl f) = rw f (reached_by (heard o) (heard o) ns (omega (arith, one_unheard q)) refl)
  with_neighbour {lo} {hi} o ns' near early i q (inr (z, p)) =
      let (top, gone, once, past) = late_latest early p in
      let (l, least', least, low, below) = late_earliest early t.two p in
      let t' : Tile s ns' = record { checked = t.checked; two = rw (late_length p) t.two } in
      let by_full : tile_P s (heard o) ns ≡ closed_P s.unit (step_of s) (heard o) (heard l) (heard z) = closed (heard o) t ∙ rw (least, top) in
      let by_known : tile_P s (heard o) ns' ≡ closed_P s.unit (step_of s) (heard o) (heard l) silent = closed (heard o) t' ∙ rw (least', gone) in
      let so : closed_P s.unit (step_of s) (heard o) (heard l) silent ≡ closed_P s.unit (step_of s) (heard o) (heard l) (heard z) =
      neighbour_silent s t.checked o l z below (omega arith) (omega (arith, by_full, past)) in
      reached_by (heard o) (heard o) ns' (omega (arith, once)) (by_known ∙ so ∙ sym by_full)

  heard_own : {lo hi : ℕ} (own own' : Stamp) (ns' : List Stamp) → FromTo lo hi own → AllButOne (FromTo lo hi) ns → hi + 6 * s.unit ≤ lo + s.hold →
      hi ≤ due s own ns → own' ≡ own → Cut* (due s own ns) ns' ns → reaches s own' ns' (due s own ns) ≡ true
  heard_own own own' ns' (within {a = o} b c) q near early e d = rw e (with_neighbour o ns' near early c q (one_late early q d))

  pub reaches_then : {lo hi : ℕ} (own own' : Stamp) (ns' : List Stamp) → OneFree lo hi own ns → hi + 6 * s.unit ≤ lo + s.hold →
      Cut (due s own ns) own' own → Cut* (due s own ns) ns' ns → reaches s own' ns' (due s own ns) ≡ true
  reaches_then own own' ns' (own_free q) near c d = rw (all_known (in_time t (own_free {own = own} q) near) q d) (with_own own own' q refl c)
  reaches_then own own' ns' (neighbour_free p q) near c d =
      let early = in_time t (neighbour_free p q) near in
      heard_own own own' ns' p q near early (known early p c) d
