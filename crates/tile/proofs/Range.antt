-- How far the correction goes, and that it goes so far. Assumes nothing.
use mathlib.Core.Path.{◌≡◌, refl, sym, ◌∙◌, ap}
use Rattle.std.specs.Prelude.{Some}
use Prim.Native.Nat.{ℕ, ◌+◌, ◌-◌, ◌*◌, ◌≤◌, ◌<◌}
use native.Mathlib.Nat.{le_refl}
use native.Mathlib.Omega.{arith}
use lib.IntN.{ℤ, pos, neg_ℤ, sub_ℕ, ◌-ℤ◌}
use lib.Signed.{◌≤ℤ◌}
use mir.Syntax.{w64}
use mir.Val.{SFits}
use Rattle.settings.specs.Refusal.{first, refused, outside, any_below}
use Rattle.settings.specs.Settings.{step_of, settings_cause, settings_refusal}
use Rattle.rule.specs.Stamp.{Stamp, heard, ◌≼◌, in_order, latest_stamp}
use Rattle.rule.specs.Forward.{correction}
use Rattle.rule.specs.Closed.{heard_P, closed_P}
use Rattle.tile.specs.Tile.{silent_at, reading_at, late_from, late_at, count_silent, silences, stamp_tests, tile_tests, tile_cause, tile_refusal}
use Rattle.tile.specs.Cases.{heard as at, reading_in, marked_in, stamps}
use Rattle.tile.specs.Promises.{correction_most}
use Rattle.settings.specs.declared.Settings.{Settings}
use Rattle.tile.specs.declared.Stamps.{Stamps}
use Rattle.settings.proofs.Laws.Refusal.{skip_given}
use Rattle.settings.proofs.Laws.Settings.{Limits, step_small}
use Rattle.rule.proofs.Laws.Signed.{minus, sub_pos, sub_≤, pos_sub, neg_sub, minus_fits}
use Rattle.rule.proofs.Laws.Middle.{middle_within}
use Rattle.rule.proofs.Laws.Heard.{waits, hurries}
use Rattle.rule.proofs.Laws.Closed.{rule_closed}
use Rattle.rule.proofs.Laws.Stamp.{By, heard_by, ≼_refl}
use Rattle.rule.proofs.Laws.Forward.{Enough, with_own, without_own, by_own_and_one}

-- P lies at most 2^41 - 1 - 3h from own's stamp, on either side
near_own : {h j o : ℕ} → 0 < h → h ≤ 62500 → j ≤ 3 * h → {l m : Stamp} → Enough (heard o) l m → l ≼ m → o ≤ latest_stamp → By latest_stamp l →
    let p = closed_P h j (heard o) l m in (p ≤ o + (latest_stamp - 3 * h)) × (o ≤ p + (latest_stamp - 3 * h))
near_own {h} {j} {o} pos_h small i (with_own {l = l}) ordered a (heard_by b) =
    let between = by_own_and_one pos_h j o l ordered (≼_refl (heard l)) ordered in
    (omega (arith, between.1), omega (arith, between.0))

-- so the correction stays in its range
pub corrected : (s : Settings) (c : ℤ) → Limits s → {own l m : Stamp} → Enough own l m → l ≼ m → By latest_stamp own → By latest_stamp l →
    correction s.unit (step_of s) own l m ≡ Some c → SFits w64 c × (neg_ℤ (pos (correction_most s)) ≤ℤ c) × (c ≤ℤ pos (correction_most s))
unfolding correction correction_most step_of
corrected s c k (with_own {o = o} {l = l} {most = m}) i (heard_by a) b e =
    let j = step_of s in
    let p = closed_P s.unit j (heard o) (heard l) m in
    let most = latest_stamp - 3 * s.unit in
    let is : c ≡ pos o -ℤ pos p = cc (rule_closed k.unit.0 j (heard o) i) in
    let near = near_own {j = j} k.unit.0 k.unit.1 (step_small s.unit s.drift k.unit.0 k.drift) with_own i a b in
    rw is (
      minus_fits o p (omega arith) (omega (arith, near.0)),
      rw (neg_sub most, minus o p) (sub_≤ 0 most o p (omega (arith, near.0))),
      rw (pos_sub most, minus o p) (sub_≤ o p most 0 (omega (arith, near.1))),
    )
corrected s c k without_own i a b e = let never : ◌≡◌ {A = ℕ} 0 1 = cc in let no : ⊥ = omega arith in absurd no

module _ {h : ℕ} (pos_h : 0 < h) (j : ℕ) where
  -- where all neighbours are at n, it is own less P in closed form
  alike : (o n : ℕ) → correction h j (heard o) (heard n) (heard n) ≡ Some (sub_ℕ o (heard_P h j o n n))
  unfolding correction closed_P
  alike o n = rw (rule_closed pos_h j (heard o) (in_order (le_refl n)), minus o (heard_P h j o n n))

  -- own as late as can be, the neighbours at 0; and the other way
  pub late_own : h ≤ 62500 → j ≤ 3 * h → correction h j (heard latest_stamp) (heard 0) (heard 0) ≡ Some (pos (latest_stamp - 3 * h))
  late_own small i =
      let m = middle_within pos_h (le_refl 0) in
      let p : heard_P h j latest_stamp 0 0 ≡ 3 * h = hurries h j latest_stamp 0 0 (omega arith) ∙ omega arith in
      alike latest_stamp 0 ∙ ap Some (ap (sub_ℕ latest_stamp) p ∙ sub_pos latest_stamp (3 * h) (omega arith))

  pub early_own : correction h j (heard 0) (heard latest_stamp) (heard latest_stamp) ≡ Some (neg_ℤ (pos (latest_stamp - 3 * h)))
  early_own =
      let p : heard_P h j 0 latest_stamp latest_stamp ≡ latest_stamp - 3 * h = waits h j 0 latest_stamp latest_stamp (omega arith) ∙ omega arith in
      alike 0 latest_stamp ∙ ap Some (ap (sub_ℕ 0) p ∙ sym (neg_sub (latest_stamp - 3 * h)))

-- stamps to which none of 11 to 13 applies, written out
accepted : (s : Settings) → settings_refusal s ≡ 0 → (x : Stamps) → refused (first (tile_tests x)) ≡ 0 → tile_refusal s x ≡ 0
unfolding tile_refusal tile_cause settings_refusal
accepted s ok x e = rw (skip_given (settings_cause s) (first (tile_tests x)) ok) e

unfoldable computed : Unit {0}
unfolding first outside tile_tests stamp_tests any_below late_at late_from silent_at reading_at silences count_silent stamps reading_in marked_in
computed = tt

module _ (s : Settings) (ok : settings_refusal s ≡ 0) where
  pub late_accepted : tile_refusal s (stamps 2 (at latest_stamp) (at 0) (at 0) (at 0)) ≡ 0
  unfolding computed
  late_accepted = accepted s ok (stamps 2 (at latest_stamp) (at 0) (at 0) (at 0)) refl

  pub early_accepted : tile_refusal s (stamps 2 (at 0) (at latest_stamp) (at latest_stamp) (at 0)) ≡ 0
  unfolding computed
  early_accepted = accepted s ok (stamps 2 (at 0) (at latest_stamp) (at latest_stamp) (at 0)) refl
