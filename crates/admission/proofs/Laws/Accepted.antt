-- What a row call that is not turned away keeps. Assumes nothing.
use mathlib.Core.Path.{◌≡◌}
use mathlib.Core.Bool.{Bool, true, false, not, ◌&&◌}
use mathlib.Core.List.{List}
use Prim.Native.Nat.{ℕ, ◌-◌, ◌*◌, ◌≤◌, ◌<◌}
use lib.Dec.{ltb}
use lib.ListN.{length, get_or}
use native.Mathlib.Omega.{arith}
use borrow.Author.Tests.{ltb-false, not-false, ne_eqb}
use Rattle.settings.specs.Refusal.{any_below}
use Rattle.settings.specs.Settings.{settings_cause, settings_refusal}
use Rattle.settings.specs.declared.refusal.Refusal.TheVariants as why
use Rattle.rule.specs.Clock.{phase_most}
use Rattle.rule.specs.Stamp.{silence}
use Rattle.settings.specs.declared.Settings.{Settings}
use Rattle.settings.proofs.Laws.Refusal.{unhit, unhit_given, inside}
use Rattle.columns.specs.Columns.{is_predecessor, predecessors, link}
use Rattle.admission.specs.Call.{Call}
use Rattle.links.specs.Links.{latest_time, bad_value, bad_link, bad_links}
use Rattle.columns.specs.Marks.{marked, mark_bytes, faulty_among}
use Rattle.admission.specs.Refusal.{lengths_right, stray_mark, late_time, crowded, over, row_tests, row_cause, row_refusal}
use Rattle.settings.proofs.Laws.AnyBelow.{none_below}
use Rattle.admission.proofs.Laws.Lengths.{Sized, sized}
use Rattle.columns.proofs.Laws.Lists.{none_of}

-- the lengths of what is lent
abbrev pub Lengths : (w : ℕ) → List ℕ → Call → Type 0
Lengths w ts x = Sized w (length ts) (length x.marks) (length x.drifts) (length x.phases) (length x.links) x.room x.letter_room

pub record Accepted (s : Settings) (ts : List ℕ) (x : Call) : Type 0 where
  pub settings : settings_refusal s ≡ 0
  pub lengths : Lengths s.width ts x
  -- a correct tile's time
  pub time : (c : ℕ) → c < s.width → marked x.marks c ≡ false → get_or ts c 0 ≤ latest_time
  -- at most one faulty predecessor
  pub few : (c : ℕ) → c < s.width → faulty_among x.marks (predecessors s.width c) ≤ 1
  pub slow : (c : ℕ) → c < s.width → get_or x.drifts c 0 ≤ s.drift
  pub in_phase : (c : ℕ) → c < s.width → get_or x.phases c 0 ≤ phase_most
  -- a delay, and a faulty arrival
  pub delay : (c k : ℕ) → c < s.width → k < s.width → is_predecessor s.width c k ≡ true → marked x.marks k ≡ false →
      (s.delay - s.uncertainty ≤ link s.width x.links c k) × (link s.width x.links c k ≤ s.delay)
  pub arrival : (c k : ℕ) → c < s.width → k < s.width → is_predecessor s.width c k ≡ true → marked x.marks k ≡ true →
      (link s.width x.links c k ≡ silence → ⊥) → link s.width x.links c k ≤ latest_time

lengths_of : (w : ℕ) (ts : List ℕ) (x : Call) → lengths_right w ts x ≡ true → Lengths w ts x
unfolding lengths_right
lengths_of w ts x e = sized w (length ts) (length x.marks) (length x.drifts) (length x.phases) (length x.links) x.room x.letter_room e

time_of : (t : ℕ) (m : Bool) → m ≡ false → (not m && ltb latest_time t) ≡ false → t ≤ latest_time
time_of t m p e = ltb-false latest_time t (rw p at e)

pub delay_of : (s : Settings) (m : Bool) (v : ℕ) → m ≡ false → bad_value s m v ≡ false → (s.delay - s.uncertainty ≤ v) × (v ≤ s.delay)
unfolding bad_value
delay_of s m v p e = inside (s.delay - s.uncertainty) s.delay v (rw p at e)

pub arrival_of : (s : Settings) (m : Bool) (v : ℕ) → m ≡ true → bad_value s m v ≡ false → (v ≡ silence → ⊥) → v ≤ latest_time
unfolding bad_value
arrival_of s m v p e n = ltb-false latest_time v (rw (p, ne_eqb v silence n) at e)

pub accepted : (s : Settings) (ts : List ℕ) (x : Call) → row_refusal s ts x ≡ 0 → Accepted s ts x
unfolding row_refusal row_cause row_tests settings_refusal late_time crowded over bad_links bad_link predecessors
accepted s ts x e =
    let w = s.width in
    let t1 = unhit_given (settings_cause s) _ e in
    let t2 = unhit why.Lengths (not (lengths_right w ts x)) _ t1.1 in
    let t3 = unhit why.StrayMark (any_below (8 * mark_bytes w) (stray_mark w x.marks)) _ t2.1 in
    let t4 = unhit why.LateTime (any_below w (late_time ts x.marks)) _ t3.1 in
    let t5 = unhit why.Crowded (any_below w (crowded w x.marks)) _ t4.1 in
    let t6 = unhit why.TileDrift (any_below w (over s.drift x.drifts)) _ t5.1 in
    let t7 = unhit why.Phase (any_below w (over phase_most x.phases)) _ t6.1 in
    let t8 = unhit why.Link (any_below w (bad_links s x.marks x.links)) _ t7.1 in
    record {
      settings = t1.0;
      lengths = lengths_of w ts x (not-false (lengths_right w ts x) t2.0);
      time = λ c i m. time_of (get_or ts c 0) (marked x.marks c) m (none_below (late_time ts x.marks) w c i t4.0);
      few = λ c i. ltb-false 1 (faulty_among x.marks (predecessors w c)) (none_below (crowded w x.marks) w c i t5.0);
      slow = λ c i. ltb-false s.drift (get_or x.drifts c 0) (none_below (over s.drift x.drifts) w c i t6.0);
      in_phase = λ c i. ltb-false phase_most (get_or x.phases c 0) (none_below (over phase_most x.phases) w c i t7.0);
      delay = λ c k i j p m. delay_of s (marked x.marks k) (link w x.links c k) m
          (none_of (is_predecessor w c) (bad_link s x.marks x.links c) w 0 (none_below (bad_links s x.marks x.links) w c i t8.0) k (omega arith) (omega arith) p);
      arrival = λ c k i j p m n. arrival_of s (marked x.marks k) (link w x.links c k) m
          (none_of (is_predecessor w c) (bad_link s x.marks x.links c) w 0 (none_below (bad_links s x.marks x.links) w c i t8.0) k (omega arith) (omega arith) p) n;
    }
