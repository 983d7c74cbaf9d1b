-- A tile's places: none late and few silent, place by place. Assumes nothing.
use mathlib.Core.Path.{◌≡◌, refl, sym, ◌∙◌, ap, subst}
use mathlib.Core.Bool.{Bool, true, false, true≢false}
use mathlib.Core.List.{List, [], ◌∷◌}
use Prim.Native.Nat.{ℕ, zero, suc, ◌+◌, ◌≤◌}
use lib.ListN.{length}
use native.Mathlib.Omega.{arith}
use lib.Dec.{ltb}
use lib.IntN.{ℤ, pos, negsuc, ◌-ℤ◌}
use borrow.Author.Tests.{ltb-false}
use mir.Val.{bool_byte}
use Rattle.std.specs.Prelude.{Option, Some, None, Ok}
use Rattle.settings.specs.Refusal.{first, ◌when◌, or_else, refused, answer, outside, any_below}
use Rattle.settings.specs.Settings.{settings_cause, settings_refusal, step_of}
use Rattle.rule.specs.Signed.{natural}
use Rattle.rule.specs.Stamp.{Stamp, heard, silent, ◌≼◌, earliest, latest, All, none, more, unheard_of, unheard_in, latest_stamp}
use Rattle.rule.specs.Forward.{correction}
use Rattle.rule.specs.Letter.{letter}
use Rattle.rule.specs.Closed.{closed_P}
use Rattle.tile.specs.Tile.{late_from, late_at, silences, silent_at, count_silent, answered, forwarded, own_stamp, correction_of, stamp_from, stamp_at, reading_at, neighbour_places, neighbour_stamps, Readable, stamp_tests, tile_tests, tile_cause, tile_refusal}
use Rattle.settings.specs.declared.Settings.{Settings}
use Rattle.settings.specs.declared.refusal.Refusal.{Refusal}
use Rattle.settings.specs.declared.refusal.Refusal.TheVariants as why
use Rattle.tile.specs.declared.Forwarded.{Forwarded}
use Rattle.tile.specs.declared.Stamps.{Stamps}
use Rattle.settings.proofs.Laws.Cases.{by_order}
use Rattle.settings.proofs.Laws.Refusal.{neither, unhit, unhit_given, inside, accepted as is_answered}
use Rattle.settings.proofs.Laws.AnyBelow.{none_below, same_below}
use Rattle.settings.proofs.Laws.Settings.{limits}
use Rattle.rule.proofs.Laws.Closed.{rule_closed}
use Rattle.rule.proofs.Laws.Stamp.{By, heard_by, unheard, earliest_≼_latest}
use Rattle.rule.proofs.Laws.Forward.{Enough, enough}

pub silent_is : (b : Bool) → bool_byte b ≡ count_silent b
unfolding count_silent
silent_is true = refl
silent_is false = refl

pub silent_most : (b : Bool) → count_silent b ≤ 1
unfolding count_silent
silent_most true = omega arith
silent_most false = omega arith

module _ (x : Stamps) where
  pub silences_most : (n : ℕ) → silences x n ≤ n
  unfolding silences
  silences_most zero = omega arith
  silences_most (suc n) = omega (arith, silences_most n, silent_most (silent_at x n))

-- a stamp that is heard and not late is a natural number
pub record Reading (z : ℤ) : Type 0 where
  pub n : ℕ
  pub is : z ≡ pos n
  pub small : n ≤ latest_stamp

pub on_time : (z : ℤ) → late_from false z ≡ false → Reading z
unfolding late_from
on_time (pos n) e = record { n = n; is = refl; small = ltb-false latest_stamp n (neither (ltb n 0) (ltb latest_stamp n) e).1 }
on_time (negsuc n) e = absurd (true≢false e)

-- the answer in closed form
abbrev pub closed_of : Settings → (own least most : Stamp) → ℕ
closed_of s own l m = closed_P s.unit (step_of s) own l m

module _ (s : Settings) (accepted : settings_refusal s ≡ 0) {l m : Stamp} (ordered : l ≼ m) where
  pub answered_silent : answered s silent l m
      ≡ record { p = pos (closed_of s silent l m); correction = None; letter = letter s.unit (step_of s) silent l m }
  unfolding answered correction
  answered_silent = rw (rule_closed (limits s accepted).unit.0 (step_of s) silent ordered)

  pub answered_heard : (o : ℕ) →
      answered s (heard o) l m
      ≡ record { p = pos (closed_of s (heard o) l m); correction = Some (pos o -ℤ pos (closed_of s (heard o) l m)); letter = letter s.unit (step_of s) (heard o) l m }
  unfolding answered correction
  answered_heard o = rw (rule_closed (limits s accepted).unit.0 (step_of s) (heard o) ordered)

-- the stamps of places that are not late are heard by 2^41 - 1
pub stamp_on_time : (silent : Bool) (z : ℤ) → late_from silent z ≡ false → By latest_stamp (stamp_from silent z)
unfolding stamp_from natural
stamp_on_time true z e = unheard
stamp_on_time false z e = let r = on_time z e in rw r.is (heard_by r.small)

module _ {x : Stamps} (r : Readable x) where
  pub place_on_time : (k : ℕ) → k ≤ x.count → late_at x k ≡ false
  place_on_time k i = none_below (late_at x) (suc x.count) k (omega arith) r.on_time

  pub place_by : (k : ℕ) → k ≤ x.count → By latest_stamp (stamp_at x k)
  unfolding stamp_at late_at
  place_by k i = stamp_on_time (silent_at x k) (reading_at x k) (place_on_time k i)

-- two neighbours, or three
module _ (x : Stamps) where
  pub two_neighbours : x.count ≡ 2 → neighbour_stamps x ≡ stamp_at x 1 ∷ stamp_at x 2 ∷ []
  unfolding neighbour_stamps neighbour_places
  two_neighbours e = rw e

  pub three_neighbours : x.count ≡ 3 → neighbour_stamps x ≡ stamp_at x 1 ∷ stamp_at x 2 ∷ stamp_at x 3 ∷ []
  unfolding neighbour_stamps neighbour_places
  three_neighbours e = rw e

  silent_stamp : (k : ℕ) → count_silent (silent_at x k) ≡ unheard_of (stamp_at x k)
  unfolding stamp_at
  silent_stamp k = pick (silent_at x k)
    where
      pick : (b : Bool) → count_silent b ≡ unheard_of (stamp_from b (reading_at x k))
      pick true = unfold count_silent unheard_of stamp_from in refl
      pick false = unfold count_silent unheard_of stamp_from in refl

  -- own's silence and the neighbours' are counted
  pub two_silences : silences x 3 ≡ unheard_of (stamp_at x 0) + unheard_in (stamp_at x 1 ∷ stamp_at x 2 ∷ [])
  unfolding silences unheard_in
  two_silences = omega (arith, silent_stamp 0, silent_stamp 1, silent_stamp 2)

  pub three_silences : silences x 4 ≡ unheard_of (stamp_at x 0) + unheard_in (stamp_at x 1 ∷ stamp_at x 2 ∷ stamp_at x 3 ∷ [])
  unfolding silences unheard_in
  three_silences = omega (arith, silent_stamp 0, silent_stamp 1, silent_stamp 2, silent_stamp 3)

-- what is known of a tile that is not turned away
pub record Accepted (s : Settings) (x : Stamps) : Type 0 where
  pub settings : settings_refusal s ≡ 0
  pub readable : Readable x
  pub few_silent : silences x (suc x.count) ≤ 1

pub accepted : (s : Settings) (x : Stamps) → tile_refusal s x ≡ 0 → Accepted s x
unfolding tile_refusal tile_cause tile_tests stamp_tests settings_refusal
accepted s x e =
    let t1 = unhit_given (settings_cause s) _ e in
    let t2 = unhit why.Neighbours (outside 2 3 x.count) _ t1.1 in
    let t3 = unhit why.Stamp (any_below (suc x.count) (late_at x)) _ t2.1 in
    let t4 = unhit why.Silences (ltb 1 (silences x (suc x.count))) _ t3.1 in
    let k = inside 2 3 x.count t2.0 in
    record {
      settings = t1.0;
      readable = record { count_least = k.0; count_most = k.1; on_time = t3.0 };
      few_silent = ltb-false 1 (silences x (suc x.count)) t4.0;
    }

-- and so of its stamps: there are two neighbours or three, enough are heard, each by 2^41 - 1
pub record Stamped (own : Stamp) (ns : List Stamp) : Type 0 where
  pub two : 2 ≤ length ns
  pub own_by : By latest_stamp own
  pub all_by : All (By latest_stamp) ns
  pub heard_enough : Enough own (earliest ns) (latest ns)
  pub ordered : earliest ns ≼ latest ns

module _ {s : Settings} {x : Stamps} (a : Accepted s x) where
  by_place : (k : ℕ) → k ≤ x.count → By latest_stamp (stamp_at x k)
  by_place = place_by a.readable

  few : {n : ℕ} → x.count ≡ n → silences x (suc n) ≤ 1
  few e = subst (λ (k : ℕ). silences x (suc k) ≤ 1) e a.few_silent

  pub stamped : Stamped (stamp_at x 0) (neighbour_stamps x)
  stamped =
      by_order 3 x.count
      (λ i. let three : x.count ≡ 3 = omega (arith, a.readable.count_most) in
      rw (three_neighbours x three)
      (record {
        two = omega arith;
        own_by = by_place 0 (omega arith);
        all_by = more (by_place 1 (omega arith)) (more (by_place 2 (omega arith)) (more (by_place 3 (omega arith)) none));
        heard_enough =
            enough (stamp_at x 0) (stamp_at x 1 ∷ stamp_at x 2 ∷ stamp_at x 3 ∷ []) (omega arith)
            (rw (← three_silences x) (few three));
        ordered = earliest_≼_latest (stamp_at x 1) (stamp_at x 2 ∷ stamp_at x 3 ∷ []);
      }))
      (λ i. let two : x.count ≡ 2 = omega (arith, a.readable.count_least) in
      rw (two_neighbours x two)
      (record {
        two = omega arith;
        own_by = by_place 0 (omega arith);
        all_by = more (by_place 1 (omega arith)) (more (by_place 2 (omega arith)) none);
        heard_enough =
            enough (stamp_at x 0) (stamp_at x 1 ∷ stamp_at x 2 ∷ []) (omega arith)
            (rw (← two_silences x) (few two));
        ordered = earliest_≼_latest (stamp_at x 1) (stamp_at x 2 ∷ []);
      }))

-- a tile that has a correction is not turned away
pub corrected : (c : Option Refusal) (f : Forwarded) {z : ℤ} → correction_of (answer c f) ≡ Some z → refused c ≡ 0
unfolding answer correction_of
corrected None f e = refl
corrected (Some r) f e = cc e

-- a tile that is not turned away
module _ (s : Settings) (x : Stamps) where
  pub forwarded_accepted : tile_refusal s x ≡ 0 → forwarded s x ≡ Ok (answered s (own_stamp x) (earliest (neighbour_stamps x)) (latest (neighbour_stamps x)))
  unfolding forwarded tile_refusal
  forwarded_accepted e = is_answered (tile_cause s x) _ e

-- two answers of one cause
same_answer : {A : Type 0} (c : Option Refusal) (a b : A) → (refused c ≡ 0 → a ≡ b) → answer c a ≡ answer c b
unfolding answer
same_answer None a b f = ap Ok (f refl)
same_answer (Some r) a b f = refl

-- two tiles that agree at the places read
pub record Alike (x y : Stamps) : Type 0 where
  pub count : x.count ≡ y.count
  pub silent : (k : ℕ) → k ≤ x.count → silent_at x k ≡ silent_at y k
  pub reading : (k : ℕ) → k ≤ x.count → silent_at x k ≡ false → reading_at x k ≡ reading_at y k

stamp_same : (b : Bool) {z w : ℤ} → (b ≡ false → z ≡ w) → stamp_from b z ≡ stamp_from b w
unfolding stamp_from
stamp_same true e = refl
stamp_same false e = ap (λ (v : ℤ). heard (natural v)) (e refl)

late_same : (b : Bool) {z w : ℤ} → (b ≡ false → z ≡ w) → late_from b z ≡ late_from b w
unfolding late_from
late_same true e = refl
late_same false e = ap (late_from false) (e refl)

module _ {x y : Stamps} (a : Alike x y) where
  pub stamp_alike : (k : ℕ) → k ≤ x.count → stamp_at x k ≡ stamp_at y k
  unfolding stamp_at
  stamp_alike k i =
      stamp_same (silent_at x k) (a.reading k i) ∙ ap (λ (b : Bool). stamp_from b (reading_at y k)) (a.silent k i)

  late_alike : (k : ℕ) → k ≤ x.count → late_at x k ≡ late_at y k
  unfolding late_at
  late_alike k i = late_same (silent_at x k) (a.reading k i) ∙ ap (λ (b : Bool). late_from b (reading_at y k)) (a.silent k i)

  silences_alike : (n : ℕ) → n ≤ suc x.count → silences x n ≡ silences y n
  unfolding silences
  silences_alike zero i = refl
  silences_alike (suc n) i = rw (silences_alike n (omega arith), a.silent n (omega arith))

  cause_alike : (s : Settings) → tile_cause s x ≡ tile_cause s y
  unfolding tile_cause tile_tests stamp_tests
  cause_alike s =
      rw (same_below (late_at x) (late_at y) (suc x.count) (λ k i. late_alike k (omega arith)), silences_alike (suc x.count) (omega arith))
      (ap (λ (n : ℕ). or_else (settings_cause s) (first (why.Neighbours when outside 2 3 n ∷ why.Stamp when any_below (suc n) (late_at y) ∷ why.Silences when ltb 1 (silences y (suc n)) ∷ []))) a.count)

  pub neighbours_alike : Readable x → neighbour_stamps x ≡ neighbour_stamps y
  neighbours_alike r =
      by_order 3 x.count
      (λ i. let three : x.count ≡ 3 = omega (arith, r.count_most) in
      rw (three_neighbours x three, three_neighbours y (sym a.count ∙ three), stamp_alike 1 (omega arith), stamp_alike 2 (omega arith), stamp_alike 3 (omega arith)))
      (λ i. let two : x.count ≡ 2 = omega (arith, r.count_least) in
      rw (two_neighbours x two, two_neighbours y (sym a.count ∙ two), stamp_alike 1 (omega arith), stamp_alike 2 (omega arith)))

  pub forwarded_alike : (s : Settings) → forwarded s x ≡ forwarded s y
  unfolding forwarded own_stamp tile_refusal
  forwarded_alike s =
      rw (cause_alike s)
      (same_answer (tile_cause s y) _ _
      (λ e. rw (neighbours_alike (accepted s x (rw (cause_alike s) e)).readable, stamp_alike 0 (omega arith))))
