-- Marks, drifts and link values are within their limits exactly where none of 22, 24, 25 and 26 applies. Assumes nothing.
use mathlib.Core.Path.{◌≡◌, refl, ◌∙◌, ap}
use mathlib.Core.Bool.{Bool, true, false, not, and-false}
use mathlib.Core.List.{List}
use mathlib.Core.Logic.{◌⊎◌, inl, inr}
use Prim.Native.Nat.{ℕ, zero, suc, ◌+◌, ◌-◌, ◌*◌, ◌/◌, ◌≤◌, ◌<◌}
use lib.Dec.{leb, eqb}
use lib.ListN.{length, get_or, get_or-eq_default}
use native.Mathlib.Omega.{arith}
use borrow.Author.Tests.{ltb-false, le-ltb, le-leb, lt-leb, eq-eqb}
use Rattle.settings.specs.Refusal.{any_below}
use Rattle.settings.specs.declared.Settings.{Settings}
use Rattle.settings.proofs.Laws.AnyBelow.{none_below, none_till}
use Rattle.settings.proofs.Laws.Cases.{by_order, by_equal}
use Rattle.settings.proofs.Laws.Refusal.{within}
use Rattle.rule.specs.Clock.{phase_most}
use Rattle.rule.specs.Stamp.{silence}
use Rattle.columns.specs.Columns.{columns_from, any_of, is_predecessor, predecessors, link, link_place}
use Rattle.columns.specs.Marks.{marked, mark_bytes, faulty_among}
use Rattle.columns.proofs.Laws.Lists.{by_test, none_of}
use Rattle.columns.proofs.Laws.Plain.{unmarked}
use Rattle.links.specs.Links.{latest_time, bad_value, bad_link, bad_links}
use Rattle.admission.specs.Limits.{Hears, LinkAt, TileLimits}
use Rattle.admission.specs.Refusal.{stray_mark, crowded, over}
use Rattle.admission.proofs.Laws.Accepted.{delay_of, arrival_of}
use Rattle.admission.proofs.Laws.Hears.{hears_true, true_hears, link_there, link_is, two_marked, one_marked}

-- the tests of a row's marks, drifts and link values
pub record NoneApplies (s : Settings) (ms ds qs ls : List ℕ) : Type 0 where
  pub none_stray : any_below (8 * mark_bytes s.width) (stray_mark s.width ms) ≡ false
  pub none_crowded : any_below s.width (crowded s.width ms) ≡ false
  pub none_fast : any_below s.width (over s.drift ds) ≡ false
  pub none_out_of_phase : any_below s.width (over phase_most qs) ≡ false
  pub none_bad : any_below s.width (bad_links s ms ls) ≡ false

-- a link value that is right
module _ (s : Settings) (v : ℕ) where
  delay_right : (m : Bool) → m ≡ false → (s.delay - s.uncertainty ≤ v) × (v ≤ s.delay) → bad_value s m v ≡ false
  unfolding bad_value
  delay_right m e i = rw e (within (s.delay - s.uncertainty) s.delay v i.0 i.1)

  arrival_right : (m : Bool) → m ≡ true → (v ≤ latest_time) ⊎ (v ≡ silence) → bad_value s m v ≡ false
  unfolding bad_value
  arrival_right m e (inl i) = rw (e, le-ltb latest_time v i) (and-false (not (eqb v silence)))
  arrival_right m e (inr q) = rw (e, eq-eqb v silence q)

-- none of the columns that f takes
none_taken : (f h : ℕ → Bool) (n a : ℕ) → ((k : ℕ) → a ≤ k → k < a + n → f k ≡ true → h k ≡ false) → any_of (columns_from n a f) h ≡ false
unfolding columns_from any_of
none_taken f h zero a e = refl
none_taken f h (suc n) a e =
    let rest = none_taken f h n (suc a) (λ k i j t. e k (omega arith) (omega arith) t) in
    by_test (f a) (λ t. rw (t, e a (omega arith) (omega arith) t) rest) (λ t. rw t rest)

module _ (s : Settings) (ms ds qs ls : List ℕ) (wide : 6 ≤ s.width) where
  -- within the limits no test applies
  module _ (k : TileLimits s ms ds qs ls) where
    no_stray : (c : ℕ) → stray_mark s.width ms c ≡ false
    unfolding stray_mark
    no_stray c = by_order s.width c (λ i. rw (k.no_stray c i) (and-false (leb s.width c))) (λ i. rw (lt-leb s.width c i))

    not_crowded : (c : ℕ) → c < s.width → crowded s.width ms c ≡ false
    unfolding crowded predecessors
    not_crowded c i =
        le-ltb 1 (faulty_among ms (columns_from s.width 0 (is_predecessor s.width c)))
        (one_marked ms (is_predecessor s.width c) s.width 0
        (λ a b l m n t u p q. omega (
          arith,
          m,
          k.one_faulty c a b i (omega (arith, m, n)) (omega (arith, n)) (true_hears s.width c a t) (true_hears s.width c b u) p q,
        )))

    not_bad : (c : ℕ) → c < s.width → bad_links s ms ls c ≡ false
    unfolding bad_links predecessors bad_link link
    not_bad c i =
        none_taken (is_predecessor s.width c) (bad_link s ms ls c) s.width 0
        (λ a l m t.
        let in_row : a < s.width = omega (arith, m) in
        let h = true_hears s.width c a t in
        let at = link_there s.width c a wide i in_row h in
        let v = get_or ls (link_place s.width c a) 0 in
        by_test (marked ms a)
        (λ p. arrival_right s v (marked ms a) p (k.arrival c a (link_place s.width c a) i in_row h at p))
        (λ p. delay_right s v (marked ms a) p (k.delay c a (link_place s.width c a) i in_row h at p)))

    pub none_applies : NoneApplies s ms ds qs ls
    unfolding over
    none_applies =
        record {
          none_stray = none_till _ (8 * mark_bytes s.width) (λ c i. no_stray c);
          none_crowded = none_till _ s.width not_crowded;
          none_fast = none_till _ s.width (λ c i. le-ltb s.drift (get_or ds c 0) (omega (arith, k.slow c i)));
          none_out_of_phase = none_till _ s.width (λ c i. le-ltb phase_most (get_or qs c 0) (omega (arith, k.in_phase c i)));
          none_bad = none_till _ s.width not_bad;
        }

  -- and where none applies they are within the limits
  module _ (long : length ms ≡ mark_bytes s.width) (t : NoneApplies s ms ds qs ls) where
    right_marks : (c : ℕ) → s.width ≤ c → marked ms c ≡ false
    unfolding stray_mark
    right_marks c i =
        by_order (8 * mark_bytes s.width) c
        (λ j. unmarked ms c (get_or-eq_default ms 0 {n = c / 8} (omega (arith, j, long))))
        (λ j. rw (le-leb s.width c i) at (none_below (stray_mark s.width ms) (8 * mark_bytes s.width) c j t.none_stray))

    few : (c : ℕ) → c < s.width → faulty_among ms (columns_from s.width 0 (is_predecessor s.width c)) ≤ 1
    unfolding crowded predecessors
    few c i = ltb-false 1 _ (none_below (crowded s.width ms) s.width c i t.none_crowded)

    not_two : (c a b : ℕ) → c < s.width → a < b → b < s.width → Hears s.width c a → Hears s.width c b → marked ms a ≡ true → marked ms b ≡ true → ⊥
    not_two c a b i l j h g p q =
        let f = is_predecessor s.width c in
        let two = two_marked ms f s.width 0 a b (omega arith) l (omega (arith, j)) (hears_true s.width c a h) (hears_true s.width c b g) p q in
        omega (arith, two, few c i)

    right_value : (c a n : ℕ) → c < s.width → a < s.width → Hears s.width c a → LinkAt s.width c a n → bad_value s (marked ms a) (get_or ls n 0) ≡ false
    unfolding bad_links predecessors bad_link link
    right_value c a n i j h at =
        ap (λ (p : ℕ). bad_value s (marked ms a) (get_or ls p 0)) (link_is s.width c a wide i j h n at)
        ∙ none_of (is_predecessor s.width c) (bad_link s ms ls c) s.width 0 (none_below (bad_links s ms ls) s.width c i t.none_bad) a (omega arith)
        (omega (arith, j)) (hears_true s.width c a h)

    pub within_limits : TileLimits s ms ds qs ls
    unfolding over
    within_limits =
        record {
          no_stray = right_marks;
          one_faulty = λ c a b i j l h g p q. by_order a b
              (λ o. by_equal a b (λ e. e) (λ n. absurd (not_two c a b i (omega arith) l h g p q)))
              (λ o. absurd (not_two c b a i o j g h q p));
          slow = λ c i. omega (arith, ltb-false s.drift (get_or ds c 0) (none_below _ s.width c i t.none_fast));
          in_phase = λ c i. omega (arith, ltb-false phase_most (get_or qs c 0) (none_below _ s.width c i t.none_out_of_phase));
          delay = λ c a n i j h at p. delay_of s (marked ms a) (get_or ls n 0) p (right_value c a n i j h at);
          arrival = λ c a n i j h at p. by_equal (get_or ls n 0) silence inr
              (λ o. inl (arrival_of s (marked ms a) (get_or ls n 0) p (right_value c a n i j h at) o));
        }
