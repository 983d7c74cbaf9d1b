-- How far one faulty tile reaches, of two runs that differ in nothing else: rows up to its own are the same, later rows are
-- the same outside its cone, and inside it differ by at most 2B + 8h and a tick for each row more. Assumes nothing.
use mathlib.Core.Path.{◌≡◌, refl, sym, ◌∙◌, ap, subst}
use mathlib.Core.Bool.{Bool, true, false, cond, ◌&&◌, or-false, and-false, true≢false}
use mathlib.Core.List.{List}
use Prim.Native.Nat.{ℕ, zero, suc, ◌+◌, ◌-◌, ◌*◌, ◌≤◌, ◌<◌}
use lib.Dec.{eqb}
use lib.ListN.{length, get_or}
use native.Mathlib.Omega.{arith}
use borrow.Author.Tests.{eq-eqb, ne_eqb}
use Rattle.settings.specs.declared.Settings.{Settings}
use Rattle.settings.proofs.Laws.Cases.{by_equal}
use Rattle.columns.specs.Columns.{are_neighbours, columns_from, neighbours, is_predecessor, predecessors, Way, stay, hop, HopsWithin, link}
use Rattle.admission.specs.Call.{Call}
use Rattle.columns.specs.Marks.{marked, faulty_among}
use Rattle.pulse.specs.Pulse.{arrival, stamp, pulse}
use Rattle.runs.specs.Run.{call_at, row_at}
use Rattle.runs.specs.Reach.{AlikeAmong, TwoRuns, apart, widest, gap_below, widest_gap, reach_ticks, Reach}
use Rattle.columns.proofs.Laws.Lists.{by_test}
use Rattle.admission.proofs.Laws.Accepted.{Accepted, accepted}
use Rattle.pulse.proofs.Laws.Stamps.{one, faulty_step}
use Rattle.runs.proofs.Laws.Pulse.{Predecessors, SameClock, same_clock, other_way, pulse_same, pulse_step, Near, pulse_near}
use Rattle.runs.proofs.Laws.Run.{Run, written_at}

-- a sender with the same mark, link value and, where it is correct, time has the same stamp
stamp_same : (s : Settings) (ts ts' : List ℕ) (x y : Call) (c k : ℕ) → SameClock x y c →
    marked x.marks k ≡ marked y.marks k → link s.width x.links c k ≡ link s.width y.links c k → get_or ts k 0 ≡ get_or ts' k 0 →
    stamp s.width ts x c k ≡ stamp s.width ts' y c k
unfolding stamp arrival
stamp_same s ts ts' x y c k d m v t = rw (d.drift, d.phase, m, v, t)

-- two faulty columns are counted
module _ (ms : List ℕ) (f : ℕ → Bool) where
  counted : (k : ℕ) → f k ≡ true → marked ms k ≡ true → cond (f k) (one ms k) 0 ≡ 1
  counted k y m = rw (y, m)

  one_faulty : (k n a : ℕ) → a ≤ k → k < a + n → f k ≡ true → marked ms k ≡ true → 1 ≤ faulty_among ms (columns_from n a f)
  one_faulty k zero a i l y m = let never : ⊥ = omega arith in absurd never
  one_faulty k (suc n) a i l y m =
      by_equal k a
      (λ e. rw (faulty_step ms f n a, ← e) (omega (arith, counted k y m)))
      (λ e. rw (faulty_step ms f n a) (omega (arith, one_faulty k n (suc a) (omega arith) (omega arith) y m)))

  two_faulty : (j k n a : ℕ) → a ≤ j → j < a + n → a ≤ k → k < a + n → f j ≡ true → f k ≡ true → (j ≡ k → ⊥) → marked ms j ≡ true → marked ms k ≡ true →
      2 ≤ faulty_among ms (columns_from n a f)
  two_faulty j k zero a i l i' l' y y' d m m' = let never : ⊥ = omega arith in absurd never
  two_faulty j k (suc n) a i l i' l' y y' d m m' =
      by_equal j a
      (λ e. rw (faulty_step ms f n a, ← e) (omega (arith, counted j y m, one_faulty k n (suc j) (omega arith) (omega arith) y' m')))
      (λ e. by_equal k a
      (λ u. rw (faulty_step ms f n a, ← u) (omega (arith, counted k y' m', one_faulty j n (suc k) (omega arith) (omega arith) y m)))
      (λ u. rw (faulty_step ms f n a)
      (omega (arith, two_faulty j k n (suc a) (omega arith) (omega arith) (omega arith) (omega arith) y y' d m m'))))

-- B bounds the difference of neighbours
module _ (ts : List ℕ) where
  widest_of : (f : ℕ → Bool) (t j n a : ℕ) → a ≤ j → j < a + n → f j ≡ true → apart t (get_or ts j 0) ≤ widest t ts (columns_from n a f)
  unfolding columns_from widest
  widest_of f t j zero a i l y = let never : ⊥ = omega arith in absurd never
  widest_of f t j (suc n) a i l y =
      by_test (f a)
      (λ u. rw u (by_equal a j (λ e. rw (← e) (omega arith)) (λ e. omega (arith, widest_of f t j n (suc a) (omega arith) (omega arith) y))))
      (λ u. rw u (by_equal a j (λ e. absurd (true≢false (sym y ∙ ap f (sym e) ∙ u))) (λ e. widest_of f t j n (suc a) (omega arith) (omega arith) y)))

  gap_of : (w c n : ℕ) → c < n → widest (get_or ts c 0) ts (neighbours w c) ≤ gap_below n w ts
  unfolding gap_below
  gap_of w c zero i = let never : ⊥ = omega arith in absurd never
  gap_of w c (suc n) i = by_equal c n (λ e. rw (← e) (omega arith)) (λ e. omega (arith, gap_of w c n (omega arith)))

  pub neighbours_apart : (w c j : ℕ) → c < w → j < w → are_neighbours w c j ≡ true → apart (get_or ts c 0) (get_or ts j 0) ≤ widest_gap w ts
  unfolding widest_gap neighbours
  neighbours_apart w c j i l t = omega (arith, gap_of w c w i, widest_of (are_neighbours w c) (get_or ts c 0) j w 0 (omega arith) (omega arith) t)

-- beside a faulty predecessor the others are correct
pub others_correct : {s : Settings} {ts : List ℕ} {x : Call} → Accepted s ts x → (c j k : ℕ) → c < s.width → j < s.width → k < s.width →
    is_predecessor s.width c j ≡ true → is_predecessor s.width c k ≡ true → (j ≡ k → ⊥) → marked x.marks k ≡ true → marked x.marks j ≡ false
unfolding predecessors
others_correct {s} {ts} {x} r c j k i l l' p q d m =
    by_test (marked x.marks j)
    (λ t. let never : ⊥ = omega (arith, r.few c i, two_faulty x.marks (is_predecessor s.width c) j k s.width 0 (omega arith) (omega arith) (omega arith) (omega arith) p q d t m) in absurd never)
    (λ t. t)

-- within so many hops is within more
more_hops : {w n m a b : ℕ} → HopsWithin w n a b → n ≤ m → HopsWithin w m a b
more_hops v i = record { hops = v.hops; few = omega (arith, v.few); way = v.way }

-- a predecessor is a hop away
hop_back : {w : ℕ} (n c j k : ℕ) → c < w → is_predecessor w c j ≡ true → HopsWithin w n k j → HopsWithin w (suc n) k c
unfolding is_predecessor
hop_back {w} n c j k i p v =
    by_equal j c
    (λ e. record { hops = v.hops; few = omega (arith, v.few); way = subst (Way w v.hops k) e v.way })
    (λ e. record { hops = suc v.hops; few = omega (arith, v.few); way = hop i (rw (ne_eqb j c e) at p) v.way })

-- the two runs
module _ {s : Settings} {ts : List ℕ} {xs ys : List Call} {rs qs : List (List ℕ)} {f k : ℕ} (run : Run s ts xs rs) (run' : Run s ts ys qs)
    (two : TwoRuns AlikeAmong s.width f k xs ys) where
  abbrev w : ℕ
  w = s.width

  abbrev alike : AlikeAmong w f k xs ys
  alike = two.alike

  -- an accepted call of either, and the pulses that it writes
  first_accepted : (n : ℕ) → n < length xs → Accepted s (row_at ts rs n) (call_at xs n)
  first_accepted n i = accepted s (row_at ts rs n) (call_at xs n) (run.goes n i)

  second_accepted : (n : ℕ) → n < length xs → Accepted s (row_at ts qs n) (call_at ys n)
  second_accepted n i = accepted s (row_at ts qs n) (call_at ys n) (run'.goes n (omega (arith, alike.as_many)))

  first_pulse : (n c : ℕ) → n < length xs → c < w → get_or (row_at ts rs (suc n)) c 0 ≡ pulse s (row_at ts rs n) (call_at xs n) c
  first_pulse n c i j = written_at run n c i j

  second_pulse : (n c : ℕ) → n < length xs → c < w → get_or (row_at ts qs (suc n)) c 0 ≡ pulse s (row_at ts qs n) (call_at ys n) c
  second_pulse n c i j = written_at run' n c (omega (arith, alike.as_many)) j

  clock_same : (n c : ℕ) → n < length xs → SameClock (call_at xs n) (call_at ys n) c
  clock_same n c i = same_clock (alike.drifts n i) (alike.phases n i) c

  -- a tile other than the faulty one has the same mark and link values in both
  same_mark : (n j : ℕ) → n < length xs → j < w → (eqb n f && eqb j k) ≡ false → marked (call_at xs n).marks j ≡ marked (call_at ys n).marks j
  same_mark n j i m e = sym (alike.marks n j i m ∙ rw e (or-false (marked (call_at xs n).marks j)))

  another_row : (n j : ℕ) → (n ≡ f → ⊥) → (eqb n f && eqb j k) ≡ false
  another_row n j d = rw (ne_eqb n f d)

  another_column : (n j : ℕ) → (j ≡ k → ⊥) → (eqb n f && eqb j k) ≡ false
  another_column n j d = rw (ne_eqb j k d) (and-false (eqb n f))

  -- a tile whose predecessors are alike in all, times too, has the same pulse
  same_next : (n c : ℕ) → n < length xs → c < w →
      Predecessors w c (λ j. ((eqb n f && eqb j k) ≡ false) × (get_or (row_at ts rs n) j 0 ≡ get_or (row_at ts qs n) j 0)) →
      get_or (row_at ts rs (suc n)) c 0 ≡ get_or (row_at ts qs (suc n)) c 0
  same_next n c i j e =
      first_pulse n c i j
      ∙ pulse_same s (row_at ts rs n) (row_at ts qs n) (call_at xs n) (call_at ys n) c j (clock_same n c i)
      (λ m o p. let (a, t) = e m o p in
      stamp_same s (row_at ts rs n) (row_at ts qs n) (call_at xs n) (call_at ys n) c m (clock_same n c i) (same_mark n m i o a) (alike.links n c m i j o p a) t)
      ∙ sym (second_pulse n c i j)

  -- rows up to f
  pub up_to : (n c : ℕ) → n ≤ f → n ≤ length xs → c < w → get_or (row_at ts rs n) c 0 ≡ get_or (row_at ts qs n) c 0
  up_to zero c i j o = unfold row_at in refl
  up_to (suc n) c i j o =
      same_next n c (omega arith) o (λ m p t. (another_row n m (omega arith), up_to n m (omega arith) (omega arith) p))

  -- later rows outside the cone: row suc n, where n is i rows past f
  pub outside : (i n c : ℕ) → n ≡ f + i → n < length xs → c < w → (HopsWithin w (suc i) k c → ⊥) →
      get_or (row_at ts rs (suc n)) c 0 ≡ get_or (row_at ts qs (suc n)) c 0
  outside zero n c e j o v =
      same_next n c j o
      (λ m p t. (
        another_column n m (λ q. v (hop_back 0 c m k o t (record { hops = 0; few = omega arith; way = subst (Way w 0 k) (sym q) stay }))),
        up_to n m (omega arith) (omega arith) p,
      ))
  outside (suc i) zero c e j o v = let never : ⊥ = omega arith in absurd never
  outside (suc i) (suc n) c e j o v =
      same_next (suc n) c j o
      (λ m p t. (another_row (suc n) m (omega arith), outside i n m (omega arith) (omega arith) p (λ u. v (hop_back (suc i) c m k o t u))))

  -- inside it
  abbrev B : ℕ
  B = widest_gap w (row_at ts rs f)

  abbrev Close : (n c D : ℕ) → Type 0
  Close n c D = (get_or (row_at ts qs n) c 0 ≤ get_or (row_at ts rs n) c 0 + D) × (get_or (row_at ts rs n) c 0 ≤ get_or (row_at ts qs n) c 0 + D)

  faulty_there : marked (call_at ys f).marks k ≡ true
  faulty_there = alike.marks f k two.row two.column ∙ rw (alike.correct, eq-eqb f f refl, eq-eqb k k refl)

  -- a predecessor other than the faulty tile, in the row after it
  near_of : (c j : ℕ) → c < w → j < w → is_predecessor w c j ≡ true → is_predecessor w c k ≡ true → (j ≡ k → ⊥) →
      Near s (row_at ts rs f) (row_at ts qs f) (call_at xs f) (call_at ys f) c B 0 j
  unfolding apart
  near_of c j o m p q d =
      let i = two.row in
      let same = up_to f j (omega arith) (omega (arith, i)) m in
      let correct' = others_correct (second_accepted f i) c j k o m two.column p q d faulty_there in
      let gap = beside_own c j o m p in
      record {
        correct = same_mark f j i m (another_column f j d) ∙ correct';
        correct' = correct';
        value = alike.links f c j i o m p (another_column f j d);
        later = omega arith;
        earlier = omega arith;
        above = omega arith;
        below = omega arith;
      }
    where
      beside_own : (c j : ℕ) → c < w → j < w → is_predecessor w c j ≡ true → apart (get_or (row_at ts rs f) c 0) (get_or (row_at ts rs f) j 0) ≤ B
      beside_own c j o m p =
          by_equal j c
          (λ e. rw e (unfold apart in omega arith))
          (λ e. neighbours_apart (row_at ts rs f) w c j o m (unfold is_predecessor in (rw (ne_eqb j c e) at p)))

  first_row : (c : ℕ) → c < w → Close (suc f) c (2 * B + 8 * s.unit)
  first_row c o =
      let i = two.row in
      by_test (is_predecessor w c k)
      (λ q. rw (first_pulse f c i o, second_pulse f c i o)
      (omega (arith, pulse_near (first_accepted f i) (second_accepted f i) c o (clock_same f c i) k two.column q B 0 (λ j m p d. near_of c j o m p q d))))
      (λ q. let same = same_next f c i o
      (λ m p t. (another_column f m (λ e. true≢false (sym t ∙ ap (is_predecessor w c) e ∙ q)), up_to f m (omega arith) (omega (arith, i)) p)) in
      omega arith)

  -- the row after a row past f
  next_row : (n c D : ℕ) → f < n → n < length xs → c < w → ((j : ℕ) → j < w → Close n j D) → Close (suc n) c (D + 1)
  next_row n c D i j o close =
      rw (first_pulse n c j o, second_pulse n c j o)
      (omega (
        arith,
        pulse_step (first_accepted n j) (second_accepted n j) c o (clock_same n c j) D
            (λ m p t. record { mark = same_mark n m j p (another_row n m (omega arith)); value = alike.links n c m j o p t (another_row n m (omega arith)); time = λ u. (close m p).0 }),
        pulse_step (second_accepted n j) (first_accepted n j) c o (other_way (clock_same n c j)) D
            (λ m p t. record { mark = sym (same_mark n m j p (another_row n m (omega arith))); value = sym (alike.links n c m j o p t (another_row n m (omega arith))); time = λ u. (close m p).1 }),
      ))

  pub inside : (i n c : ℕ) → n ≡ f + i → n < length xs → c < w → Close (suc n) c (2 * B + 8 * s.unit + i)
  inside zero n c e j o =
      let here : f ≡ n = omega arith in
      subst (λ (m : ℕ). Close (suc m) c (2 * B + 8 * s.unit + 0)) here (omega (arith, first_row c o))
  inside (suc i) zero c e j o = let never : ⊥ = omega arith in absurd never
  inside (suc i) (suc n) c e j o =
      omega (arith, next_row (suc n) c (2 * B + 8 * s.unit + i) (omega arith) j o (λ m p. inside i n m (omega arith) (omega arith) p))

  -- a row past f
  beyond : (n c : ℕ) → f < n → n ≤ length xs → c < w → (HopsWithin w (n - f) k c → ⊥) → get_or (row_at ts rs n) c 0 ≡ get_or (row_at ts qs n) c 0
  beyond zero c i j o v = let never : ⊥ = omega arith in absurd never
  beyond (suc n) c i j o v = outside (n - f) n c (omega arith) (omega arith) o (λ u. v (more_hops u (omega arith)))

  within : (n c : ℕ) → f < n → n ≤ length xs → c < w → Close n c (2 * B + 8 * s.unit + (n - f - 1))
  within zero c i j o = let never : ⊥ = omega arith in absurd never
  within (suc n) c i j o = omega (arith, inside (n - f) n c (omega arith) (omega arith) o)

  -- §12.3 of the two runs: a bound that is at least this one, and hops that are at least these, follow by arithmetic
  pub reach : Reach s ts f k rs qs
  unfolding apart reach_ticks
  reach =
      record {
        before = λ n c i j. up_to n c i (omega (arith, two.row)) j;
        far = λ n c i j o v. beyond n c i (omega (arith, run.as_many)) o (λ u. v (more_hops u (omega arith)));
        near = λ n c i j o. omega (arith, within n c i (omega (arith, run.as_many)) o);
      }
