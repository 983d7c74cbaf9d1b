-- The stamps of a tile of an accepted row: each is heard by 2^41 - 1 or silent, at most one is silent, and a correct
-- sender's is heard. So no tile of such a row is turned away with 11, 12 or 13. Assumes nothing.
use mathlib.Core.Path.{◌≡◌, refl, sym, ◌∙◌, ap}
use mathlib.Core.Bool.{Bool, true, false, cond, ◌||◌}
use mathlib.Core.List.{List, ◌∷◌, map}
use Prim.Native.Nat.{ℕ, zero, suc, ◌+◌, ◌≤◌, ◌<◌}
use lib.Dec.{eqb}
use lib.ListN.{length, get_or}
use native.Mathlib.Nat.{mul-le-mul_left}
use native.Mathlib.Omega.{arith}
use borrow.Author.Tests.{eq-eqb, ne_eqb}
use Rattle.rule.specs.Clock.{Admitted, reads}
use Rattle.rule.specs.Stamp.{Stamp, heard, silent, silence, All, unheard_of, unheard_in, latest_stamp}
use Rattle.settings.specs.declared.Settings.{Settings}
use Rattle.rule.specs.declared.clock.Clock.{Clock}
use Rattle.rule.specs.Promises.{Tile}
use Rattle.settings.proofs.Laws.Cases.{by_equal}
use Rattle.settings.proofs.Laws.Settings.{limits}
use Rattle.rule.proofs.Laws.Stamp.{By, heard_by, unheard}
use Rattle.rule.proofs.Laws.Coded.{stamp_silent, stamp_heard}
use Rattle.columns.specs.Columns.{are_neighbours, columns_from, neighbours, is_predecessor, predecessors, link}
use Rattle.admission.specs.Call.{Call}
use Rattle.links.specs.Links.{latest_time}
use Rattle.columns.specs.Window.{four_senders}
use Rattle.columns.specs.Marks.{marked, faulty_among}
use Rattle.pulse.specs.Pulse.{arrives, arrival, read_at, clock_of, stamp}
use Rattle.columns.proofs.Laws.Columns.{beside, strangers}
use Rattle.columns.proofs.Laws.Lists.{by_test, columns_all}
use Rattle.admission.proofs.Laws.Accepted.{Accepted}
use Rattle.pulse.proofs.Laws.Arranged.{wherever}
use Rattle.pulse.proofs.Laws.Senders.{placed}

-- 1 for a faulty column
abbrev pub one : (marks : List ℕ) → ℕ → ℕ
one ms k = cond (marked ms k) 1 0

-- a reading of an arrival of an accepted row
reads_small : (k : Clock) (a : ℕ) → Admitted k → a ≤ latest_time + 1000000 → reads k.drift k.phase a ≤ latest_stamp
unfolding reads
reads_small k a i j = omega (arith, i.in_phase, mul-le-mul_left a i.slow)

-- the faulty among columns, one by one
pub faulty_step : (ms : List ℕ) (f : ℕ → Bool) (n a : ℕ) →
    faulty_among ms (columns_from (suc n) a f) ≡ cond (f a) (one ms a) 0 + faulty_among ms (columns_from n (suc a) f)
unfolding columns_from
faulty_step ms f n a = pick (f a)
  where
    rest : List ℕ
    rest = columns_from n (suc a) f

    pick : (b : Bool) → faulty_among ms (cond b (a ∷ rest) rest) ≡ cond b (one ms a) 0 + faulty_among ms rest
    pick true = unfold faulty_among in refl
    pick false = omega arith

module _ (ms : List ℕ) (g : ℕ → Bool) (c : ℕ) where
  abbrev or_own : ℕ → Bool
  or_own k = eqb k c || g k

  -- among the columns that are c or that g takes
  past_own : (n a : ℕ) → c < a → faulty_among ms (columns_from n a or_own) ≡ faulty_among ms (columns_from n a g)
  past_own zero a i = unfold columns_from in refl
  past_own (suc n) a i =
      faulty_step ms or_own n a
      ∙ rw (ne_eqb a c (omega arith), past_own n (suc a) (omega arith)) (sym (faulty_step ms g n a))

  with_own : g c ≡ false → (n a : ℕ) → a ≤ c → c < a + n →
      faulty_among ms (columns_from n a or_own) ≡ one ms c + faulty_among ms (columns_from n a g)
  with_own out zero a i j = let never : ⊥ = omega arith in absurd never
  with_own out (suc n) a i j =
      by_equal a c
      (λ e. faulty_step ms or_own n a
      ∙ rw (eq-eqb a c e, past_own n (suc a) (omega arith), faulty_step ms g n a, ap g e ∙ out) (omega (arith, ap (one ms) e)))
      (λ e. faulty_step ms or_own n a
      ∙ rw (ne_eqb a c e, with_own out n (suc a) (omega arith) (omega arith), faulty_step ms g n a) (omega arith))

unheard_most : (y : Stamp) → unheard_of y ≤ 1
unfolding unheard_of
unheard_most (heard a) = omega arith
unheard_most silent = omega arith

-- a tile of an accepted row
module _ {s : Settings} {ts : List ℕ} {x : Call} (r : Accepted s ts x) (c : ℕ) (i : c < s.width) where
  pub admitted : Admitted (clock_of x.drifts x.phases c)
  admitted = record { slow = omega (arith, r.slow c i, (limits s r.settings).drift); in_phase = r.in_phase c i }

  -- a correct sender is heard
  pub correct_heard : (k : ℕ) → marked x.marks k ≡ false →
      stamp s.width ts x c k ≡ heard (reads (get_or x.drifts c 0) (get_or x.phases c 0) (get_or ts k 0 + link s.width x.links c k))
  unfolding stamp arrival arrives read_at
  correct_heard k m = rw m

  -- a faulty one is as its link says
  pub faulty_silent : (k : ℕ) → marked x.marks k ≡ true → link s.width x.links c k ≡ silence → stamp s.width ts x c k ≡ silent
  unfolding stamp arrival arrives read_at
  faulty_silent k m e = rw (m, stamp_silent (link s.width x.links c k) e)

  pub faulty_heard : (k : ℕ) → marked x.marks k ≡ true → (link s.width x.links c k ≡ silence → ⊥) →
      stamp s.width ts x c k ≡ heard (reads (get_or x.drifts c 0) (get_or x.phases c 0) (link s.width x.links c k))
  unfolding stamp arrival arrives read_at
  faulty_heard k m n = rw (m, stamp_heard (link s.width x.links c k) n)

  pub stamp_by : (k : ℕ) → k < s.width → is_predecessor s.width c k ≡ true → By latest_stamp (stamp s.width ts x c k)
  stamp_by k j p =
      by_test (marked x.marks k)
      (λ m. by_equal (link s.width x.links c k) silence
      (λ e. rw (faulty_silent k m e) unheard)
      (λ n. rw (faulty_heard k m n) (heard_by (reads_small (clock_of x.drifts x.phases c) (link s.width x.links c k) admitted (omega (arith, r.arrival c k i j p m n))))))
      (λ m. rw (correct_heard k m)
      (heard_by (reads_small (clock_of x.drifts x.phases c) (get_or ts k 0 + link s.width x.links c k) admitted
      (omega (arith, r.time k j m, r.delay c k i j p m, (limits s r.settings).delay)))))

  -- at most one is silent
  silent_one : (k : ℕ) → unheard_of (stamp s.width ts x c k) ≤ one x.marks k
  unfolding unheard_of
  silent_one k = by_test (marked x.marks k) (λ m. rw m (unheard_most (stamp s.width ts x c k))) (λ m. rw (m, correct_heard k m) (omega arith))

  silent_among : (f : ℕ → Bool) (n a : ℕ) → unheard_in (map (stamp s.width ts x c) (columns_from n a f)) ≤ faulty_among x.marks (columns_from n a f)
  unfolding columns_from unheard_in faulty_among
  silent_among f zero a = omega arith
  silent_among f (suc n) a =
      by_test (f a)
      (λ t. rw t (omega (arith, silent_one a, silent_among f n (suc a))))
      (λ t. rw t (silent_among f n (suc a)))

  pub few_silent : unheard_of (stamp s.width ts x c c) + unheard_in (map (stamp s.width ts x c) (neighbours s.width c)) ≤ 1
  unfolding neighbours
  few_silent =
      omega (
        arith,
        r.few c i,
        own_among,
        silent_one c,
        silent_among (are_neighbours s.width c) s.width 0,
      )
    where
      own_among : faulty_among x.marks (predecessors s.width c)
          ≡ one x.marks c + faulty_among x.marks (columns_from s.width 0 (are_neighbours s.width c))
      own_among =
          unfold predecessors is_predecessor in
          with_own x.marks (are_neighbours s.width c) c (strangers s.width c c (omega (arith, (limits s r.settings).width))) s.width 0 (omega arith) (omega arith)

  -- a neighbour is a predecessor
  pub neighbours_by : All (By latest_stamp) (map (stamp s.width ts x c) (neighbours s.width c))
  unfolding neighbours
  neighbours_by =
      columns_all (are_neighbours s.width c) (By latest_stamp) (stamp s.width ts x c) s.width 0
      (λ k j l t. stamp_by k (omega arith) (beside s.width c k t))

-- every column has two neighbours or three
pub two_neighbours : {w c : ℕ} (f : ℕ → Stamp) → 6 ≤ w → c < w → 2 ≤ length (map f (neighbours w c))
two_neighbours {w} {c} f wide i = wherever _ _ _ _ (λ own a b e. rw e.1 (omega arith)) (placed w c wide i)

pub at_most_three : {w c : ℕ} (f : ℕ → Stamp) → 6 ≤ w → c < w → length (map f (neighbours w c)) ≤ 3
at_most_three {w} {c} f wide i =
    by_test (four_senders w c)
    (λ q. wherever _ _ _ _ (λ own a b e. rw (e.1, q) (omega arith)) (placed w c wide i))
    (λ q. wherever _ _ _ _ (λ own a b e. rw (e.1, q) (omega arith)) (placed w c wide i))

pub tile_of : {s : Settings} {ts : List ℕ} {x : Call} → Accepted s ts x → (c : ℕ) → c < s.width → (f : ℕ → Stamp) → Tile s (map f (neighbours s.width c))
tile_of {s} r c i f = record { checked = r.settings; two = two_neighbours f (limits s r.settings).width.0 i }
