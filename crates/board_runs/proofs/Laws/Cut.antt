-- Stamps as they are known at a close: those that come later than its reading are silent. Assumes nothing.
use mathlib.Core.Path.{◌≡◌, refl, sym, ◌∙◌, ap}
use mathlib.Core.List.{List, [], ◌∷◌}
use mathlib.Core.Logic.{◌⊎◌, inl, inr}
use Prim.Native.Nat.{ℕ, suc, ◌≤◌, ◌<◌, min, max}
use lib.ListN.{length}
use native.Mathlib.Omega.{arith}
use Rattle.rule.specs.Stamp.{Stamp, heard, silent, earlier, later, earliest, latest, FromTo, within, All, none, more, AllButOne, this, later_on, unheard_of, unheard_in}

-- what is known of a stamp at a close of reading x
pub data Cut (x : ℕ) : (known full : Stamp) → Type 0 where
  same : {y : Stamp} → Cut x y y
  late : {a : ℕ} → x < a → Cut x silent (heard a)

pub data Cut* (x : ℕ) : (known full : List Stamp) → Type 0 where
  empty : Cut* x [] []
  both : {y z : Stamp} {ys zs : List Stamp} → Cut x y z → Cut* x ys zs → Cut* x (y ∷ ys) (z ∷ zs)

module _ {lo hi x : ℕ} (early : hi ≤ x) where
  -- a stamp that is in time is known
  pub known : {y z : Stamp} → FromTo lo hi z → Cut x y z → y ≡ z
  known p same = refl
  known (within p q) (late k) = let never : ⊥ = omega arith in absurd never

  pub all_known : {ys zs : List Stamp} → All (FromTo lo hi) zs → Cut* x ys zs → ys ≡ zs
  all_known none empty = refl
  all_known (more p q) (both {y = y} {z = z} c d) = rw (known p c, all_known q d)

-- none, or one of the stamps, is later than the reading
pub data OneLate (x lo hi : ℕ) : (known full : List Stamp) → (z : ℕ) → Type 0 where
  here : {z : ℕ} {zs : List Stamp} → x < z → All (FromTo lo hi) zs → OneLate x lo hi (silent ∷ zs) (heard z ∷ zs) z
  there : {z : ℕ} {y : Stamp} {ys zs : List Stamp} → FromTo lo hi y → OneLate x lo hi ys zs z → OneLate x lo hi (y ∷ ys) (y ∷ zs) z

module _ {lo hi x : ℕ} (early : hi ≤ x) where
  pub one_late : {ys zs : List Stamp} → AllButOne (FromTo lo hi) zs → Cut* x ys zs → (ys ≡ zs) ⊎ ((z : ℕ) × OneLate x lo hi ys zs z)
  one_late (this q) (both {ys = ys} {zs = zs} (same {y = y}) d) = inl (ap (λ (l : List Stamp). y ∷ l) (all_known early q d))
  one_late (this q) (both {ys = ys} {zs = zs} (late {a = a} i) d) = inr (a, rw (all_known early q d) (here i q))
  one_late (later_on p q) (both {y = y} {z = z} {ys = ys} {zs = zs} c d) = pick (one_late q d)
    where
      pick : (ys ≡ zs) ⊎ ((a : ℕ) × OneLate x lo hi ys zs a) → ((y ∷ ys) ≡ (z ∷ zs)) ⊎ ((a : ℕ) × OneLate x lo hi (y ∷ ys) (z ∷ zs) a)
      pick (inl e) = inl (rw (known early p c, e))
      pick (inr (a, o)) = inr (a, rw (known early p c) (there p o))

-- how many are silent
pub all_heard : {lo hi : ℕ} {zs : List Stamp} → All (FromTo lo hi) zs → unheard_in zs ≡ 0
unfolding unheard_in unheard_of
all_heard none = refl
all_heard (more (within p q) r) = omega (arith, all_heard r)

pub one_unheard : {lo hi : ℕ} {zs : List Stamp} → AllButOne (FromTo lo hi) zs → unheard_in zs ≤ 1
unfolding unheard_in unheard_of
one_unheard (this {x = heard a} q) = omega (arith, all_heard q)
one_unheard (this {x = silent} q) = omega (arith, all_heard q)
one_unheard (later_on (within p q) r) = omega (arith, one_unheard r)

-- the earliest and the latest of stamps that are all in time
pub latest_by : {lo hi : ℕ} {zs : List Stamp} → All (FromTo lo hi) zs → (m : ℕ) × (latest zs ≡ heard m) × (m ≤ hi)
unfolding latest later
latest_by none = (0, refl, omega arith)
latest_by {hi = hi} (more (within {a = a} p q) r) = let (m, e, i) = latest_by r in (max a m, rw e, omega arith)

data Earliest (lo hi : ℕ) : Stamp → Type 0 where
  of_none : Earliest lo hi silent
  of_some : {l : ℕ} → lo ≤ l → l ≤ hi → Earliest lo hi (heard l)

with_one : {lo hi a : ℕ} {e : Stamp} → lo ≤ a → a ≤ hi → Earliest lo hi e → Earliest lo hi (earlier (heard a) e)
unfolding earlier
with_one {a = a} p q of_none = of_some {l = a} p q
with_one {a = a} p q (of_some {l = l} i k) = of_some {l = min a l} (omega arith) (omega arith)

earliest_in : {lo hi : ℕ} {zs : List Stamp} → All (FromTo lo hi) zs → Earliest lo hi (earliest zs)
unfolding earliest earlier
earliest_in none = of_none
earliest_in (more (within p q) r) = with_one p q (earliest_in r)

-- where one is late: it is the latest, unheard so far, and no earliest
module _ {x lo hi : ℕ} (early : hi ≤ x) where
  pub late_latest : {ys zs : List Stamp} {z : ℕ} → OneLate x lo hi ys zs z → (latest zs ≡ heard z) × (latest ys ≡ silent) × (unheard_in ys ≡ 1) × (x < z)
  unfolding latest later unheard_in unheard_of
  late_latest {z = z} (here i q) =
      let (m, e, k) = latest_by q in
      let most : max z m ≡ z = omega arith in
      (rw e (ap heard most), refl, omega (arith, all_heard q), i)
  late_latest {z = z} (there (within {a = a} p q) o) =
      let (e, f, u, i) = late_latest o in
      let most : max a z ≡ z = omega arith in
      (rw e (ap heard most), rw f, omega (arith, u), i)

  -- beside one in time the late one makes no difference to the earliest
  beside : {ys zs : List Stamp} {z : ℕ} (a : ℕ) → a ≤ hi → OneLate x lo hi ys zs z → earlier (heard a) (earliest ys) ≡ earlier (heard a) (earliest zs)
  unfolding earliest earlier
  beside {z = z} a b (here i q) = pick (earliest_in q)
    where
      pick : {e : Stamp} → Earliest lo hi e → earlier (heard a) e ≡ earlier (heard a) (earlier (heard z) e)
      pick of_none = unfold earlier in ap heard (omega arith)
      pick (of_some m k) = unfold earlier in ap heard (omega arith)
  beside {z = z} a b (there {ys = ys} {zs = zs} (within {a = c} p q) o) =
      earlier_assoc a c (earliest ys) ∙ beside (min a c) (omega arith) o ∙ sym (earlier_assoc a c (earliest zs))
    where
      earlier_assoc : (a c : ℕ) (e : Stamp) → earlier (heard a) (earlier (heard c) e) ≡ earlier (heard (min a c)) e
      earlier_assoc a c (heard e) = unfold earlier in ap heard (omega arith)
      earlier_assoc a c silent = unfold earlier in refl

  known_earliest : {ys zs : List Stamp} {z : ℕ} → OneLate x lo hi ys zs z → Earliest lo hi (earliest ys)
  unfolding earliest earlier
  known_earliest (here i q) = earliest_in q
  known_earliest (there (within {a = a} p q) o) = with_one p q (known_earliest o)

  -- the earliest with one in time
  first_of : {a : ℕ} {e f : Stamp} (z : ℕ) → lo ≤ a → a ≤ hi → hi ≤ z → Earliest lo hi e → earlier (heard a) e ≡ f →
      (l : ℕ) × (earlier (heard a) e ≡ heard l) × (f ≡ heard l) × (lo ≤ l) × (l ≤ z)
  unfolding earlier
  first_of {a} z p q k of_none g = (a, refl, sym g, p, omega arith)
  first_of {a} z p q k (of_some {l = l} b c) g = (min a l, refl, sym g, omega arith, omega arith)

  pub late_earliest : {ys zs : List Stamp} {z : ℕ} → 2 ≤ length zs → OneLate x lo hi ys zs z → (l : ℕ) × (earliest ys ≡ heard l) × (earliest zs ≡ heard l) × (lo ≤ l) × (l ≤ z)
  unfolding earliest earlier
  late_earliest two (here i none) = let never : ⊥ = omega arith in absurd never
  late_earliest two (here {z = z} i (more (within {a = a} p q) r)) = first_of z p q (omega arith) (earliest_in r) (past (earliest_in r))
    where
      past : {e : Stamp} → Earliest lo hi e → earlier (heard a) e ≡ earlier (heard z) (earlier (heard a) e)
      past of_none = unfold earlier in ap heard (omega arith)
      past (of_some b c) = unfold earlier in ap heard (omega arith)
  late_earliest {z = z} two (there (within {a = a} p q) o) =
      let (_, _, _, i) = late_latest o in first_of z p q (omega arith) (known_earliest o) (beside a q o)

-- both lists are as long
pub late_length : {x lo hi : ℕ} {ys zs : List Stamp} {z : ℕ} → OneLate x lo hi ys zs z → length ys ≡ length zs
late_length (here i q) = refl
late_length (there p o) = ap suc (late_length o)
