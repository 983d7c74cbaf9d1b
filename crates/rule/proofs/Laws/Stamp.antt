-- The earliest and latest of some stamps, with silence last: they grow with the stamps, move with them, and bound them. Assumes nothing.
use mathlib.Core.Path.{◌≡◌, refl, ◌∙◌, ap}
use mathlib.Core.List.{List, [], ◌∷◌, map}
use Prim.Native.Nat.{ℕ, suc, ◌≤◌, ◌<◌, zero-le, min, max}
use lib.ListN.{length}
use native.Mathlib.Nat.{le_refl, le_trans, min-le_left, min-le_right, le-max_left, le-max_right, le-min, max-le}
use native.Mathlib.Omega.{arith}
use Rattle.rule.specs.Stamp.{Stamp, heard, silent, ◌≼◌, in_order, last, earlier, later, earliest, latest, after, ◌≼*◌, none, both, ◌∈◌, here, there, FromTo, within, All, more, unheard_of, unheard_in}

pub ≼_refl : (x : Stamp) → x ≼ x
≼_refl (heard a) = in_order (le_refl a)
≼_refl silent = last

pub ≼_trans : {x y z : Stamp} → x ≼ y → y ≼ z → x ≼ z
≼_trans (in_order p) (in_order q) = in_order (le_trans p q)
≼_trans p last = last

-- of two
earlier_left : (x y : Stamp) → earlier x y ≼ x
unfolding earlier
earlier_left (heard a) (heard b) = in_order (min-le_left a b)
earlier_left (heard a) silent = in_order (le_refl a)
earlier_left silent y = last

earlier_right : (x : Stamp) {y z : Stamp} → y ≼ z → earlier x y ≼ z
unfolding earlier
earlier_right (heard a) (in_order {a = b} p) = in_order (le_trans (min-le_right a b) p)
earlier_right (heard a) last = last
earlier_right silent p = p

later_left : (x y : Stamp) → x ≼ later x y
unfolding later
later_left (heard a) (heard b) = in_order (le-max_left a b)
later_left (heard a) silent = last
later_left silent y = last

later_right : (x : Stamp) {y z : Stamp} → z ≼ y → z ≼ later x y
unfolding later
later_right (heard a) (in_order {b = b} p) = in_order (le_trans p (le-max_right a b))
later_right (heard a) last = last
later_right silent p = last

earlier_least : {x y z : Stamp} → z ≼ x → z ≼ y → z ≼ earlier x y
unfolding earlier
earlier_least (in_order p) (in_order q) = in_order (le-min p q)
earlier_least (in_order p) last = in_order p
earlier_least last q = q

later_most : {x y z : Stamp} → x ≼ z → y ≼ z → later x y ≼ z
unfolding later
later_most (in_order p) (in_order q) = in_order (max-le p q)
later_most p last = last

-- a stamp among some lies from their earliest to their latest
pub earliest_∈ : {x : Stamp} {xs : List Stamp} → x ∈ xs → earliest xs ≼ x
unfolding earliest
earliest_∈ {x} (here {xs = xs}) = earlier_left x (earliest xs)
earliest_∈ (there {y = y} p) = earlier_right y (earliest_∈ p)

pub latest_∈ : {x : Stamp} {xs : List Stamp} → x ∈ xs → x ≼ latest xs
unfolding latest
latest_∈ {x} (here {xs = xs}) = later_left x (latest xs)
latest_∈ (there {y = y} p) = later_right y (latest_∈ p)

pub earliest_≼_latest : (x : Stamp) (xs : List Stamp) → earliest (x ∷ xs) ≼ latest (x ∷ xs)
earliest_≼_latest x xs = ≼_trans {y = x} (earliest_∈ here) (latest_∈ here)

-- of lists in order
pub as_long : {xs ys : List Stamp} → xs ≼* ys → length xs ≡ length ys
as_long none = refl
as_long (both p q) = ap suc (as_long q)

pub earliest_mono : {xs ys : List Stamp} → xs ≼* ys → earliest xs ≼ earliest ys
unfolding earliest
earliest_mono none = last
earliest_mono (both {x = x} {y = y} {xs = xs} {ys = ys} p q) =
    earlier_least (≼_trans (earlier_left x (earliest xs)) p) (earlier_right x (earliest_mono q))

pub latest_mono : {xs ys : List Stamp} → xs ≼* ys → latest xs ≼ latest ys
unfolding latest
latest_mono none = in_order (le_refl 0)
latest_mono (both {x = x} {y = y} {xs = xs} {ys = ys} p q) =
    later_most (≼_trans p (later_left y (latest ys))) (later_right y (latest_mono q))

-- of stamps in a range
module _ {lo hi : ℕ} where
  earlier_within : {x y : Stamp} → FromTo lo hi x → FromTo lo hi y → FromTo lo hi (earlier x y)
  unfolding earlier
  earlier_within (within {a = a} p q) (within {a = b} r s) = within (le-min p r) (le_trans (min-le_left a b) q)

  later_within : {x y : Stamp} → FromTo lo hi x → FromTo lo hi y → FromTo lo hi (later x y)
  unfolding later
  later_within (within {a = a} p q) (within {a = b} r s) = within (le_trans p (le-max_left a b)) (max-le q s)

  pub earliest_within : {x : Stamp} {xs : List Stamp} → FromTo lo hi x → All (FromTo lo hi) xs → FromTo lo hi (earliest (x ∷ xs))
  unfolding earliest earlier
  earliest_within (within p q) none = within p q
  earliest_within p (more q r) = earlier_within p (earliest_within q r)

  pub latest_within : {x : Stamp} {xs : List Stamp} → FromTo lo hi x → All (FromTo lo hi) xs → FromTo lo hi (latest (x ∷ xs))
  unfolding latest later
  latest_within (within {a = a} p q) none = within (le_trans p (le-max_left a 0)) (max-le q zero-le)
  latest_within p (more q r) = later_within p (latest_within q r)

-- the earliest is heard where one is, the latest where all are
pub earliest_heard : (xs : List Stamp) → unheard_in xs < length xs → (a : ℕ) × (earliest xs ≡ heard a)
unfolding earliest earlier unheard_in unheard_of
earliest_heard [] i = let never : ⊥ = omega arith in absurd never
earliest_heard (heard a ∷ xs) i = pick (earliest xs)
  where
    pick : (y : Stamp) → (b : ℕ) × (earlier (heard a) y ≡ heard b)
    pick (heard b) = (min a b, refl)
    pick silent = (a, refl)
earliest_heard (silent ∷ xs) i = earliest_heard xs (omega arith)

pub latest_heard : (xs : List Stamp) → unheard_in xs ≡ 0 → (m : ℕ) × (latest xs ≡ heard m)
unfolding latest later unheard_in unheard_of
latest_heard [] e = (0, refl)
latest_heard (heard a ∷ xs) e =
    let (m, p) = latest_heard xs (omega arith) in
    (max a m, rw p)
latest_heard (silent ∷ xs) e = let never : ⊥ = omega arith in absurd never

-- silent, or heard by hi
pub data By (hi : ℕ) : Stamp → Type 0 where
  heard_by : {a : ℕ} → a ≤ hi → By hi (heard a)
  unheard : By hi silent

pub earlier_by : {hi : ℕ} {x y : Stamp} → By hi x → By hi y → By hi (earlier x y)
unfolding earlier
earlier_by (heard_by {a = a} p) (heard_by {a = b} q) = heard_by (le_trans (min-le_left a b) p)
earlier_by (heard_by p) unheard = heard_by p
earlier_by unheard q = q

pub later_by : {hi : ℕ} {x y : Stamp} → By hi x → By hi y → By hi (later x y)
unfolding later
later_by (heard_by p) (heard_by q) = heard_by (max-le p q)
later_by (heard_by p) unheard = unheard
later_by unheard q = unheard

pub earliest_by : {hi : ℕ} {xs : List Stamp} → All (By hi) xs → By hi (earliest xs)
unfolding earliest
earliest_by none = unheard
earliest_by (more p q) = earlier_by p (earliest_by q)

pub latest_by : {hi : ℕ} {xs : List Stamp} → All (By hi) xs → By hi (latest xs)
unfolding latest
latest_by none = heard_by zero-le
latest_by (more p q) = later_by p (latest_by q)

-- all n later
module _ (n : ℕ) where
  earlier_after : (x y : Stamp) → earlier (after n x) (after n y) ≡ after n (earlier x y)
  unfolding earlier after
  earlier_after (heard a) (heard b) = ap heard (omega arith)
  earlier_after (heard a) silent = refl
  earlier_after silent y = refl

  later_after : (x y : Stamp) → later (after n x) (after n y) ≡ after n (later x y)
  unfolding later after
  later_after (heard a) (heard b) = ap heard (omega arith)
  later_after (heard a) silent = refl
  later_after silent y = refl

  pub earliest_after : (xs : List Stamp) → earliest (map (after n) xs) ≡ after n (earliest xs)
  unfolding earliest after
  earliest_after [] = refl
  earliest_after (x ∷ xs) = ap (earlier (after n x)) (earliest_after xs) ∙ earlier_after x (earliest xs)

  pub latest_after : (x : Stamp) (xs : List Stamp) → latest (map (after n) (x ∷ xs)) ≡ after n (latest (x ∷ xs))
  unfolding latest later after
  latest_after (heard a) [] = ap heard (omega arith)
  latest_after silent [] = refl
  latest_after x (y ∷ xs) = ap (later (after n x)) (latest_after y xs) ∙ later_after x (latest (y ∷ xs))
