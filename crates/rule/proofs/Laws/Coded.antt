-- Stamps as numbers, 2^64 - 1 for silence: their order is that of the numbers, and P and the letter by cases on the numbers. Assumes nothing.
use mathlib.Core.Path.{◌≡◌, refl}
use mathlib.Core.Bool.{cond}
use mathlib.Core.List.{[], ◌∷◌}
use mathlib.Core.Logic.{◌⊎◌, inl, inr}
use Prim.Native.Nat.{ℕ, ◌+◌, ◌-◌, ◌*◌, ◌≤◌, ◌<◌, zero-le, min, max}
use lib.Dec.{ltb}
use native.Mathlib.Decide.{ℕ_discrete}
use native.Mathlib.Omega.{arith}
use borrow.Author.Tests.{eq-eqb, ne_eqb}
use Rattle.rule.specs.Stamp.{Stamp, heard, silent, ◌≼◌, in_order, last, silence, stamp_of, code_of, earlier, later, earliest, latest}
use Rattle.rule.specs.Closed.{heard_P, closed_P, Forwardable}
use Rattle.rule.specs.Letter.{heard_letter, letter}
use Rattle.rule.specs.declared.letter.Letter.TheVariants.{Kept, Early, Late}
use Rattle.settings.specs.Settings.{step_of}
use Rattle.settings.specs.declared.Settings.{Settings}
use Rattle.rule.proofs.Laws.Letter.{letter_unheard}
use Rattle.rule.proofs.Laws.Stamp.{By, heard_by, unheard, earlier_by, later_by}
use Rattle.settings.proofs.Laws.Settings.{Limits, step_small}
use Rattle.rule.proofs.Laws.Forward.{Enough, with_own, without_own, P_most}

pub stamp_silent : (v : ℕ) → v ≡ silence → stamp_of v ≡ silent
unfolding stamp_of
stamp_silent v e = rw (eq-eqb v silence e)

pub stamp_heard : (v : ℕ) → (v ≡ silence → ⊥) → stamp_of v ≡ heard v
unfolding stamp_of
stamp_heard v n = rw (ne_eqb v silence n)

pub silent_or_not : (v : ℕ) → (v ≡ silence → ⊥) ⊎ (v ≡ silence)
silent_or_not v = pick (ℕ_discrete v silence)
  where
    pick : Dec (v ≡ silence) → (v ≡ silence → ⊥) ⊎ (v ≡ silence)
    pick (yes e) = inr e
    pick (no n) = inl n

module _ (h j own least most : ℕ) where
  pub coded_own_silent : own ≡ silence → (most ≡ silence → ⊥) → closed_P h j (stamp_of own) (stamp_of least) (stamp_of most) ≡ most + 3 * h
  unfolding closed_P
  coded_own_silent e n = rw (stamp_silent own e, stamp_heard most n)

  pub coded_neighbour_silent : (own ≡ silence → ⊥) → (least ≡ silence → ⊥) → most ≡ silence →
      closed_P h j (stamp_of own) (stamp_of least) (stamp_of most) ≡ max own (least - 3 * h)
  unfolding closed_P
  coded_neighbour_silent n k e = rw (stamp_heard own n, stamp_heard least k, stamp_silent most e)

  pub coded_heard : (own ≡ silence → ⊥) → (least ≡ silence → ⊥) → (most ≡ silence → ⊥) →
      closed_P h j (stamp_of own) (stamp_of least) (stamp_of most) ≡ heard_P h j own least most
  unfolding closed_P
  coded_heard n k i = rw (stamp_heard own n, stamp_heard least k, stamp_heard most i)

  pub letter_own_silent : own ≡ silence → letter h j (stamp_of own) (stamp_of least) (stamp_of most) ≡ Late
  unfolding letter
  letter_own_silent e = rw (stamp_silent own e)

  pub letter_neighbour_silent : 0 < h → (own ≡ silence → ⊥) → (least ≡ silence → ⊥) → most ≡ silence →
      letter h j (stamp_of own) (stamp_of least) (stamp_of most) ≡ cond (ltb own (least - 3 * h)) Early Kept
  letter_neighbour_silent pos_h n k e = rw (stamp_heard own n, stamp_heard least k, stamp_silent most e) (letter_unheard pos_h j own least)

  pub letter_all_heard : (own ≡ silence → ⊥) → (least ≡ silence → ⊥) → (most ≡ silence → ⊥) →
      letter h j (stamp_of own) (stamp_of least) (stamp_of most) ≡ heard_letter h j own least most
  unfolding letter
  letter_all_heard n k i = rw (stamp_heard own n, stamp_heard least k, stamp_heard most i)

-- a number up to hi below silence is a stamp heard by hi
stamp_by : {hi : ℕ} (v : ℕ) → ((v ≡ silence → ⊥) → v ≤ hi) → By hi (stamp_of v)
stamp_by {hi} v i = pick (silent_or_not v)
  where
    pick : (v ≡ silence → ⊥) ⊎ (v ≡ silence) → By hi (stamp_of v)
    pick (inl n) = rw (stamp_heard v n) (heard_by (i n))
    pick (inr e) = rw (stamp_silent v e) unheard

-- what the code asks, as facts of stamps
module _ {h j own least most : ℕ} (f : Forwardable h j own least most) where
  least_is_heard : stamp_of least ≡ heard least
  least_is_heard = stamp_heard least (λ e. omega (arith, f.least_heard))

  most_after : (v : ℕ) → least ≤ v → (v ≡ silence → ⊥) ⊎ (v ≡ silence) → heard least ≼ stamp_of v
  most_after v i (inl n) = rw (stamp_heard v n) (in_order i)
  most_after v i (inr e) = rw (stamp_silent v e) last

  pub stamps_ordered : stamp_of least ≼ stamp_of most
  stamps_ordered = rw least_is_heard (most_after most f.ordered (silent_or_not most))

  enough_heard : (own ≡ silence → ⊥) ⊎ (own ≡ silence) → Enough (stamp_of own) (heard least) (stamp_of most)
  enough_heard (inl n) = rw (stamp_heard own n) with_own
  enough_heard (inr e) = rw (stamp_silent own e, stamp_heard most (λ q. omega (arith, f.enough e))) without_own

  pub stamps_enough : Enough (stamp_of own) (stamp_of least) (stamp_of most)
  stamps_enough = rw least_is_heard (enough_heard (silent_or_not own))

  pub P_small : closed_P h j (stamp_of own) (stamp_of least) (stamp_of most) ≤ 4398046698604
  P_small =
      omega (
        arith,
        f.unit_most,
        P_most f.unit_least j {hi = 4398046511104} stamps_enough stamps_ordered
            (stamp_by own f.own_heard) (stamp_by least (λ n. f.least_heard)) (stamp_by most f.most_heard),
      )

-- and back: stamps up to 2^42 as numbers
module _ {hi : ℕ} (small : hi ≤ 4398046511104) where
  pub code_stamp : {x : Stamp} → By hi x → stamp_of (code_of x) ≡ x
  unfolding code_of
  code_stamp (heard_by {a = a} p) = stamp_heard a (λ e. omega arith)
  code_stamp unheard = stamp_silent silence refl

  code_heard : {x : Stamp} → By hi x → (code_of x ≡ silence → ⊥) → code_of x ≤ 4398046511104
  unfolding code_of
  code_heard (heard_by p) n = omega arith
  code_heard unheard n = absurd (n refl)

  pub code_mono : {x y : Stamp} → By hi x → x ≼ y → code_of x ≤ code_of y
  unfolding code_of
  code_mono p (in_order i) = i
  code_mono (heard_by p) last = omega arith
  code_mono unheard last = omega arith

  pub code_earlier : {x y : Stamp} → By hi x → By hi y → min (code_of x) (code_of y) ≡ code_of (earlier x y)
  unfolding code_of earlier
  code_earlier (heard_by p) (heard_by q) = refl
  code_earlier (heard_by p) unheard = omega arith
  code_earlier unheard (heard_by q) = omega arith
  code_earlier unheard unheard = refl

  pub code_later : {x y : Stamp} → By hi x → By hi y → max (code_of x) (code_of y) ≡ code_of (later x y)
  unfolding code_of later
  code_later (heard_by p) (heard_by q) = refl
  code_later (heard_by p) unheard = omega arith
  code_later unheard (heard_by q) = omega arith
  code_later unheard unheard = refl

  code_most : {x : Stamp} → By hi x → code_of x ≤ silence
  unfolding code_of
  code_most (heard_by p) = omega arith
  code_most unheard = omega arith

  -- of two stamps and of three
  pub earliest_two : {x y : Stamp} → By hi x → By hi y → min (code_of x) (code_of y) ≡ code_of (earliest (x ∷ y ∷ []))
  unfolding earliest code_of
  earliest_two a b = omega (arith, code_earlier a (earlier_by b unheard), code_earlier b unheard, code_most b)

  pub earliest_three : {x y z : Stamp} → By hi x → By hi y → By hi z →
      min (min (code_of x) (code_of y)) (code_of z) ≡ code_of (earliest (x ∷ y ∷ z ∷ []))
  unfolding earliest
  earliest_three a b c = omega (arith, code_earlier a (earlier_by b (earlier_by c unheard)), earliest_two b c)

  pub latest_two : {x y : Stamp} → By hi x → By hi y → max (code_of x) (code_of y) ≡ code_of (latest (x ∷ y ∷ []))
  unfolding latest code_of
  latest_two a b = omega (arith, code_later a (later_by b start), code_later b start)
    where
      start : By hi (heard 0)
      start = heard_by zero-le

  pub latest_three : {x y z : Stamp} → By hi x → By hi y → By hi z →
      max (max (code_of x) (code_of y)) (code_of z) ≡ code_of (latest (x ∷ y ∷ z ∷ []))
  unfolding latest
  latest_three a b c = omega (arith, code_later a (later_by b (later_by c (heard_by zero-le))), latest_two b c)

  -- what the code asks holds of checked settings and of stamps of which enough are heard
  pub forwardable : {s : Settings} {own l m : Stamp} → Limits s → Enough own l m → l ≼ m → By hi own → By hi l → By hi m →
      Forwardable s.unit (step_of s) (code_of own) (code_of l) (code_of m)
  unfolding step_of
  forwardable {s} {own} {l} {m} k e i a b c =
      record {
        unit_least = k.unit.0;
        unit_most = k.unit.1;
        step_most = omega (arith, step_small s.unit s.drift k.unit.0 k.drift, k.unit.1);
        ordered = code_mono b i;
        least_heard = least e b;
        own_heard = code_heard a;
        most_heard = code_heard c;
        enough = most e a c;
      }
    where
      least : {o l m : Stamp} → Enough o l m → By hi l → code_of l ≤ 4398046511104
      least with_own (heard_by p) = unfold code_of in omega arith
      least without_own (heard_by p) = unfold code_of in omega arith

      most : {o l m : Stamp} → Enough o l m → By hi o → By hi m → code_of o ≡ silence → code_of m ≤ 4398046511104
      most with_own (heard_by p) q r = let never : ⊥ = unfold code_of in omega arith in absurd never
      most without_own p (heard_by q) r = unfold code_of in omega arith
