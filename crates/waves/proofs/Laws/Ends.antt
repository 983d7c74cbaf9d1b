-- The ends of words: in whatever order they are gone through, and what they tell is the largest and the smallest of the
-- words' gaps. Assumes nothing.
use mathlib.Core.Path.{◌≡◌, refl, sym, ◌∙◌, ap}
use mathlib.Core.Bool.{Bool, true, false}
use mathlib.Core.List.{List, [], ◌∷◌, ◌++◌, append-nil}
use Prim.Native.Nat.{ℕ, suc, ◌+◌, ◌^◌, ◌≤◌, ◌<◌, min, max}
use native.Mathlib.Omega.{arith}
use lib.IntN.{ℤ, pos, neg_ℤ}
use lib.Signed.{mag, ◌≤ℤ◌}
use borrow.Author.Tests.{ne_eqb}
use Rattle.settings.proofs.Laws.Refusal.{inside, within, below}
use Rattle.settings.proofs.Laws.Cases.{by_order}
use Rattle.rule.specs.Signed.{larger, smaller}
use Rattle.rule.proofs.Laws.Signed.{minus, sub_same, sub_pos, sub_neg, sub_≤, sub_larger, sub_smaller}
use Rattle.seam.specs.Seam.{latest}
use Rattle.waves.specs.Reading.{with_some, largest, smallest, extremes}
use Rattle.waves.specs.State.{no_gap, signed, gap_at, gaps_at, level, most}
use Rattle.waves.specs.Ends.{half_gap_at, with_word, ends_of, ToldWords, told}
use Rattle.waves.specs.declared.ends.Ends.{Ends}

pub gap_word : (x : ℕ) → no_gap x ≡ false → (1 ≤ x) × (x ≤ most)
unfolding no_gap
gap_word x e = inside 1 most x e

pub is_gap : (x : ℕ) → 1 ≤ x → x ≤ most → no_gap x ≡ false
unfolding no_gap
is_gap x i k = within 1 most x i k

pub open_word : no_gap 0 ≡ true
unfolding no_gap
open_word = below 1 most 0 (omega arith)

abbrev ends : (largest smallest : ℕ) → Ends
ends l s = record { largest = l; smallest = s }

module _ (x : ℕ) (e : Ends) where
  pub no_word : no_gap x ≡ true → with_word x e ≡ e
  unfolding with_word
  no_word n = rw n

  pub one_word : no_gap x ≡ false → with_word x e ≡ record { largest = max x e.largest; smallest = min x e.smallest }
  unfolding with_word
  one_word n = rw n

-- two words in either order
swap_ends : (a b c d : ℕ) → a ≡ c → b ≡ d → ends a b ≡ ends c d
swap_ends a b c d p q = rw (p, q)

swap_words : (x y : ℕ) (e : Ends) → with_word x (with_word y e) ≡ with_word y (with_word x e)
swap_words x y e = go (no_gap x) (no_gap y) refl refl
  where
    go : (a b : Bool) → no_gap x ≡ a → no_gap y ≡ b → with_word x (with_word y e) ≡ with_word y (with_word x e)
    go true b p q = rw (no_word x (with_word y e) p, no_word x e p)
    go false true p q = rw (no_word y e q, no_word y (with_word x e) q)
    go false false p q =
        rw (one_word y e q, one_word x e p, one_word x (ends (max y e.largest) (min y e.smallest)) p, one_word y (ends (max x e.largest) (min x e.smallest)) q)
        (swap_ends _ _ _ _ (omega arith) (omega arith))

pub ends_insert : (x : ℕ) (xs ys : List ℕ) → ends_of (xs ++ x ∷ ys) ≡ with_word x (ends_of (xs ++ ys))
unfolding ends_of
ends_insert x [] ys = refl
ends_insert x (y ∷ xs) ys = ap (with_word y) (ends_insert x xs ys) ∙ swap_words y x (ends_of (xs ++ ys))

pub ends_turn : (xs ys : List ℕ) → ends_of (xs ++ ys) ≡ ends_of (ys ++ xs)
unfolding ends_of
ends_turn [] ys = rw (append-nil ys)
ends_turn (x ∷ xs) ys = ap (with_word x) (ends_turn xs ys) ∙ sym (ends_insert x ys xs)

pub ends_more : (x : ℕ) (xs : List ℕ) → ends_of (xs ++ x ∷ []) ≡ with_word x (ends_of xs)
ends_more x xs = ends_insert x xs [] ∙ rw (append-nil xs)

-- Either there is no gap, or the ends are those of the first and the rest.
data Ended (zs : List ℤ) (e : Ends) : Type 0 where
  no_gaps : zs ≡ [] → e ≡ ends 0 (suc most) → Ended zs e
  some_gaps : (z : ℤ) (ys : List ℤ) → zs ≡ z ∷ ys → no_gap e.largest ≡ false → no_gap e.smallest ≡ false →
      largest z ys ≡ signed e.largest → smallest z ys ≡ signed e.smallest → Ended zs e

module _ (x y : ℕ) where
  higher : larger (signed x) (signed y) ≡ signed (max x y)
  unfolding signed
  higher =
      rw (minus x level, minus y level, minus (max x y) level)
      (sub_larger x level y level ∙ sub_same (max (x + level) (y + level)) (level + level) (max x y) level (omega arith))

  lower : smaller (signed x) (signed y) ≡ signed (min x y)
  unfolding signed
  lower =
      rw (minus x level, minus y level, minus (min x y) level)
      (sub_smaller x level y level ∙ sub_same (min (x + level) (y + level)) (level + level) (min x y) level (omega arith))

module _ (x : ℕ) (zs : List ℤ) (e : Ends) (n : no_gap x ≡ false) where
  first_gap : zs ≡ [] → e.largest ≡ 0 → e.smallest ≡ suc most → Ended (signed x ∷ zs) (ends (max x e.largest) (min x e.smallest))
  unfolding largest smallest
  first_gap p l s =
      let i = gap_word x n in
      let most : max x e.largest ≡ x = omega arith in
      let least : min x e.smallest ≡ x = omega arith in
      rw (p, most, least) (some_gaps (signed x) [] refl n n refl refl)

  one_gap : Ended zs e → Ended (signed x ∷ zs) (ends (max x e.largest) (min x e.smallest))
  unfolding largest smallest
  one_gap (no_gaps p q) = first_gap p (rw q) (rw q)
  one_gap (some_gaps z ys p a b l s) =
      let i = gap_word x n in
      let j = gap_word e.largest a in
      let k = gap_word e.smallest b in
      some_gaps (signed x) zs refl
      (is_gap (max x e.largest) (omega arith) (omega arith))
      (is_gap (min x e.smallest) (omega arith) (omega arith))
      (rw (p, l) (higher x e.largest))
      (rw (p, s) (lower x e.smallest))

ended : (xs : List ℕ) → Ended (gaps_at xs) (ends_of xs)
unfolding gaps_at ends_of gap_at with_some
ended [] = no_gaps refl refl
ended (x ∷ xs) = go (no_gap x) refl (ended xs)
  where
    go : (b : Bool) → no_gap x ≡ b → Ended (gaps_at xs) (ends_of xs) → Ended (with_some (gap_at x) (gaps_at xs)) (with_word x (ends_of xs))
    go true p h = rw (p, no_word x (ends_of xs) p) h
    go false p h = rw (p, one_word x (ends_of xs) p) (one_gap x (gaps_at xs) (ends_of xs) p h)

pub ends_told : (xs : List ℕ) → told (ends_of xs) ≡ extremes (gaps_at xs)
unfolding told extremes half_gap_at
ends_told xs = go (ended xs)
  where
    go : Ended (gaps_at xs) (ends_of xs) → told (ends_of xs) ≡ extremes (gaps_at xs)
    go (no_gaps p q) = rw (p, q)
    go (some_gaps z ys p a b l s) =
        let i = gap_word (ends_of xs).largest a in
        rw (p, ne_eqb (ends_of xs).largest 0 (λ e. omega arith), l, s)

pub told_words : (xs : List ℕ) → ToldWords (ends_of xs)
unfolding ToldWords
told_words xs = go (ended xs)
  where
    go : Ended (gaps_at xs) (ends_of xs) → ((ends_of xs).largest ≡ 0 → ⊥) →
        (no_gap (ends_of xs).largest ≡ false) × (no_gap (ends_of xs).smallest ≡ false)
    go (no_gaps p q) k = absurd (k (rw q))
    go (some_gaps z ys p a b l s) k = (a, b)

-- a gap is small
pub signed_small : (x : ℕ) → no_gap x ≡ false → mag (signed x) < 2 ^ 52
unfolding signed
signed_small x n =
    let i = gap_word x n in
    rw (minus x level)
    (by_order level x (λ p. rw (sub_pos x level p) (omega arith)) (λ p. rw (sub_neg x level p) (omega arith)))

-- .. and from -(2^41 - 1) to 2^41 - 1
module _ (x : ℕ) (n : no_gap x ≡ false) where
  pub signed_least : neg_ℤ (pos latest) ≤ℤ signed x
  unfolding signed
  signed_least = let i = gap_word x n in rw (minus x level) (sub_≤ 0 latest x level (omega arith))

  pub signed_most : signed x ≤ℤ pos latest
  unfolding signed
  signed_most = let i = gap_word x n in rw (minus x level) (sub_≤ x level latest 0 (omega arith))
