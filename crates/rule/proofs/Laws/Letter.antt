-- The letter by comparisons of stamps, as the code finds it: case by case beside P in Laws/Heard.antt. Assumes nothing.
--
-- Throughout: unit h, step j (§2.4), own o, the earliest and latest neighbour l ≤ m.
use mathlib.Core.Path.{◌≡◌, sym, ◌∙◌, ap}
use mathlib.Core.Bool.{cond}
use Prim.Native.Nat.{ℕ, ◌+◌, ◌-◌, ◌*◌, ◌≤◌, ◌<◌, min, max}
use lib.Dec.{ltb, leb, lt→ltb}
use lib.IntN.{ℤ, pos, ◌-ℤ◌}
use native.Mathlib.Omega.{arith}
use borrow.Author.Tests.{lt-ltb, le-ltb, le-leb, lt-leb}
use Rattle.settings.proofs.Laws.Cases.{by_order}
use Rattle.rule.specs.Stamp.{Stamp, heard, silent, ◌≼◌, in_order, last}
use Rattle.rule.specs.Forward.{P}
use Rattle.rule.specs.Closed.{middle, closed_P}
use Rattle.rule.specs.Letter.{byte_of, early_or_kept, heard_letter, letter}
use Rattle.rule.specs.Promises.{Says, says_k, says_e, says_m, says_b, says_l}
use Rattle.rule.specs.declared.letter.Letter.{Letter}
use Rattle.rule.specs.declared.letter.Letter.TheVariants.{Kept, Early, Middle, Back, Late}
use Rattle.rule.proofs.Laws.Signed.{sub_pos, minus, sub_le, sub_not_le, sub_negative, sub_not_negative, pos_sub}
use Rattle.rule.proofs.Laws.Heard.{waits, decides, hurries}
use Rattle.rule.proofs.Laws.Forward.{Enough, with_own, without_own}
use Rattle.rule.proofs.Laws.Closed.{D_sub, rule_closed}

-- a letter is a byte of ASCII
pub byte_small : (x : Letter) → byte_of x < 128
byte_small Kept = omega arith
byte_small Early = omega arith
byte_small Middle = omega arith
byte_small Back = omega arith
byte_small Late = omega arith

-- own waits, or is kept, where P is the larger of own and what it waits for
early_by : (o t : ℕ) → early_or_kept o (pos (max o t)) ≡ cond (ltb o t) Early Kept
unfolding early_or_kept
early_by o t =
    by_order t o
    (λ i. rw (le-ltb o t i, le-ltb o (max o t) (omega arith)))
    (λ i. rw (lt-ltb o t i, lt-ltb o (max o t) (omega arith)))

module _ {h : ℕ} (pos_h : 0 < h) (j o : ℕ) {l m : ℕ} (ordered : l ≤ m) where
  pub letter_waits : o < middle h l m + h → heard_letter h j o l m ≡ cond (ltb o (l - 3 * h)) Early Kept
  unfolding heard_letter closed_P
  letter_waits i =
      rw (D_sub pos_h j o ordered, sub_negative o (middle h l m + h) i, rule_closed pos_h j (heard o) (in_order ordered), waits h j o l m i)
      (early_by o (l - 3 * h))

  pub letter_decides : middle h l m + h ≤ o → o ≤ middle h l m + h + j → heard_letter h j o l m ≡ Middle
  unfolding heard_letter
  letter_decides i k =
      rw (D_sub pos_h j o ordered, sub_not_negative o (middle h l m + h) i, pos_sub j, sub_le o (middle h l m + h) j 0 (omega arith))

  pub letter_hurries : middle h l m + h + j < o → heard_letter h j o l m ≡ cond (leb (o - j) (m + 3 * h)) Back Late
  unfolding heard_letter
  letter_hurries i =
      rw (
        D_sub pos_h j o ordered,
        sub_not_negative o (middle h l m + h) (omega arith),
        pos_sub j,
        sub_not_le o (middle h l m + h) j 0 (omega arith),
      )
      (rw (minus o j, sub_pos o j (omega arith)))

-- with a silent neighbour
pub letter_unheard : {h : ℕ} → 0 < h → (j o l : ℕ) → letter h j (heard o) (heard l) silent ≡ cond (ltb o (l - 3 * h)) Early Kept
unfolding letter closed_P
letter_unheard {h} pos_h j o l = rw (rule_closed pos_h j (heard o) (last {x = heard l})) (early_by o (l - 3 * h))

-- the letter and P together: what is said of P
module _ {h : ℕ} (pos_h : 0 < h) (j : ℕ) where
  -- by a letter and a P that are known
  said : {own l m : Stamp} {x : Letter} {p : ℤ} → letter h j own l m ≡ x → P h j own l m ≡ p → Says h j own l m x p →
      Says h j own l m (letter h j own l m) (P h j own l m)
  said e q y = rw (e, q) y

  -- where P is the larger of own and what it waits for
  waiting : (o l : ℕ) {m : Stamp} → letter h j (heard o) (heard l) m ≡ cond (ltb o (l - 3 * h)) Early Kept →
      P h j (heard o) (heard l) m ≡ pos (max o (l - 3 * h)) →
      Says h j (heard o) (heard l) m (letter h j (heard o) (heard l) m) (P h j (heard o) (heard l) m)
  waiting o l e p =
      by_order (l - 3 * h) o
      (λ i. said (rw (le-ltb o (l - 3 * h) i) at e) (p ∙ ap pos (omega arith)) says_k)
      (λ i. let waits_for : pos l -ℤ pos (3 * h) ≡ pos (l - 3 * h) = minus l (3 * h) ∙ sub_pos l (3 * h) (omega arith) in
      said (rw (lt-ltb o (l - 3 * h) i) at e) (p ∙ ap pos (omega arith) ∙ sym waits_for)
      (says_e (rw waits_for (record { lt = lt→ltb o (l - 3 * h) i }))))

  -- where P is the smaller of own less J and the latest neighbour and 3h
  hurrying : (o : ℕ) {l m : ℕ} → l ≤ m → middle h l m + h + j < o → P h j (heard o) (heard l) (heard m) ≡ pos (min (m + 3 * h) (o - j)) →
      Says h j (heard o) (heard l) (heard m) (letter h j (heard o) (heard l) (heard m)) (P h j (heard o) (heard l) (heard m))
  unfolding letter
  hurrying o {l} {m} i b p =
      let e = letter_hurries pos_h j o i b in
      by_order (o - j) (m + 3 * h)
      (λ k. said (rw (le-leb (o - j) (m + 3 * h) k) at e) (p ∙ ap pos (omega arith) ∙ sym (minus o j ∙ sub_pos o j (omega arith))) says_b)
      (λ k. said (rw (lt-leb (o - j) (m + 3 * h) k) at e) (p ∙ ap pos (omega arith)) says_l)

  pub says : {own l m : Stamp} → Enough own l m → l ≼ m → Says h j own l m (letter h j own l m) (P h j own l m)
  unfolding letter closed_P P
  says (with_own {o = o} {l = l} {most = heard m}) (in_order i) =
      let p = rule_closed pos_h j (heard o) (in_order i) in
      by_order (middle h l m + h) o
      (λ a. by_order o (middle h l m + h + j)
      (λ b. said (letter_decides pos_h j o i a b) (p ∙ ap pos (decides h j o l m a b)) says_m)
      (λ b. hurrying o i b (p ∙ ap pos (hurries h j o l m b))))
      (λ a. waiting o l (letter_waits pos_h j o i a) (p ∙ ap pos (waits h j o l m a)))
  says (with_own {o = o} {l = l} {most = silent}) last = waiting o l (letter_unheard pos_h j o l) (rule_closed pos_h j (heard o) (last {x = heard l}))
  says without_own i = says_l
