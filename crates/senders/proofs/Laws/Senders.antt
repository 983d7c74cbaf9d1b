-- Senders that fit: two neighbours or three, each stamp silence or a reading, as numbers and as stamps. Assumes nothing.
use mathlib.Core.Path.{◌≡◌, sym}
use mathlib.Core.Bool.{true, ◌&&◌, and-eq-true_iff}
use mathlib.Core.List.{[], ◌∷◌}
use mathlib.Core.Logic.{◌⊎◌, inl, inr}
use Prim.Native.Nat.{ℕ, ◌+◌, ◌≤◌, min, max}
use lib.Dec.{leb}
use native.Mathlib.Omega.{arith}
use borrow.Author.Tests.{leb-true, ne_eqb}
use Rattle.rule.specs.Stamp.{Stamp, heard, silent, silence, stamp_of, code_of, earliest, latest, unheard_of, unheard_in}
use Rattle.rule.proofs.Laws.Coded.{stamp_silent, stamp_heard, silent_or_not, earliest_two, earliest_three, latest_two, latest_three}
use Rattle.rule.proofs.Laws.Stamp.{By, heard_by, unheard as unheard_by}
use Rattle.senders.specs.Senders.{last, neighbours, code_at, stamp_at, own_stamp, neighbour_stamps, unheard, stamp_fits, fit}
use Rattle.senders.specs.declared.Senders.{Senders}

-- a number is that of its stamp
pub code_stamp : (v : ℕ) → code_of (stamp_of v) ≡ v
code_stamp v = pick (silent_or_not v)
  where
    pick : (v ≡ silence → ⊥) ⊎ (v ≡ silence) → code_of (stamp_of v) ≡ v
    pick (inl n) = unfold code_of in rw (stamp_heard v n)
    pick (inr e) = unfold code_of in rw (stamp_silent v e) (sym e)

-- one that fits is silence, or heard by the last reading
fits_by : (v : ℕ) → stamp_fits v ≡ true → By last (stamp_of v)
unfolding stamp_fits
fits_by v e = pick (silent_or_not v)
  where
    pick : (v ≡ silence → ⊥) ⊎ (v ≡ silence) → By last (stamp_of v)
    pick (inl n) = rw (stamp_heard v n) (heard_by (leb-true v last (rw (ne_eqb v silence n) at e)))
    pick (inr s) = rw (stamp_silent v s) unheard_by

pub record Fit (x : Senders) : Type 0 where
  pub least : 2 ≤ x.count
  pub most : x.count ≤ 3
  pub own : By last (stamp_at x 0)
  pub one : By last (stamp_at x 1)
  pub two : By last (stamp_at x 2)
  pub three : By last (stamp_at x 3)

pub fit_is : (x : Senders) → fit x ≡ true → Fit x
unfolding fit stamp_at
fit_is x e =
    let t1 = leb 2 x.count && leb x.count 3 in
    let t2 = t1 && stamp_fits (code_at x 0) in
    let t3 = t2 && stamp_fits (code_at x 1) in
    let t4 = t3 && stamp_fits (code_at x 2) in
    let e4 = (and-eq-true_iff t4 (stamp_fits (code_at x 3))).0 e in
    let e3 = (and-eq-true_iff t3 (stamp_fits (code_at x 2))).0 e4.0 in
    let e2 = (and-eq-true_iff t2 (stamp_fits (code_at x 1))).0 e3.0 in
    let e1 = (and-eq-true_iff t1 (stamp_fits (code_at x 0))).0 e2.0 in
    let e0 = (and-eq-true_iff (leb 2 x.count) (leb x.count 3)).0 e1.0 in
    record {
      least = leb-true 2 x.count e0.0;
      most = leb-true x.count 3 e0.1;
      own = fits_by (code_at x 0) e1.1;
      one = fits_by (code_at x 1) e2.1;
      two = fits_by (code_at x 2) e3.1;
      three = fits_by (code_at x 3) e4.1;
    }

-- two neighbours, or three
module _ (x : Senders) where
  pub of_two : x.count ≡ 2 → neighbour_stamps x ≡ stamp_at x 1 ∷ stamp_at x 2 ∷ []
  unfolding neighbour_stamps neighbours
  of_two e = rw e

  pub of_three : x.count ≡ 3 → neighbour_stamps x ≡ stamp_at x 1 ∷ stamp_at x 2 ∷ stamp_at x 3 ∷ []
  unfolding neighbour_stamps neighbours
  of_three e = rw e

  pub unheard_two : x.count ≡ 2 → unheard x ≡ unheard_of (stamp_at x 0) + unheard_of (stamp_at x 1) + unheard_of (stamp_at x 2)
  unfolding unheard own_stamp unheard_in
  unheard_two e = rw (of_two e) (omega arith)

  pub unheard_three : x.count ≡ 3 →
      unheard x ≡ unheard_of (stamp_at x 0) + unheard_of (stamp_at x 1) + unheard_of (stamp_at x 2) + unheard_of (stamp_at x 3)
  unfolding unheard own_stamp unheard_in
  unheard_three e = rw (of_three e) (omega arith)

pub unheard_one : (s : Stamp) → unheard_of s ≤ 1
unfolding unheard_of
unheard_one (heard a) = omega arith
unheard_one silent = omega arith

-- the smaller and the larger of the numbers are those of the earliest and the latest stamp
module _ {x : Senders} (f : Fit x) where
  small : last ≤ 4398046511104
  small = omega arith

  pub least_two : min (code_at x 1) (code_at x 2) ≡ code_of (earliest (stamp_at x 1 ∷ stamp_at x 2 ∷ []))
  unfolding stamp_at
  least_two = rw (code_stamp (code_at x 1), code_stamp (code_at x 2)) at (earliest_two small f.one f.two)

  pub most_two : max (code_at x 1) (code_at x 2) ≡ code_of (latest (stamp_at x 1 ∷ stamp_at x 2 ∷ []))
  unfolding stamp_at
  most_two = rw (code_stamp (code_at x 1), code_stamp (code_at x 2)) at (latest_two small f.one f.two)

  pub least_three : min (min (code_at x 1) (code_at x 2)) (code_at x 3) ≡ code_of (earliest (stamp_at x 1 ∷ stamp_at x 2 ∷ stamp_at x 3 ∷ []))
  unfolding stamp_at
  least_three =
      rw (code_stamp (code_at x 1), code_stamp (code_at x 2), code_stamp (code_at x 3)) at (earliest_three small f.one f.two f.three)

  pub most_three : max (max (code_at x 1) (code_at x 2)) (code_at x 3) ≡ code_of (latest (stamp_at x 1 ∷ stamp_at x 2 ∷ stamp_at x 3 ∷ []))
  unfolding stamp_at
  most_three =
      rw (code_stamp (code_at x 1), code_stamp (code_at x 2), code_stamp (code_at x 3)) at (latest_three small f.one f.two f.three)
