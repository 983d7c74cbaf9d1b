-- What the lengths of a row call are where they are right. Assumes nothing.
use mathlib.Core.Path.{◌≡◌}
use mathlib.Core.Bool.{true, ◌&&◌, and-eq-true_iff}
use Prim.Native.Nat.{ℕ, ◌+◌, ◌*◌}
use lib.Dec.{eqb}
use borrow.Author.Tests.{eqb-true}
use Rattle.columns.specs.Marks.{mark_bytes}
use Rattle.admission.specs.Refusal.{lengths_are}

pub record Sized (w b m d q l r x : ℕ) : Type 0 where
  pub before : b ≡ w
  pub marks : m ≡ mark_bytes w
  pub drifts : d ≡ w
  pub phases : q ≡ w
  pub links : l ≡ 3 * w + 2
  pub room : r ≡ w
  pub letters : x ≡ w

pub sized : (w before marks drifts phases links room letters : ℕ) → lengths_are w before marks drifts phases links room letters ≡ true →
    Sized w before marks drifts phases links room letters
unfolding lengths_are
sized w before marks drifts phases links room letters e =
    let t2 = eqb before w && eqb marks (mark_bytes w) in
    let t3 = t2 && eqb drifts w in
    let t4 = t3 && eqb phases w in
    let t5 = t4 && eqb links (3 * w + 2) in
    let e6 = (and-eq-true_iff (t5 && eqb room w) (eqb letters w)).0 e in
    let e5 = (and-eq-true_iff t5 (eqb room w)).0 e6.0 in
    let e4 = (and-eq-true_iff t4 (eqb links (3 * w + 2))).0 e5.0 in
    let e3 = (and-eq-true_iff t3 (eqb phases w)).0 e4.0 in
    let e2 = (and-eq-true_iff t2 (eqb drifts w)).0 e3.0 in
    let e1 = (and-eq-true_iff (eqb before w) (eqb marks (mark_bytes w))).0 e2.0 in
    record {
      before = eqb-true before w e1.0;
      marks = eqb-true marks (mark_bytes w) e1.1;
      drifts = eqb-true drifts w e2.1;
      phases = eqb-true phases w e3.1;
      links = eqb-true links (3 * w + 2) e4.1;
      room = eqb-true room w e5.1;
      letters = eqb-true letters w e6.1;
    }
