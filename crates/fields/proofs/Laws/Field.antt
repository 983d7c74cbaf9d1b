-- What an accepted field keeps, and by which test a field is turned away. Assumes nothing.
use mathlib.Core.Path.{◌≡◌, sym, ◌∙◌}
use mathlib.Core.Bool.{not}
use mathlib.Core.List.{List, [], ◌∷◌}
use Prim.Native.Nat.{ℕ, ◌+◌, ◌-◌, ◌≤◌, ◌<◌}
use lib.Dec.{ltb, eqb}
use lib.ListN.{length, get_or, take, drop, length-drop, drop_of_length-le}
use lib.Seq.{take_all, take-nil}
use native.Mathlib.Omega.{arith}
use borrow.Author.Tests.{eq-eqb, ne_eqb, eqb-true, not-false, ltb-false, lt-ltb, le-ltb}
use Rattle.settings.specs.Refusal.{first}
use Rattle.settings.specs.declared.refusal.Refusal.TheVariants.{Tag, Size, Short}
use Rattle.settings.proofs.Laws.Refusal.{unhit}
use Rattle.fields.specs.Bytes.{big_endian}
use Rattle.fields.specs.Field.{field_tests, field_cause, field_refusal, body}
use Rattle.fields.specs.Limits.{FieldThere}
use Rattle.fields.proofs.Laws.Bytes.{two_bytes}

-- an accepted field is there, whole
pub field_accepted : (tag size : ℕ) (bs : List ℕ) → field_refusal tag size bs ≡ 0 → FieldThere tag size bs
unfolding field_refusal field_cause field_tests
field_accepted tag size bs e =
    let a = unhit Short (ltb (length bs) 3) _ e in
    let b = unhit Tag (not (eqb (get_or bs 0 0) tag)) _ a.1 in
    let c = unhit Size (not (eqb (big_endian 2 bs 1) size)) _ b.1 in
    let d = unhit Short (ltb (length bs) (3 + size)) _ c.1 in
    record {
      tag_due = eqb-true (get_or bs 0 0) tag (not-false _ b.0);
      size_due = omega (arith, two_bytes bs 1, eqb-true (big_endian 2 bs 1) size (not-false _ c.0));
      whole = ltb-false (length bs) (3 + size) d.0;
    }

pub field_there : (tag size : ℕ) (bs : List ℕ) → field_refusal tag size bs ≡ 0 → 3 + size ≤ length bs
field_there tag size bs e = (field_accepted tag size bs e).whole

-- the number, by the first test that applies
module _ (tag size : ℕ) (bs : List ℕ) where
  pub few_left : length bs < 3 → field_refusal tag size bs ≡ 43
  unfolding field_refusal field_cause field_tests first
  few_left i = rw (lt-ltb (length bs) 3 i)

  module _ (three : 3 ≤ length bs) where
    pub other_tag : (get_or bs 0 0 ≡ tag → ⊥) → field_refusal tag size bs ≡ 41
    unfolding field_refusal field_cause field_tests first
    other_tag n = rw (le-ltb (length bs) 3 three, ne_eqb (get_or bs 0 0) tag n)

    module _ (due : get_or bs 0 0 ≡ tag) where
      pub other_size : (big_endian 2 bs 1 ≡ size → ⊥) → field_refusal tag size bs ≡ 42
      unfolding field_refusal field_cause field_tests first
      other_size n = rw (le-ltb (length bs) 3 three, eq-eqb (get_or bs 0 0) tag due, ne_eqb (big_endian 2 bs 1) size n)

      pub body_cut : big_endian 2 bs 1 ≡ size → length bs < 3 + size → field_refusal tag size bs ≡ 43
      unfolding field_refusal field_cause field_tests first
      body_cut long i =
          rw (le-ltb (length bs) 3 three, eq-eqb (get_or bs 0 0) tag due, eq-eqb (big_endian 2 bs 1) size long, lt-ltb (length bs) (3 + size) i)

-- a field that is there is not turned away
pub whole : (tag size : ℕ) (bs : List ℕ) → 3 ≤ length bs → get_or bs 0 0 ≡ tag → big_endian 2 bs 1 ≡ size → 3 + size ≤ length bs → field_refusal tag size bs ≡ 0
unfolding field_refusal field_cause field_tests first
whole tag size bs three due long i =
    rw (le-ltb (length bs) 3 three, eq-eqb (get_or bs 0 0) tag due, eq-eqb (big_endian 2 bs 1) size long, le-ltb (length bs) (3 + size) i)

-- the body, by how much of it is there
module _ (size : ℕ) (bs : List ℕ) where
  few_bytes : length bs < 3 → length bs ≤ 3
  few_bytes i = omega arith

  pub no_body : length bs < 3 → body size bs ≡ []
  unfolding body
  no_body i = rw (drop_of_length-le bs (few_bytes i)) (take-nil size)

  pub body_there : length bs - 3 ≤ size → body size bs ≡ take (length bs - 3) (drop 3 bs)
  unfolding body
  body_there i =
      take_all size (drop 3 bs) (omega (arith, length-drop 3 bs)) ∙ sym (take_all (length bs - 3) (drop 3 bs) (omega (arith, length-drop 3 bs)))

  pub body_whole : body size bs ≡ take (3 + size - 3) (drop 3 bs)
  unfolding body
  body_whole = let e : 3 + size - 3 ≡ size = omega arith in rw e
