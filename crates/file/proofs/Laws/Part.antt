-- A field, and the fields of a row, are read from their part of the file alone: what stands after it doesn't matter.
-- Assumes nothing.
use mathlib.Core.Path.{◌≡◌, refl, sym, ◌∙◌}
use mathlib.Core.List.{List, [], ◌∷◌}
use Prim.Native.Nat.{ℕ, zero, suc, ◌+◌, ◌-◌, ◌≤◌}
use lib.Dec.{ltb}
use lib.ListN.{length, take, drop, length-take}
use lib.Seq.{take-take, get_or-take, take-nil}
use native.Mathlib.Omega.{arith}
use borrow.Author.Tests.{lt-ltb, le-ltb}
use Rattle.settings.specs.declared.Settings.{Settings}
use Rattle.settings.proofs.Laws.Cases.{by_order}
use Rattle.columns.specs.Marks.{mark_bytes}
use Rattle.fields.specs.Bytes.{big_endian}
use Rattle.fields.specs.Field.{field_tests, field_cause, field_refusal, body}
use Rattle.contents.specs.Contents.{settings_size, start_size, tiles_size, marks_field, row_size, marks_in, tiles_in, call_in}
use Rattle.steps.specs.Number.{settings_field_cause, start_cause, row_fields_cause, row_offset}

-- what is dropped of a part, and what is taken of the rest
pub drop_take : {A : Type 0} (k n : ℕ) (l : List A) → drop k (take (k + n) l) ≡ take n (drop k l)
drop_take zero n l = let e : 0 + n ≡ n = omega arith in rw e
drop_take (suc k) n [] = rw (take-nil (suc k + n), take-nil n)
drop_take (suc k) n (x ∷ l) = let e : suc k + n ≡ suc (k + n) = omega arith in rw e (drop_take k n l)

-- a test of a length, of a part that is long enough for it
short_part : {A : Type 0} (n k : ℕ) (l : List A) → k ≤ n → ltb (length (take n l)) k ≡ ltb (length l) k
short_part n k l i =
    by_order k (length l)
    (λ h. le-ltb (length (take n l)) k (omega (arith, length-take n l)) ∙ sym (le-ltb (length l) k h))
    (λ h. lt-ltb (length (take n l)) k (omega (arith, length-take n l)) ∙ sym (lt-ltb (length l) k h))

pub big_endian_part : (n k at : ℕ) (bs : List ℕ) → at + k ≤ n → big_endian k (take n bs) at ≡ big_endian k bs at
unfolding big_endian
big_endian_part n zero at bs i = refl
big_endian_part n (suc k) at bs i =
    rw (big_endian_part n k at bs (omega arith), get_or-take n bs (at + k) 0 (omega arith))

module _ (tag size n : ℕ) (bs : List ℕ) (i : 3 + size ≤ n) where
  pub field_part : field_cause tag size (take n bs) ≡ field_cause tag size bs
  unfolding field_cause field_tests
  field_part =
      rw (
        short_part n 3 bs (omega arith),
        get_or-take n bs 0 0 (omega arith),
        big_endian_part n 2 1 bs (omega arith),
        short_part n (3 + size) bs i,
      )

pub body_part : (size n : ℕ) (bs : List ℕ) → 3 + size ≤ n → body size (take n bs) ≡ body size bs
unfolding body
body_part size n bs i =
    let e : n ≡ 3 + (n - 3) = omega arith in
    rw (e, drop_take) (take-take size (n - 3) (drop 3 bs) (omega arith))

pub settings_part : (bs : List ℕ) → settings_field_cause (take (3 + settings_size) bs) ≡ settings_field_cause bs
unfolding settings_field_cause
settings_part bs =
    rw (field_part 1 settings_size (3 + settings_size) bs (omega arith), body_part settings_size (3 + settings_size) bs (omega arith))

pub start_part : (s : Settings) (bs : List ℕ) → start_cause s (take (3 + start_size s.width) bs) ≡ start_cause s bs
unfolding start_cause
start_part s bs =
    let size = start_size s.width in
    rw (field_part 2 size (3 + size) bs (omega arith), body_part size (3 + size) bs (omega arith))

module _ (w : ℕ) (bs : List ℕ) where
  tiles_rest : drop (marks_field w) (take (row_size w) bs) ≡ take (3 + tiles_size w) (drop (marks_field w) bs)
  unfolding row_size
  tiles_rest = drop_take (marks_field w) (3 + tiles_size w) bs

  marks_there : 3 + mark_bytes w ≤ row_size w
  unfolding row_size marks_field
  marks_there = omega arith

  pub marks_part : marks_in w (take (row_size w) bs) ≡ marks_in w bs
  unfolding marks_in
  marks_part = body_part (mark_bytes w) (row_size w) bs marks_there

  tiles_part : tiles_in w (take (row_size w) bs) ≡ tiles_in w bs
  unfolding tiles_in
  tiles_part = rw tiles_rest (body_part (tiles_size w) (3 + tiles_size w) (drop (marks_field w) bs) (omega arith))

  pub call_part : call_in w (take (row_size w) bs) ≡ call_in w bs
  unfolding call_in
  call_part = rw (marks_part, tiles_part)

  pub marks_field_part : field_cause 3 (mark_bytes w) (take (row_size w) bs) ≡ field_cause 3 (mark_bytes w) bs
  marks_field_part = field_part 3 (mark_bytes w) (row_size w) bs marks_there

  pub tiles_field_part :
      field_cause 4 (tiles_size w) (drop (marks_field w) (take (row_size w) bs)) ≡ field_cause 4 (tiles_size w) (drop (marks_field w) bs)
  tiles_field_part = rw tiles_rest (field_part 4 (tiles_size w) (3 + tiles_size w) (drop (marks_field w) bs) (omega arith))

module _ (s : Settings) (bs : List ℕ) where
  pub row_part : (ts : List ℕ) → row_fields_cause s ts (take (row_size s.width) bs) ≡ row_fields_cause s ts bs
  unfolding row_fields_cause
  row_part ts = rw (marks_field_part s.width bs, tiles_field_part s.width bs, call_part s.width bs)

  pub offset_part : (at : ℕ) → row_offset s at (take (row_size s.width) bs) ≡ row_offset s at bs
  unfolding row_offset field_refusal
  offset_part at = rw (marks_field_part s.width bs)
