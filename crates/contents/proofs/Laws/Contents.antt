-- The lengths of what the fields hold. Assumes nothing.
use mathlib.Core.Path.{◌≡◌, refl, sym, ◌∙◌}
use mathlib.Core.Bool.{Bool, true, false}
use lib.Dec.{ltb}
use mathlib.Core.List.{List, [], ◌∷◌}
use Prim.Native.Nat.{ℕ, zero, suc, ◌+◌, ◌-◌, ◌*◌, ◌≤◌, ◌<◌}
use lib.ListN.{length, get_or, length-append, length-take, length-drop}
use native.Mathlib.Omega.{arith}
use Rattle.std.specs.Bool.{MatchBool}
use Rattle.std.specs.List.{range_with_len, HoldsAt, AllWithin}
use Rattle.std.proofs.lemmas.List.FromFn.{length-range_with_len, get_or-range_with_len}
use Rattle.settings.specs.Refusal.{any_below}
use Rattle.settings.proofs.Laws.AnyBelow.{some_below, none_till, same_below}
use Rattle.columns.specs.Columns.{predecessors, links_before, table_from}
use Rattle.columns.specs.Marks.{mark_bytes}
use Rattle.columns.specs.Window.{four_senders, window, LinksCounted}
use Rattle.settings.proofs.Laws.Cases.{by_order}
use Rattle.columns.proofs.Laws.Columns.{predecessors_window, links_early, links_inner, links_late}
use Rattle.columns.proofs.Laws.Lists.{by_test, table_length, table_at}
use Rattle.columns.proofs.Promises.{links_counted}
use Rattle.fields.specs.Bytes.{big_endian}
use Rattle.fields.specs.Field.{field_refusal, body}
use Rattle.contents.specs.Contents.{times_in, latest_start, late_start, tile_place, drifts_in, phases_in, tile_links, links_below, links_in, marks_field, row_size, marks_in}
use Rattle.fields.proofs.Laws.Field.{field_there}

pub body_length : (tag size : ℕ) (bs : List ℕ) → field_refusal tag size bs ≡ 0 → length (body size bs) ≡ size
unfolding body
body_length tag size bs e = simp (length-take, length-drop) (omega (arith, field_there tag size bs e))

module _ (w : ℕ) (bs : List ℕ) where
  pub times_length : length (times_in w bs) ≡ w
  unfolding times_in
  times_length = table_length _ w 0

  pub time_at : (c : ℕ) → c < w → get_or (times_in w bs) c 0 ≡ big_endian 8 bs (8 * c)
  unfolding times_in
  time_at c i = let e : 0 + c ≡ c = omega arith in table_at _ w 0 c i ∙ rw e

  pub drifts_length : length (drifts_in w bs) ≡ w
  unfolding drifts_in
  drifts_length = table_length _ w 0

  pub phases_length : length (phases_in w bs) ≡ w
  unfolding phases_in
  phases_length = table_length _ w 0

  pub links_below_length : (c : ℕ) → length (links_below w bs c) ≡ links_before w c
  unfolding links_below links_before tile_links
  links_below_length zero = refl
  links_below_length (suc c) = rw (length-append, links_below_length c, table_length)

  pub links_length : 6 ≤ w → length (links_in w bs) ≡ 3 * w + 2
  unfolding links_in LinksCounted
  links_length wide = links_below_length w ∙ links_counted w wide

  pub marks_length : field_refusal 3 (mark_bytes w) bs ≡ 0 → length (marks_in w bs) ≡ mark_bytes w
  unfolding marks_in
  marks_length e = body_length 3 (mark_bytes w) bs e

-- the bytes of a row
pub row_small : (w : ℕ) → w ≤ 256 → row_size w ≤ 7734
unfolding row_size marks_field mark_bytes
row_small w i = omega arith

-- where a tile's links stand, and that they are there
module _ (w : ℕ) (wide : 6 ≤ w) where
  few_links : (c : ℕ) → c ≤ w → links_before w c ≤ 3 * c + 2
  few_links c i =
      by_order c 2
      (λ j. omega (arith, links_early w wide c j))
      (λ j. by_order c (w - 3) (λ k. omega (arith, links_inner w wide c j k)) (λ k. omega (arith, links_late w wide c k i)))

  module _ (c : ℕ) (i : c < w) where
    pub links_end : links_before w c + length (predecessors w c) ≤ 3 * w + 2
    unfolding links_before
    links_end = omega (arith, few_links (suc c) (omega arith))

    pub tile_end : tile_place w c + 6 + 8 * length (predecessors w c) ≤ 30 * w + 16
    unfolding tile_place links_before
    tile_end = omega (arith, few_links (suc c) (omega arith))

    pub three_senders : four_senders w c ≡ false → length (predecessors w c) ≡ 3
    unfolding window
    three_senders e = rw (predecessors_window w c wide i, e)

    pub with_fourth : four_senders w c ≡ true → length (predecessors w c) ≡ 4
    unfolding window
    with_fourth e = rw (predecessors_window w c wide i, e)

    pub three_at_least : 3 ≤ length (predecessors w c)
    three_at_least =
        by_test (four_senders w c) (λ e. omega (arith, with_fourth e)) (λ e. omega (arith, three_senders e))

    module _ (bs : List ℕ) (at : ℕ) (e : at ≡ tile_place w c + 6) where
      pub three_links : four_senders w c ≡ false → tile_links w bs c ≡ big_endian 8 bs at ∷ big_endian 8 bs (at + 8) ∷ big_endian 8 bs (at + 16) ∷ []
      unfolding tile_links table_from
      three_links f = let z : at + 0 ≡ at = omega arith in rw (three_senders f, ← e, z)

      pub four_links : four_senders w c ≡ true →
          tile_links w bs c ≡ big_endian 8 bs at ∷ big_endian 8 bs (at + 8) ∷ big_endian 8 bs (at + 16) ∷ big_endian 8 bs (at + 24) ∷ []
      unfolding tile_links table_from
      four_links f = let z : at + 0 ≡ at = omega arith in rw (with_fourth f, ← e, z)

-- some number below n, as a chain over the range finds it
any_of_range : (f : ℕ → Bool) (n : ℕ) (r : Bool) →
    MatchBool r ((k : ℕ) × (k < length (range_with_len 0 n)) × HoldsAt (λ x. f x ≡ true) (range_with_len 0 n) k)
    (AllWithin (λ x. f x ≡ false) (range_with_len 0 n) 0 (length (range_with_len 0 n))) → r ≡ any_below n f
any_of_range f n true h =
    let i : h.0 < n = omega (arith, h.1, length-range_with_len 0 n) in
    let e : 0 + h.0 ≡ h.0 = omega arith in
    sym (some_below f n h.0 i (rw (get_or-range_with_len 0 n h.0 0 i, e) at (h.2 0)))
any_of_range f n false h =
    sym (none_till f n (λ k i. let e : 0 + k ≡ k = omega arith in rw (get_or-range_with_len 0 n k 0 i, e) at (h k 0 (omega arith) (omega (arith, length-range_with_len 0 n)))))

pub late_among : (w : ℕ) (bs : List ℕ) (r : Bool) →
    MatchBool r ((k : ℕ) × (k < length (range_with_len 0 w)) × HoldsAt (λ x. ltb latest_start (big_endian 8 bs (8 * x)) ≡ true) (range_with_len 0 w) k)
    (AllWithin (λ x. ltb latest_start (big_endian 8 bs (8 * x)) ≡ false) (range_with_len 0 w) 0 (length (range_with_len 0 w))) →
    r ≡ any_below w (late_start (times_in w bs))
unfolding late_start
late_among w bs r h =
    any_of_range (λ x. ltb latest_start (big_endian 8 bs (8 * x))) w r h
    ∙ same_below (λ x. ltb latest_start (big_endian 8 bs (8 * x))) (late_start (times_in w bs)) w (λ k i. rw (time_at w bs k i))
