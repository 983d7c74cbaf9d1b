-- A lent row or buffer as it is filled: a place more, a run of places more, and what it holds then. Assumes nothing.
use mathlib.Core.Path.{◌≡◌, refl, sym, ◌∙◌, ap}
use mathlib.Core.List.{List, [], ◌∷◌, ◌++◌, append-nil, append_assoc}
use Prim.Native.Nat.{ℕ, ◌+◌, ◌≤◌, ◌<◌}
use native.Mathlib.Numerals.{add-one}
use native.Mathlib.Omega.{arith}
use lib.ListN.{length, take, set, get_or, length-append, length-take, length-set, get_or-append}
use lib.Seq.{take-suc, take-suc-set, take_all, length-take-le, get_or-take, get_or-append-add}
use Rattle.columns.specs.Columns.{table_from}
use Rattle.columns.specs.Wrote.{Wrote}
use Rattle.columns.proofs.Laws.Lists.{table_grows}

pub wrote_none : (a : List ℕ) (at : ℕ) → Wrote a at [] a at
wrote_none a at = record { as_long = refl; goes = omega arith; holds = sym (append-nil (take at a)) }

module _ {a b : List ℕ} {at end : ℕ} {t : List ℕ} (first : Wrote a at t b end) where
  -- a place more: what stands there then, and where it ends
  pub wrote_more : (v : ℕ) {u : List ℕ} {last : ℕ} → end < length a → t ++ (v ∷ []) ≡ u → end + 1 ≡ last → Wrote a at u (set b end v) last
  wrote_more v i e l =
      record {
        as_long = length-set b end v ∙ first.as_long;
        goes = sym l ∙ omega (arith, first.goes, length-append t (v ∷ []), ap length e);
        holds =
            ap (λ (n : ℕ). take n (set b end v)) (sym l) ∙ rw add-one (take-suc-set b end v (omega (arith, first.as_long)))
            ∙ ap (λ (x : List ℕ). x ++ (v ∷ [])) first.holds ∙ append_assoc (take at a) t (v ∷ []) ∙ ap (λ (x : List ℕ). take at a ++ x) e;
      }

  -- a run of places more
  pub wrote_then : {c : List ℕ} {u : List ℕ} {last : ℕ} → Wrote b end u c last → Wrote a at (t ++ u) c last
  wrote_then {c} {u} second =
      record {
        as_long = second.as_long ∙ first.as_long;
        goes = omega (arith, first.goes, second.goes, length-append t u);
        holds = second.holds ∙ ap (λ (l : List ℕ). l ++ u) first.holds ∙ append_assoc (take at a) t u;
      }

  pub wrote_end : (last : ℕ) → end ≡ last → Wrote a at t b last
  wrote_end last e = rw e at first

  -- the same, by another name
  pub wrote_as : {u : List ℕ} → t ≡ u → Wrote a at u b end
  wrote_as e = rw e at first

  -- room for what comes after, of the room for both
  pub room_left : (most more : ℕ) → length t ≤ most → at + (most + more) ≤ length a → end + more ≤ length b
  room_left most more i j = omega (arith, first.goes, first.as_long)

  module _ (room : at ≤ length a) where
    -- it ends within the row
    pub wrote_within : end ≤ length a
    wrote_within =
        omega (arith, ap length first.holds, length-take end b, length-append (take at a) t, length-take-le at a room, first.goes, first.as_long)

    -- what was written stands in its place, and what stood before it still does
    pub wrote_at : (k d : ℕ) → k < length t → get_or b (at + k) d ≡ get_or t k d
    wrote_at k d i =
        sym (get_or-take end b (at + k) d (omega (arith, first.goes))) ∙ ap (λ (l : List ℕ). get_or l (at + k) d) first.holds
        ∙ ap (λ (n : ℕ). get_or (take at a ++ t) (n + k) d) (sym (length-take-le at a room)) ∙ get_or-append-add (take at a) t k d

    pub wrote_kept : (k d : ℕ) → k < at → get_or b k d ≡ get_or a k d
    wrote_kept k d i =
        sym (get_or-take end b k d (omega (arith, first.goes))) ∙ ap (λ (l : List ℕ). get_or l k d) first.holds
        ∙ get_or-append (take at a) t d k (omega (arith, length-take-le at a room)) ∙ get_or-take at a k d i

-- from the first place on
module _ {a b t : List ℕ} {end : ℕ} (all : Wrote a 0 t b end) where
  pub wrote_whole : end ≡ length a → b ≡ t
  wrote_whole e = sym (take_all end b (omega (arith, all.as_long))) ∙ all.holds

  -- only the length of what was held matters
  pub wrote_over : {held : List ℕ} → length held ≡ length a → Wrote held 0 t b end
  wrote_over e = record { as_long = all.as_long ∙ sym e; goes = all.goes; holds = all.holds }

-- a place more of a table, and of a list that is copied
module _ (f : ℕ → ℕ) where
  pub table_none : (a : List ℕ) (at : ℕ) → Wrote a at (table_from 0 0 f) a (at + 0)
  unfolding table_from
  table_none a at = wrote_end (wrote_none a at) (at + 0) (omega arith)

  pub table_more : (n : ℕ) {v : ℕ} → v ≡ f n → table_from n 0 f ++ (v ∷ []) ≡ table_from (n + 1) 0 f
  table_more n e = let z : 0 + n ≡ n = omega arith in rw (e, add-one) (sym (rw z at (table_grows f n 0)))

pub copy_more : (l : List ℕ) (i : ℕ) → i < length l → take i l ++ (get_or l i 0 ∷ []) ≡ take (i + 1) l
copy_more l i j = rw add-one (sym (take-suc l i 0 j))
