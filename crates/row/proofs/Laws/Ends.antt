-- The least and the most of some times: none lies outside, both are among them, and a time more. Assumes nothing.
use mathlib.Core.Path.{◌≡◌, sym, ◌∙◌}
use mathlib.Core.List.{List, [], ◌∷◌, ◌++◌}
use Prim.Native.Nat.{ℕ, zero, suc, ◌≤◌, ◌<◌, min, max}
use lib.ListN.{length, get_or, take}
use lib.Seq.{length-take-le, get_or-take}
use native.Mathlib.Omega.{arith}
use Rattle.rule.specs.Stamp.{silence}
use Rattle.settings.proofs.Laws.Cases.{by_order}
use Rattle.row.specs.Row.{least_of, most_of}
use Rattle.row.specs.Promises.{SomeTile, Ends}

pub least_grows : (l : List ℕ) (t : ℕ) → least_of (l ++ (t ∷ [])) ≡ min (least_of l) t
unfolding least_of
least_grows [] t = omega arith
least_grows (u ∷ l) t = omega (arith, least_grows l t)

pub most_grows : (l : List ℕ) (t : ℕ) → most_of (l ++ (t ∷ [])) ≡ max (most_of l) t
unfolding most_of
most_grows [] t = omega arith
most_grows (u ∷ l) t = omega (arith, most_grows l t)

least_most : (l : List ℕ) (c : ℕ) → c < length l → (least_of l ≤ get_or l c 0) × (get_or l c 0 ≤ most_of l)
unfolding least_of most_of
least_most [] c i = let never : ⊥ = omega arith in absurd never
least_most (t ∷ l) zero i = (omega arith, omega arith)
least_most (t ∷ l) (suc c) i = let r = least_most l c (omega arith) in (omega (arith, r.0), omega (arith, r.1))

here : (t v : ℕ) (l : List ℕ) → t ≡ v → SomeTile (suc (length l)) (t ∷ l) v
here t v l e = record { column = 0; in_row = omega arith; there = e }

there_too : (t v w : ℕ) (l : List ℕ) → v ≡ w → SomeTile (length l) l v → SomeTile (suc (length l)) (t ∷ l) w
there_too t v w l e y = record { column = suc y.column; in_row = omega (arith, y.in_row); there = rw y.there e }

-- times are no later than silence
least_met : (t : ℕ) (l : List ℕ) → ((c : ℕ) → c < suc (length l) → get_or (t ∷ l) c 0 ≤ silence) → SomeTile (suc (length l)) (t ∷ l) (least_of (t ∷ l))
unfolding least_of
least_met t [] small = here t _ [] (omega (arith, small 0 (omega arith)))
least_met t (u ∷ l) small =
    by_order t (least_of (u ∷ l))
    (λ i. here t _ (u ∷ l) (omega (arith, i)))
    (λ i. there_too t _ _ (u ∷ l) (omega (arith, i)) (least_met u l (λ c j. small (suc c) (omega arith))))

most_met : (t : ℕ) (l : List ℕ) → SomeTile (suc (length l)) (t ∷ l) (most_of (t ∷ l))
unfolding most_of
most_met t [] = here t _ [] (omega arith)
most_met t (u ∷ l) =
    by_order (most_of (u ∷ l)) t
    (λ i. here t _ (u ∷ l) (omega (arith, i)))
    (λ i. there_too t _ _ (u ∷ l) (omega (arith, i)) (most_met u l))

pub list_ends : (l : List ℕ) → 0 < length l → ((c : ℕ) → c < length l → get_or l c 0 ≤ silence) → Ends (length l) l (least_of l) (most_of l)
list_ends [] i small = let never : ⊥ = omega arith in absurd never
list_ends (t ∷ l) i small =
    record {
      from = λ c j. (least_most (t ∷ l) c j).0;
      to = λ c j. (least_most (t ∷ l) c j).1;
      first = least_met t l small;
      last = most_met t l;
    }

-- the first times of a row, as those of its first tiles
module _ (row : List ℕ) (n : ℕ) (room : n ≤ length row) where
  long : length (take n row) ≡ n
  long = length-take-le n row room

  some_tile : {v : ℕ} → SomeTile (length (take n row)) (take n row) v → SomeTile n row v
  some_tile y =
      let inside : y.column < n = omega (arith, y.in_row, long) in
      record { column = y.column; in_row = inside; there = sym (get_or-take n row y.column 0 inside) ∙ y.there }

  pub front_ends : 0 < n → ((c : ℕ) → c < n → get_or (take n row) c 0 ≤ silence) → Ends n row (least_of (take n row)) (most_of (take n row))
  front_ends i small =
      let ends = list_ends (take n row) (omega (arith, long)) (λ c j. small c (omega (arith, long))) in
      record {
        from = λ c j. rw (get_or-take n row c 0 j) at (ends.from c (omega (arith, long)));
        to = λ c j. rw (get_or-take n row c 0 j) at (ends.to c (omega (arith, long)));
        first = some_tile ends.first;
        last = some_tile ends.last;
      }
