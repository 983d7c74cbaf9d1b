-- The window of a tile's predecessors: where it lies, where its links stand, and what is counted and found along it. Assumes nothing.
use mathlib.Core.Path.{◌≡◌, refl, ◌∙◌}
use mathlib.Core.Bool.{Bool, true, false, cond, ◌||◌}
use mathlib.Core.List.{List}
use mathlib.Core.Logic.{◌⊎◌, inl, inr, ⊎_elim}
use Prim.Native.Nat.{ℕ, zero, suc, ◌+◌, ◌-◌, ◌*◌, ◌/◌, ◌%◌, ◌≤◌, ◌<◌}
use lib.Count.{ones, ones_in, ones_step}
use lib.Dec.{eqb}
use native.Mathlib.Omega.{arith}
use borrow.Author.Tests.{eqb-true, le-leb, lt-leb}
use Rattle.settings.proofs.Laws.Cases.{by_order}
use Rattle.columns.specs.Columns.{predecessors, links_before}
use Rattle.columns.specs.Marks.{marked, faulty_among}
use Rattle.columns.specs.Window.{first_sender, four_senders, window}
use Rattle.columns.proofs.Laws.Columns.{predecessors_window, links_early, links_inner, links_late}

either : (a b : Bool) → (a || b) ≡ true → (a ≡ true) ⊎ (b ≡ true)
either true b e = inl refl
either false b e = inr e

-- where the window lies
module _ (w c : ℕ) where
  pub sender_low : c ≤ 2 → first_sender w c ≡ 0
  unfolding first_sender
  sender_low i = rw (le-leb c 2 i)

  pub sender_high : 2 < c → w - 2 ≤ c → first_sender w c ≡ w - 3
  unfolding first_sender
  sender_high i k = rw (lt-leb c 2 i, le-leb (w - 2) c k)

  pub sender_inner : 2 < c → c < w - 2 → first_sender w c ≡ c - 1
  unfolding first_sender
  sender_inner i k = rw (lt-leb c 2 i, lt-leb (w - 2) c k)

  pub four_where : four_senders w c ≡ true → (c ≡ 2) ⊎ (c ≡ w - 3)
  unfolding four_senders
  four_where e =
      ⊎_elim (λ q. inl (eqb-true c 2 q)) (λ q. inr (eqb-true c (w - 3) q)) (either (eqb c 2) (eqb c (w - 3)) e)

  pub sender_in : 6 ≤ w → c < w → first_sender w c + 2 < w
  sender_in i k =
      by_order c 2
      (λ p. omega (arith, sender_low p))
      (λ p. by_order (w - 2) c (λ q. omega (arith, sender_high p q)) (λ q. omega (arith, sender_inner p q)))

  pub sender_in_four : 6 ≤ w → four_senders w c ≡ true → first_sender w c + 3 < w
  sender_in_four i e =
      ⊎_elim
      (λ (q : c ≡ 2). omega (arith, sender_low (omega arith)))
      (λ (q : c ≡ w - 3). omega (arith, sender_inner (omega arith) (omega arith)))
      (four_where e)

-- a tile's links are among those of the row
module _ (w : ℕ) (wide : 6 ≤ w) where
  pub links_in : (c : ℕ) → c < w → links_before w c + 2 < 3 * w + 2
  links_in c i =
      by_order c 2
      (λ p. omega (arith, links_early w wide c p))
      (λ p. by_order c (w - 3) (λ q. omega (arith, links_inner w wide c p q)) (λ q. omega (arith, links_late w wide c q (omega arith))))

  pub links_in_four : (c : ℕ) → c < w → four_senders w c ≡ true → links_before w c + 3 < 3 * w + 2
  links_in_four c i e =
      ⊎_elim
      (λ (q : c ≡ 2). omega (arith, links_early w wide c (omega arith)))
      (λ (q : c ≡ w - 3). omega (arith, links_inner w wide c (omega arith) (omega arith)))
      (four_where w c e)

-- the digits of a number, one after the other
ones_more : (n b : ℕ) → b ≤ 1 → ones (n * 2 + b) ≡ ones n + b
ones_more n b i =
    let low : (n * 2 + b) % 2 ≡ b = omega arith in
    let rest : (n * 2 + b) / 2 ≡ n = omega arith in
    ones_step (n * 2 + b) ∙ rw (low, rest) (omega arith)

ones_one : (b : ℕ) → b ≤ 1 → ones b ≡ b
unfolding ones ones_in
ones_one zero i = refl
ones_one (suc zero) i = refl
ones_one (suc (suc b)) i = let never : ⊥ = omega arith in absurd never

-- a column's mark as a digit
abbrev pub digit : (marks : List ℕ) → (column : ℕ) → ℕ
digit ms k = cond (marked ms k) 1 0

pub digit_most : (b : Bool) → cond b 1 0 ≤ 1
digit_most true = omega arith
digit_most false = omega arith

module _ (ms : List ℕ) (w c k : ℕ) (wide : 6 ≤ w) (here : c < w) (from : k ≡ first_sender w c) where
  pub faulty_three : four_senders w c ≡ false → faulty_among ms (predecessors w c) ≡ digit ms k + (digit ms (k + 1) + (digit ms (k + 2) + 0))
  unfolding faulty_among window
  faulty_three e = rw (predecessors_window w c wide here, from, e)

  pub faulty_four : four_senders w c ≡ true →
      faulty_among ms (predecessors w c) ≡ digit ms k + (digit ms (k + 1) + (digit ms (k + 2) + (digit ms (k + 3) + 0)))
  unfolding faulty_among window
  faulty_four e = rw (predecessors_window w c wide here, from, e)

  module _ (x y z : ℕ) (is_x : x ≡ digit ms k) (is_y : y ≡ digit ms (k + 1)) (is_z : z ≡ digit ms (k + 2)) where
    small_x : x ≤ 1
    small_x = rw is_x (digit_most (marked ms k))

    small_y : y ≤ 1
    small_y = rw is_y (digit_most (marked ms (k + 1)))

    small_z : z ≤ 1
    small_z = rw is_z (digit_most (marked ms (k + 2)))

    three_ones : ones ((x * 2 + y) * 2 + z) ≡ x + y + z
    three_ones = omega (arith, ones_one x small_x, ones_more x y small_y, ones_more (x * 2 + y) z small_z)

    pub gathered_three : four_senders w c ≡ false → ones ((x * 2 + y) * 2 + z) ≡ faulty_among ms (predecessors w c)
    gathered_three e = omega (arith, three_ones, faulty_three e, is_x, is_y, is_z)

    pub gathered_four : (v : ℕ) → v ≡ digit ms (k + 3) → four_senders w c ≡ true → ones (((x * 2 + y) * 2 + z) * 2 + v) ≡ faulty_among ms (predecessors w c)
    gathered_four v is_v e =
        let small_v : v ≤ 1 = rw is_v (digit_most (marked ms (k + 3))) in
        omega (arith, three_ones, ones_more ((x * 2 + y) * 2 + z) v small_v, faulty_four e, is_x, is_y, is_z, is_v)
