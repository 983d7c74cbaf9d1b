-- Places in a ring, and the last of a list: a place taken after the last puts one more at the end and leaves out the first. Assumes nothing.
use mathlib.Core.Path.{◌≡◌, sym, ◌∙◌}
use mathlib.Core.List.{List, [], ◌∷◌, ◌++◌, append_assoc, append-nil}
use Prim.Native.Nat.{ℕ, suc, ◌+◌, ◌-◌, ◌≤◌, ◌<◌}
use native.Mathlib.Omega.{arith}
use lib.ListN.{length, set, take, drop, length-append, length-set, drop_of_length-le}
use lib.Seq.{take_all, drop-cons, drop-append-le, drop-set-lt, take-suc-set, drop-drop}
use Rattle.settings.proofs.Laws.Cases.{by_equal}
use Rattle.waves.specs.Reading.{last}
use Rattle.waves.specs.State.{following}
use Rattle.waves.proofs.Laws.State.{after_last, after_inner}

-- the places from one on, then those before it
unfoldable pub turned : (i : ℕ) → List ℕ → List ℕ
turned i xs = drop i xs ++ take i xs

module _ (xs : List ℕ) (i x : ℕ) (inside : i < length xs) where
  without_first : drop 1 (turned i xs) ≡ drop (suc i) xs ++ take i xs
  unfolding turned
  without_first = rw (drop-cons xs i 0 inside)

  at_last : suc i ≡ length xs → turned 0 (set xs i x) ≡ drop 1 (turned i xs) ++ (x ∷ [])
  unfolding turned
  at_last e =
      rw (without_first, drop_of_length-le xs {i = suc i} (omega arith), append-nil (set xs i x))
      (sym (take_all (suc i) (set xs i x) (rw (length-set xs i x) (omega arith))) ∙ take-suc-set xs i x inside)

  at_inner : turned (suc i) (set xs i x) ≡ drop 1 (turned i xs) ++ (x ∷ [])
  unfolding turned
  at_inner =
      rw (without_first, drop-set-lt (suc i) xs i x (omega arith), take-suc-set xs i x inside)
      (sym (append_assoc (drop (suc i) xs) (take i xs) (x ∷ [])))

  pub turn_set : turned (following i (length xs)) (set xs i x) ≡ drop 1 (turned i xs) ++ (x ∷ [])
  turn_set = by_equal (suc i) (length xs) (λ e. rw (after_last i (length xs) e) (at_last e)) (λ k. rw (after_inner i (length xs) k) at_inner)

pub last_more : {A : Type 0} (n : ℕ) (xs : List A) (x : A) → 1 ≤ n → n ≤ length xs → last n (xs ++ x ∷ []) ≡ drop 1 (last n xs) ++ (x ∷ [])
unfolding last
last_more n xs x i k =
    let more : length (xs ++ x ∷ []) - n ≡ length xs - n + 1 = simp length-append (omega arith) in
    rw (more, drop-append-le (length xs - n + 1) xs (x ∷ []) (omega arith), drop-drop 1 (length xs - n) xs)
