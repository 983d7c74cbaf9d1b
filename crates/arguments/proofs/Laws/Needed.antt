-- A call that asks for a wall file has the numbers that it needs in front, word by word. Assumes nothing.
use mathlib.Core.Path.{◌≡◌, refl, sym, ◌∙◌}
use mathlib.Core.Bool.{Bool, true, false, cond, true≢false}
use mathlib.Core.List.{List, [], ◌∷◌}
use Prim.Native.Nat.{ℕ, zero, suc, ◌+◌, ◌≤◌}
use native.Mathlib.Omega.{arith}
use borrow.Author.Tests.{ltb-true, ltb-false}
use lib.Dec.{eqb, ltb}
use lib.ListN.{length}
use Rattle.arguments.specs.declared.Word.{Word}
use Rattle.arguments.specs.declared.Word.TheVariants as word
use Rattle.arguments.specs.declared.Call.{Call}
use Rattle.arguments.specs.declared.Call.TheVariants as call
use Rattle.arguments.specs.Words.{word_of}
use Rattle.arguments.specs.Call.{named, by_word, call_from, with_number, numbers_in}
use Rattle.arguments.specs.Promises.{asks_for_wall}

-- of two answers by a test, the one that asks for a wall file tells how the test went
first_asks : (b : Bool) (x y : Call) → asks_for_wall y ≡ false → asks_for_wall (cond b x y) ≡ true → b ≡ true
first_asks true x y e a = refl
first_asks false x y e a = absurd (true≢false (sym a ∙ e))

second_asks : (b : Bool) (x y : Call) → asks_for_wall x ≡ false → asks_for_wall (cond b x y) ≡ true → (b ≡ false) × (asks_for_wall y ≡ true)
second_asks true x y e a = absurd (true≢false (sym a ∙ e))
second_asks false x y e a = (refl, a)

module _ (needed least largest room : ℕ) where
  -- by the word behind i numbers, with room for n more
  by_one : (i n : ℕ) (w : List ℕ) (ws : List (List ℕ)) (on : Call) (x : Word) → x ≡ word_of least largest w → room ≡ i + n →
      ((m : ℕ) → n ≡ suc m → asks_for_wall on ≡ true → needed ≤ suc i + length (numbers_in least largest m ws)) →
      asks_for_wall (by_word needed room (suc i) ws on x) ≡ true → needed ≤ i + length (numbers_in least largest n (w ∷ ws))
  unfolding by_word asks_for_wall numbers_in with_number
  by_one i zero w ws on (word.Number v) e r more a =
      let full = (second_asks (ltb room (suc i)) (call.Wrong (suc i)) on refl a).0 in omega (arith, ltb-false room (suc i) full, r)
  by_one i (suc m) w ws on (word.Number v) e r more a =
      rw (sym e) (omega (arith, more m refl (second_asks (ltb room (suc i)) (call.Wrong (suc i)) on refl a).1))
  by_one i n w ws on word.Name e r more a =
      let past = first_asks (ltb needed (suc i)) (named (suc i) ws) (call.Wrong (suc i)) refl a in omega (arith, ltb-true needed (suc i) past)
  by_one i n w ws on word.Help e r more a = absurd (true≢false (sym (second_asks (eqb (suc i) 1) call.Help (call.Wrong (suc i)) refl a).1))
  by_one i n w ws on word.Version e r more a = absurd (true≢false (sym (second_asks (eqb (suc i) 1) call.Version (call.Wrong (suc i)) refl a).1))
  by_one i n w ws on word.Other e r more a = absurd (true≢false (sym a))

  -- by all words behind i numbers
  pub needed_from : (i n : ℕ) (ws : List (List ℕ)) → room ≡ i + n → asks_for_wall (call_from needed least largest room (suc i) ws) ≡ true →
      needed ≤ i + length (numbers_in least largest n ws)
  unfolding call_from asks_for_wall
  needed_from i n [] r a =
      let past = first_asks (ltb needed (suc i)) call.Input call.Missing refl a in omega (arith, ltb-true needed (suc i) past)
  needed_from i n (w ∷ ws) r a =
      by_one i n w ws (call_from needed least largest room (suc (suc i)) ws) (word_of least largest w) refl r
      (λ m e. needed_from (suc i) m ws (omega (arith, r, e))) a
