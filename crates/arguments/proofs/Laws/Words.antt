-- Words, byte by byte. Assumes nothing.
use mathlib.Core.Path.{◌≡◌, refl, sym, ◌∙◌, ap}
use mathlib.Core.Bool.{Bool, true, false, cond, ◌&&◌, true≢false}
use mathlib.Core.List.{List, [], ◌∷◌}
use Prim.Native.Nat.{ℕ, suc, ◌+◌, ◌*◌, ◌-◌, ◌≤◌, ◌<◌}
use native.Mathlib.Omega.{arith}
use borrow.Author.Tests.{eq-eqb, ne_eqb, le-leb, lt-leb, lt-ltb, leb-true, ltb-true}
use lib.Dec.{eqb, leb, ltb}
use lib.Pointwise.{pointwise}
use lib.ListN.{length, get_or, drop, drop_of_length-le}
use lib.Seq.{drop-cons}
use Rattle.std.specs.Char.{is_ascii_digit}
use Rattle.std.specs.List.{list_all}
use Rattle.std.proofs.lemmas.Bool.Decides.{nat_tests}
use Rattle.settings.proofs.Laws.Cases.{by_equal}
use Rattle.lines.proofs.Laws.All.{both, all_at}
use Rattle.lines.specs.Promises.{is_digit, all_are, value_of, spelt_from, spelt}
use Rattle.arguments.specs.declared.Word.TheVariants.{Number, Name, Other}
use Rattle.arguments.specs.Words.{same, number_word, option_word, word_of}

digit_same : (g : ℕ) → is_digit g ≡ is_ascii_digit g
unfolding is_digit
digit_same g = grind (arith, nat_tests)

-- the library's test of all bytes is that of the definition
pub all_listed : (gs : List ℕ) → all_are is_digit gs ≡ list_all is_ascii_digit gs
unfolding all_are
all_listed [] = refl
all_listed (g ∷ gs) = rw (digit_same g, all_listed gs)

digit_value : (g : ℕ) → g ≤ 57 → value_of g ≡ g - 48
unfolding value_of
digit_value g j = let below_58 : g < 58 = omega (arith, j) in rw (lt-ltb g 58 below_58)

-- the digits of a word that has no other bytes
pub digit_at : (gs : List ℕ) (i : ℕ) → all_are is_digit gs ≡ true → i < length gs → (48 ≤ get_or gs i 0) × (get_or gs i 0 ≤ 57)
unfolding is_digit
digit_at gs i e j =
    let g = get_or gs i 0 in
    let (low, high) = both (leb 48 g) (ltb g 58) (all_at is_digit gs i e j) in
    let below_58 = ltb-true g 58 high in
    (leb-true 48 g low, omega (arith, below_58))

-- more digits spell no smaller number
spelt_grows : (n : ℕ) (gs : List ℕ) → n ≤ spelt_from 10 n gs
unfolding spelt_from
spelt_grows n [] = omega arith
spelt_grows n (g ∷ gs) = let on = spelt_grows (n * 10 + value_of g) gs in omega (arith, on)

-- the first i bytes spell n
unfoldable pub SpeltTo : (word : List ℕ) → (i n : ℕ) → Type 0
SpeltTo word i n = spelt 10 word ≡ spelt_from 10 n (drop i word)

module _ (word : List ℕ) where
  pub none_spelt : SpeltTo word 0 0
  unfolding SpeltTo spelt
  none_spelt = refl

  module _ (i : ℕ) (more : i < length word) where
    pub spelt_more : (n : ℕ) → SpeltTo word i n → get_or word i 0 ≤ 57 → SpeltTo word (i + 1) (n * 10 + (get_or word i 0 - 48))
    unfolding SpeltTo spelt_from
    spelt_more n s k =
        let one : i + 1 ≡ suc i = omega arith in
        rw one
        (s ∙ ap (spelt_from 10 n) (drop-cons word i 0 more)
        ∙ ap (λ (v : ℕ). spelt_from 10 (n * 10 + v) (drop (suc i) word)) (digit_value (get_or word i 0) k))

  -- a number by its limits
  pub too_large : (least largest i n : ℕ) → SpeltTo word i n → largest < n → Other ≡ number_word least largest (spelt 10 word)
  unfolding SpeltTo number_word
  too_large least largest i n s j =
      let large : largest < spelt 10 word = omega (arith, s, spelt_grows n (drop i word), j) in
      sym (rw (lt-leb (spelt 10 word) largest large) (neither (leb least (spelt 10 word))))
    where
      neither : (b : Bool) → cond (b && false) (Number (spelt 10 word)) Other ≡ Other
      neither true = refl
      neither false = refl

  all_spelt : (i n : ℕ) → SpeltTo word i n → length word ≤ i → spelt 10 word ≡ n
  unfolding SpeltTo spelt_from
  all_spelt i n s j = s ∙ ap (spelt_from 10 n) (drop_of_length-le word j)

  pub too_small : (least largest i n : ℕ) → SpeltTo word i n → length word ≤ i → n < least → Other ≡ number_word least largest (spelt 10 word)
  unfolding number_word
  too_small least largest i n s j k = rw (all_spelt i n s j, lt-leb least n k)

  pub within : (least largest i n : ℕ) → SpeltTo word i n → length word ≤ i → least ≤ n → n ≤ largest → Number n ≡ number_word least largest (spelt 10 word)
  unfolding number_word
  within least largest i n s j k m = rw (all_spelt i n s j, le-leb least n k, le-leb n largest m)

-- two words that are the same byte by byte
same_each : (a b : List ℕ) → same a b ≡ pointwise eqb a b
unfolding same
same_each [] [] = refl
same_each [] (y ∷ b) = refl
same_each (x ∷ a) [] = refl
same_each (x ∷ a) (y ∷ b) = ap (λ (r : Bool). eqb x y && r) (same_each a b)

-- a test of each byte tells whether two words are the same
pub same_bytes : (a b c : List ℕ) (r t : Bool) → c ≡ b → r ≡ pointwise eqb a c → r ≡ t → same a b ≡ t
same_bytes a b c r t d e f = same_each a b ∙ ap (pointwise eqb a) (sym d) ∙ sym e ∙ f

-- a test that tells whether two words are equal tells whether they are the same
itself : (w : List ℕ) → same w w ≡ true
unfolding same
itself [] = refl
itself (g ∷ gs) = rw (eq-eqb g g refl, itself gs)

another : (a b : List ℕ) → (a ≡ b → ⊥) → same a b ≡ false
unfolding same
another [] [] k = absurd (k refl)
another [] (y ∷ b) k = refl
another (x ∷ a) [] k = refl
another (x ∷ a) (y ∷ b) k =
    by_equal x y
    (λ e. rw (eq-eqb x y e) (another a b (λ d. k (rw (e, d)))))
    (λ e. rw (ne_eqb x y e))

pub same_by : (a b : List ℕ) (r : Bool) → (r ≡ true → a ≡ b) × (a ≡ b → r ≡ true) → same a b ≡ r
same_by a b true e = ap (λ (w : List ℕ). same a w) (sym (e.0 refl)) ∙ itself a
same_by a b false e = another a b (λ d. true≢false (sym (e.1 d)))

-- a word by its first byte and its digits
module _ (least largest : ℕ) where
  pub no_bytes : (w : List ℕ) → length w ≡ 0 → Other ≡ word_of least largest w
  unfolding word_of
  no_bytes [] e = refl
  no_bytes (g ∷ gs) e = absurd (omega (arith, e))

  module _ (w : List ℕ) (some : length w ≡ 0 → ⊥) where
    pub is_option : get_or w 0 0 ≡ 45 → option_word w ≡ word_of least largest w
    is_option = by_bytes w some
      where
        by_bytes : (v : List ℕ) → (length v ≡ 0 → ⊥) → get_or v 0 0 ≡ 45 → option_word v ≡ word_of least largest v
        by_bytes [] k e = absurd (k refl)
        by_bytes (g ∷ gs) k e = unfold word_of in rw (eq-eqb g 45 e)

    pub is_number : (get_or w 0 0 ≡ 45 → ⊥) → all_are is_digit w ≡ true → number_word least largest (spelt 10 w) ≡ word_of least largest w
    is_number = by_bytes w some
      where
        by_bytes : (v : List ℕ) → (length v ≡ 0 → ⊥) → (get_or v 0 0 ≡ 45 → ⊥) → all_are is_digit v ≡ true → number_word least largest (spelt 10 v) ≡ word_of least largest v
        by_bytes [] k e d = absurd (k refl)
        by_bytes (g ∷ gs) k e d = unfold word_of in rw (ne_eqb g 45 e, d)

    pub is_name : (get_or w 0 0 ≡ 45 → ⊥) → all_are is_digit w ≡ false → Name ≡ word_of least largest w
    is_name = by_bytes w some
      where
        by_bytes : (v : List ℕ) → (length v ≡ 0 → ⊥) → (get_or v 0 0 ≡ 45 → ⊥) → all_are is_digit v ≡ false → Name ≡ word_of least largest v
        by_bytes [] k e d = absurd (k refl)
        by_bytes (g ∷ gs) k e d = unfold word_of in rw (ne_eqb g 45 e, d)
