-- What the words of a call ask for, word by word. Assumes nothing.
use mathlib.Core.Path.{◌≡◌, refl, sym, ◌∙◌, ap}
use mathlib.Core.List.{List, [], ◌∷◌, ◌++◌, append_assoc, append-nil}
use Prim.Native.Nat.{ℕ, zero, suc, ◌+◌, ◌-◌, ◌≤◌, ◌<◌}
use native.Mathlib.Omega.{arith}
use borrow.Author.Tests.{eq-eqb, ne_eqb, lt-ltb, le-ltb}
use lib.ListN.{length, get_or, set, drop, length-append}
use lib.Seq.{drop-cons, set-append_seam}
use Rattle.arguments.specs.declared.Word.{Word}
use Rattle.arguments.specs.declared.Word.TheVariants as word
use Rattle.arguments.specs.declared.Call.{Call}
use Rattle.arguments.specs.declared.Call.TheVariants as call
use Rattle.arguments.specs.Words.{word_of}
use Rattle.arguments.specs.Call.{named, by_word, call_from, call_of, with_number, numbers_in, Called}

module _ (needed least largest : ℕ) where
  -- the words so far are numbers, which stand in front: what a call asks for is what the words behind them ask for
  pub record SoFar (before : List ℕ) (i : ℕ) (after : List ℕ) : Type 0 where
    pub words : List (List ℕ)
    pub numbers : List ℕ
    pub count : length numbers + 1 ≡ i
    pub few : length numbers ≤ length before
    pub asks : (rest : List (List ℕ)) → call_of needed least largest (length before) (words ++ rest) ≡ call_from needed least largest (length before) i rest
    pub front : (rest : List (List ℕ)) →
        numbers_in least largest (length before) (words ++ rest) ≡ numbers ++ numbers_in least largest (length before - length numbers) rest
    pub holds : after ≡ numbers ++ drop (length numbers) before

  pub none_read : (before : List ℕ) → SoFar before 1 before
  unfolding call_of
  none_read before =
      record {
        words = [];
        numbers = [];
        count = refl;
        few = omega arith;
        asks = λ rest. refl;
        front = λ rest. ap (λ (n : ℕ). numbers_in least largest n rest) (none_less (length before));
        holds = refl;
      }
    where
      none_less : (n : ℕ) → n ≡ n - 0
      none_less n = omega arith

  module _ (before : List ℕ) (i : ℕ) (after : List ℕ) (s : SoFar before i after) where
    -- the call ends with these words, none of which is a number for which there is room
    ends : (rest : List (List ℕ)) (x : Call) → x ≡ call_from needed least largest (length before) i rest →
        numbers_in least largest (length before - length s.numbers) rest ≡ [] → Called needed least largest before x after
    ends rest x e none =
        let all : numbers_in least largest (length before) (s.words ++ rest) ≡ s.numbers =
        s.front rest ∙ ap (λ (l : List ℕ). s.numbers ++ l) none ∙ append-nil s.numbers in
        record { words = s.words ++ rest; answered = e ∙ sym (s.asks rest); numbers = rw all s.holds }

    -- the words end here
    none_left : (n : ℕ) → numbers_in least largest n [] ≡ []
    unfolding numbers_in
    none_left zero = refl
    none_left (suc n) = refl

    pub all_read : needed < i → Called needed least largest before call.Input after
    unfolding call_from
    all_read j = ends [] call.Input (sym (rw (lt-ltb needed i j))) (none_left _)

    pub missing : i ≤ needed → Called needed least largest before call.Missing after
    unfolding call_from
    missing j = ends [] call.Missing (sym (rw (le-ltb needed i j))) (none_left _)

    -- a word that is no number ends the numbers
    no_number : (n : ℕ) (x : Word) (w : List ℕ) (ws : List (List ℕ)) → x ≡ word_of least largest w → ((ns : List ℕ) → with_number x ns ≡ []) →
        numbers_in least largest n (w ∷ ws) ≡ []
    unfolding numbers_in
    no_number zero x w ws e k = refl
    no_number (suc n) x w ws e k = rw (sym e) (k _)

    -- by the word at this place
    asked_by : (x : Word) (w : List ℕ) (ws : List (List ℕ)) → x ≡ word_of least largest w →
        by_word needed (length before) i ws (call_from needed least largest (length before) (suc i) ws) x ≡ call_from needed least largest (length before) i (w ∷ ws)
    unfolding call_from
    asked_by x w ws e = rw e

    module _ (w : List ℕ) where
      pub too_many : (n : ℕ) → word.Number n ≡ word_of least largest w → length before < i → Called needed least largest before (call.Wrong i) after
      unfolding by_word numbers_in
      too_many n e j =
          let none : length before - length s.numbers ≡ 0 = omega (arith, s.count, j) in
          ends (w ∷ []) (call.Wrong i) (sym (rw (lt-ltb (length before) i j)) ∙ asked_by (word.Number n) w [] e) (rw none)

      pub early_file : word.Name ≡ word_of least largest w → i ≤ needed → Called needed least largest before (call.Wrong i) after
      unfolding by_word with_number
      early_file e j = ends (w ∷ []) (call.Wrong i) (sym (rw (le-ltb needed i j)) ∙ asked_by word.Name w [] e) (no_number _ word.Name w [] e (λ ns. refl))

      pub file : word.Name ≡ word_of least largest w → needed < i → Called needed least largest before (call.File i) after
      unfolding by_word named with_number
      file e j = ends (w ∷ []) (call.File i) (sym (rw (lt-ltb needed i j)) ∙ asked_by word.Name w [] e) (no_number _ word.Name w [] e (λ ns. refl))

      pub behind_file : word.Name ≡ word_of least largest w → needed < i → Called needed least largest before (call.Wrong (i + 1)) after
      unfolding by_word named with_number
      behind_file e j =
          let next : i + 1 ≡ suc i = omega arith in
          rw next
          (ends (w ∷ [] ∷ []) (call.Wrong (suc i)) (sym (rw (lt-ltb needed i j)) ∙ asked_by word.Name w ([] ∷ []) e)
          (no_number _ word.Name w ([] ∷ []) e (λ ns. refl)))

      pub other : word.Other ≡ word_of least largest w → Called needed least largest before (call.Wrong i) after
      unfolding by_word with_number
      other e = ends (w ∷ []) (call.Wrong i) (asked_by word.Other w [] e) (no_number _ word.Other w [] e (λ ns. refl))

      pub help : word.Help ≡ word_of least largest w → i ≡ 1 → Called needed least largest before call.Help after
      unfolding by_word with_number
      help e j = ends (w ∷ []) call.Help (sym (rw (eq-eqb i 1 j)) ∙ asked_by word.Help w [] e) (no_number _ word.Help w [] e (λ ns. refl))

      pub late_help : word.Help ≡ word_of least largest w → (i ≡ 1 → ⊥) → Called needed least largest before (call.Wrong i) after
      unfolding by_word with_number
      late_help e j = ends (w ∷ []) (call.Wrong i) (sym (rw (ne_eqb i 1 j)) ∙ asked_by word.Help w [] e) (no_number _ word.Help w [] e (λ ns. refl))

      pub version : word.Version ≡ word_of least largest w → i ≡ 1 → Called needed least largest before call.Version after
      unfolding by_word with_number
      version e j = ends (w ∷ []) call.Version (sym (rw (eq-eqb i 1 j)) ∙ asked_by word.Version w [] e) (no_number _ word.Version w [] e (λ ns. refl))

      pub late_version : word.Version ≡ word_of least largest w → (i ≡ 1 → ⊥) → Called needed least largest before (call.Wrong i) after
      unfolding by_word with_number
      late_version e j = ends (w ∷ []) (call.Wrong i) (sym (rw (ne_eqb i 1 j)) ∙ asked_by word.Version w [] e) (no_number _ word.Version w [] e (λ ns. refl))

      -- one number more
      pub number_more : (n : ℕ) → word.Number n ≡ word_of least largest w → i ≤ length before → SoFar before (i + 1) (set after (i - 1) n)
      unfolding by_word numbers_in with_number
      number_more n e j =
          let ns = s.numbers in
          let room : length ns < length before = omega (arith, s.count, j) in
          let one = length-append ns (n ∷ []) in
          let next : length (ns ++ (n ∷ [])) ≡ suc (length ns) = omega (arith, one) in
          let place : i - 1 ≡ length ns = omega (arith, s.count) in
          let up : i + 1 ≡ suc i = omega arith in
          let left : length before - length ns ≡ suc (length before - suc (length ns)) = omega (arith, room) in
          record {
            words = s.words ++ (w ∷ []);
            numbers = ns ++ (n ∷ []);
            count = omega (arith, one, s.count);
            few = omega (arith, one, room);
            asks = λ rest.
                ap (call_of needed least largest (length before)) (append_assoc s.words (w ∷ []) rest) ∙ s.asks (w ∷ rest)
                ∙ sym (asked_by (word.Number n) w rest e) ∙ rw (le-ltb (length before) i j, up);
            front = λ rest.
                ap (numbers_in least largest (length before)) (append_assoc s.words (w ∷ []) rest) ∙ s.front (w ∷ rest)
                ∙ rw (left, ← e, next) (sym (append_assoc ns (n ∷ []) (numbers_in least largest (length before - suc (length ns)) rest)));
            holds =
                rw (s.holds, place, drop-cons before (length ns) 0 room, next)
                (set-append_seam ns (get_or before (length ns) 0) (drop (suc (length ns)) before) n
                ∙ sym (append_assoc ns (n ∷ []) (drop (suc (length ns)) before)));
          }
