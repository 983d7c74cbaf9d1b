-- What the words of a call ask for: numbers in front, those that are needed and no more than there is room for, then at most one name;
-- or help or the version. Assumes nothing.
use Rattle.std.specs.Prelude.{◌≡◌, cond, List, [], ◌∷◌, ◌++◌, ℕ, zero, suc, eqb, ltb, length, drop}
use Rattle.arguments.specs.declared.Word.{Word}
use Rattle.arguments.specs.declared.Word.TheVariants as word
use Rattle.arguments.specs.declared.Call.{Call}
use Rattle.arguments.specs.declared.Call.TheVariants as call
use Rattle.arguments.specs.Words.{word_of}

-- §16.1 a name is the last word: what follows it is wrong
unfoldable pub named : (i : ℕ) → (behind : List (List ℕ)) → Call
named i [] = call.File i
named i (w ∷ ws) = call.Wrong (suc i)

-- §16.1 by the word at place i, with so many numbers needed and room for so many: `on` is what the words behind it ask for. A name stands
-- behind the needed numbers, help and version in front.
unfoldable pub by_word : (needed room i : ℕ) → (behind : List (List ℕ)) → (on : Call) → Word → Call
by_word needed room i ws on (word.Number n) = cond (ltb room i) (call.Wrong i) on
by_word needed room i ws on word.Name = cond (ltb needed i) (named i ws) (call.Wrong i)
by_word needed room i ws on word.Help = cond (eqb i 1) call.Help (call.Wrong i)
by_word needed room i ws on word.Version = cond (eqb i 1) call.Version (call.Wrong i)
by_word needed room i ws on word.Other = call.Wrong i

-- §16.1 what the words from place i on ask for
unfoldable pub call_from : (needed least largest room i : ℕ) → (words : List (List ℕ)) → Call
call_from needed least largest room i [] = cond (ltb needed i) call.Input call.Missing
call_from needed least largest room i (w ∷ ws) =
    by_word needed room i ws (call_from needed least largest room (suc i) ws) (word_of least largest w)

-- §16.1 what all words of a call ask for
unfoldable pub call_of : (needed least largest room : ℕ) → (words : List (List ℕ)) → Call
call_of needed least largest room ws = call_from needed least largest room 1 ws

-- §16.1 a number stands in front of those behind it; any other word ends them
unfoldable pub with_number : Word → (behind : List ℕ) → List ℕ
with_number (word.Number n) ns = n ∷ ns
with_number word.Name ns = []
with_number word.Help ns = []
with_number word.Version ns = []
with_number word.Other ns = []

-- §16.1 the numbers in front, at most so many
unfoldable pub numbers_in : (least largest room : ℕ) → (words : List (List ℕ)) → List ℕ
numbers_in least largest zero ws = []
numbers_in least largest (suc room) [] = []
numbers_in least largest (suc room) (w ∷ ws) = with_number (word_of least largest w) (numbers_in least largest room ws)

-- §16.1 what some word is; no contract can say which word an argument is
pub record SomeWord (least largest : ℕ) (x : Word) : Type 0 where
  pub word : List ℕ
  pub is : x ≡ word_of least largest word

-- §16.1 the answer for some words, and their numbers, written from the front
pub record Called (needed least largest : ℕ) (before : List ℕ) (answer : Call) (after : List ℕ) : Type 0 where
  pub words : List (List ℕ)
  pub answered : answer ≡ call_of needed least largest (length before) words
  pub numbers :
      let ns = numbers_in least largest (length before) words in
      after ≡ ns ++ drop (length ns) before
