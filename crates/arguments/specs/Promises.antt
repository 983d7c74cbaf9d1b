-- What is promised of words and of the numbers that a call needs. Each statement is proved in proofs/Promises.antt, under its name in
-- small letters. Assumes nothing.
use Rattle.std.specs.Prelude.{◌≡◌, Bool, true, false, List, ℕ, ◌^◌, ◌≤◌, ◌<◌, length}
use Rattle.lines.specs.Number.{decimal}
use Rattle.arguments.specs.declared.Word.TheVariants.{Number}
use Rattle.arguments.specs.declared.Call.{Call}
use Rattle.arguments.specs.declared.Call.TheVariants as call
use Rattle.arguments.specs.Words.{word_of}
use Rattle.arguments.specs.Call.{call_of, numbers_in}

-- §16.1 a number's decimal digits, as they are printed, are a word that is this number, where it is within the limits
unfoldable pub DecimalNamed : Type 0
DecimalNamed = (least largest n : ℕ) → least ≤ n → n ≤ largest → n < 10 ^ 20 → word_of least largest (decimal n) ≡ Number n

-- §16.1 a call asks for a wall file, one that it names or standard input
unfoldable pub asks_for_wall : Call → Bool
asks_for_wall call.Input = true
asks_for_wall (call.File i) = true
asks_for_wall call.Help = false
asks_for_wall call.Version = false
asks_for_wall call.Missing = false
asks_for_wall (call.Wrong i) = false

-- §16.1 a call that asks for a wall file has as many numbers in front as it needs
unfoldable pub NeededGiven : Type 0
NeededGiven =
    (needed least largest room : ℕ) (words : List (List ℕ)) → asks_for_wall (call_of needed least largest room words) ≡ true →
    needed ≤ length (numbers_in least largest room words)
