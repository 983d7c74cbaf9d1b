-- The proofs of what specs/Cases.antt states, by computation. Assumes nothing.
use mathlib.Core.Path.{refl}
use Rattle.lines.specs.Promises.{is_digit, all_are, value_of, spelt_from, spelt}
use Rattle.file.specs.Cases.{codes}
use Rattle.arguments.specs.Words.{same, option_word, number_word, word_of}
use Rattle.arguments.specs.Call.{named, by_word, call_from, call_of, with_number, numbers_in}
use Rattle.arguments.specs.Cases.{words_are, NumberCases, NameCases, all_codes, with_rows, without, with_limit, CallCases, WrongCases, NeededCases, FrontCases}

pub number_cases : NumberCases
unfolding NumberCases words_are codes word_of number_word option_word same spelt spelt_from value_of all_are is_digit
number_cases = (refl, refl, refl, refl, refl)

pub name_cases : NameCases
unfolding NameCases words_are codes word_of number_word option_word same spelt spelt_from value_of all_are is_digit
name_cases = (refl, refl, refl)

pub call_cases : CallCases
unfolding CallCases with_rows without all_codes codes call_of call_from by_word named word_of number_word option_word same spelt spelt_from value_of all_are is_digit
call_cases = (refl, refl, refl, refl, refl, refl, refl, refl, refl)

pub wrong_cases : WrongCases
unfolding WrongCases with_rows without all_codes codes call_of call_from by_word named word_of number_word option_word same spelt spelt_from value_of all_are is_digit
wrong_cases = (refl, refl, refl, refl, refl, refl, refl, refl)

pub needed_cases : NeededCases
unfolding NeededCases with_limit all_codes codes call_of call_from by_word named word_of number_word option_word same spelt spelt_from value_of all_are is_digit
needed_cases = (refl, refl, refl, refl, refl, refl, refl, refl, refl, refl, refl)

pub front_cases : FrontCases
unfolding FrontCases all_codes codes numbers_in with_number word_of number_word option_word same spelt spelt_from value_of all_are is_digit
front_cases = (refl, refl)
