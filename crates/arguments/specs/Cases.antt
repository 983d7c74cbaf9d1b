-- Words and calls at literals. Each statement is proved in proofs/Cases.antt, under its name in small letters. Assumes nothing.
use Rattle.std.specs.Prelude.{◌≡◌, List, [], ◌∷◌, ℕ, zero, suc}
use Prim.Native.String.{String}
use Rattle.file.specs.Cases.{codes}
use Rattle.arguments.specs.declared.Word.{Word}
use Rattle.arguments.specs.declared.Word.TheVariants as word
use Rattle.arguments.specs.declared.Call.{Call}
use Rattle.arguments.specs.declared.Call.TheVariants as call
use Rattle.arguments.specs.Words.{word_of}
use Rattle.arguments.specs.Call.{call_of, numbers_in}

-- §16.1 words where numbers are rows, from 1 to 1,024
unfoldable pub words_are : List String → List Word
words_are [] = []
words_are (s ∷ ss) = word_of 1 1024 (codes s) ∷ words_are ss

-- §16.1 numbers at and past each limit, and digits with zeros in front
unfoldable pub NumberCases : Type 0
NumberCases =
    (words_are ("1" ∷ "7" ∷ "007" ∷ "1024" ∷ []) ≡ word.Number 1 ∷ word.Number 7 ∷ word.Number 7 ∷ word.Number 1024 ∷ [])
    × (words_are ("0" ∷ "1025" ∷ "10240" ∷ "-1" ∷ "" ∷ []) ≡ word.Other ∷ word.Other ∷ word.Other ∷ word.Other ∷ word.Other ∷ [])
    × (word_of 0 4398046511104 (codes "0") ≡ word.Number 0)
    × (word_of 0 4398046511104 (codes "4398046511104") ≡ word.Number 4398046511104)
    × (word_of 0 4398046511104 (codes "4398046511105") ≡ word.Other)

-- §16.1 any other word names a file, unless it begins with `-`; `./` in front makes a name of any word
unfoldable pub NameCases : Type 0
NameCases =
    (words_are ("some.wall" ∷ "12a" ∷ " 1" ∷ "1e3" ∷ "./12" ∷ "./-x" ∷ []) ≡ word.Name ∷ word.Name ∷ word.Name ∷ word.Name ∷ word.Name ∷ word.Name ∷ [])
    × (words_are ("--help" ∷ "--version" ∷ []) ≡ word.Help ∷ word.Version ∷ [])
    × (words_are ("-" ∷ "--" ∷ "-h" ∷ "--hel" ∷ "--helpx" ∷ "--Version" ∷ []) ≡ word.Other ∷ word.Other ∷ word.Other ∷ word.Other ∷ word.Other ∷ word.Other ∷ [])

-- §16.1 words as bytes
unfoldable pub all_codes : List String → List (List ℕ)
all_codes [] = []
all_codes (s ∷ ss) = codes s ∷ all_codes ss

-- §16.1 a call with room for 16 rows
unfoldable pub with_rows : List String → Call
with_rows ss = call_of 0 1 1024 16 (all_codes ss)

-- §16.1 a call with room for no number
unfoldable pub without : List String → Call
without ss = call_of 0 0 0 0 (all_codes ss)

-- §16.1 a call that needs a limit of half ticks
unfoldable pub with_limit : List String → Call
with_limit ss = call_of 1 0 4398046511104 1 (all_codes ss)

-- §16.1 the same word so many times
abbrev pub sevens : (n : ℕ) → List String
sevens zero = []
sevens (suc n) = "7" ∷ sevens n

-- §16.1 what calls ask for
unfoldable pub CallCases : Type 0
CallCases =
    (with_rows [] ≡ call.Input)
    × (with_rows ("3" ∷ "1" ∷ []) ≡ call.Input)
    × (with_rows ("some.wall" ∷ []) ≡ call.File 1)
    × (with_rows ("3" ∷ "1" ∷ "some.wall" ∷ []) ≡ call.File 3)
    × (with_rows (sevens 16) ≡ call.Input)
    × (without [] ≡ call.Input)
    × (without ("some.wall" ∷ []) ≡ call.File 1)
    × (with_rows ("--help" ∷ "3" ∷ []) ≡ call.Help)
    × (without ("--version" ∷ []) ≡ call.Version)

-- §16.1 the place of the word that is wrong
unfoldable pub WrongCases : Type 0
WrongCases =
    (with_rows (sevens 17) ≡ call.Wrong 17)
    × (with_rows ("3" ∷ "0" ∷ "some.wall" ∷ []) ≡ call.Wrong 2)
    × (with_rows ("some.wall" ∷ "3" ∷ []) ≡ call.Wrong 2)
    × (with_rows ("3" ∷ "--help" ∷ []) ≡ call.Wrong 2)
    × (with_rows ("3" ∷ "--version" ∷ []) ≡ call.Wrong 2)
    × (without ("12" ∷ []) ≡ call.Wrong 1)
    × (without ("some.wall" ∷ "other.wall" ∷ []) ≡ call.Wrong 2)
    × (without ("-x" ∷ []) ≡ call.Wrong 1)

-- §16.1 calls with a limit and without
unfoldable pub NeededCases : Type 0
NeededCases =
    (with_limit [] ≡ call.Missing)
    × (with_limit ("5" ∷ []) ≡ call.Input)
    × (with_limit ("5" ∷ "some.wall" ∷ []) ≡ call.File 2)
    × (with_limit ("some.wall" ∷ []) ≡ call.Wrong 1)
    × (with_limit ("some.wall" ∷ "5" ∷ []) ≡ call.Wrong 1)
    × (with_limit ("5" ∷ "6" ∷ []) ≡ call.Wrong 2)
    × (with_limit ("4398046511104" ∷ []) ≡ call.Input)
    × (with_limit ("4398046511105" ∷ []) ≡ call.Wrong 1)
    × (with_limit ("-1" ∷ []) ≡ call.Wrong 1)
    × (with_limit ("--help" ∷ []) ≡ call.Help)
    × (with_limit ("--version" ∷ []) ≡ call.Version)

-- §16.1 the numbers in front, in their order
unfoldable pub FrontCases : Type 0
FrontCases =
    (numbers_in 1 1024 16 (all_codes ("3" ∷ "1" ∷ "some.wall" ∷ [])) ≡ 3 ∷ 1 ∷ []) × (numbers_in 1 1024 1 (all_codes ("3" ∷ "1" ∷ [])) ≡ 3 ∷ [])
