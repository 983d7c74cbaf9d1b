-- What a word of a call is by itself. Words are bytes in ASCII. Assumes nothing.
use Rattle.std.specs.Prelude.{Bool, true, false, cond, ◌&&◌, List, [], ◌∷◌, ℕ, eqb, leb}
use Rattle.lines.specs.Promises.{is_digit, all_are, spelt}
use Rattle.arguments.specs.declared.Word.{Word}
use Rattle.arguments.specs.declared.Word.TheVariants.{Number, Name, Help, Version, Other}

-- §16.1 two words are the same, byte by byte
unfoldable pub same : (a b : List ℕ) → Bool
same [] [] = true
same [] (y ∷ b) = false
same (x ∷ a) [] = false
same (x ∷ a) (y ∷ b) = eqb x y && same a b

-- §16.1 `-`
abbrev pub dash : ℕ
dash = 45

-- §16.1 `--help`
abbrev pub help_word : List ℕ
help_word = 45 ∷ 45 ∷ 104 ∷ 101 ∷ 108 ∷ 112 ∷ []

-- §16.1 `--version`
abbrev pub version_word : List ℕ
version_word = 45 ∷ 45 ∷ 118 ∷ 101 ∷ 114 ∷ 115 ∷ 105 ∷ 111 ∷ 110 ∷ []

-- §16.1 a word that begins with `-`: help, version, or none that is known
unfoldable pub option_word : (word : List ℕ) → Word
option_word w = cond (same w help_word) Help (cond (same w version_word) Version Other)

-- §16.1 a number within the limits
unfoldable pub number_word : (least largest n : ℕ) → Word
number_word least largest n = cond (leb least n && leb n largest) (Number n) Other

-- §16.1 a word of digits is a number, one that begins with `-` an option, any other the name of a file; one without a byte is none
unfoldable pub word_of : (least largest : ℕ) → (word : List ℕ) → Word
word_of least largest [] = Other
word_of least largest (g ∷ gs) =
    cond (eqb g dash) (option_word (g ∷ gs))
    (cond (all_are is_digit (g ∷ gs)) (number_word least largest (spelt 10 (g ∷ gs))) Name)
