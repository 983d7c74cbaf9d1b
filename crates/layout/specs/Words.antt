-- Structs as words, in the order of the header's fields. Assumes nothing.
use Rattle.std.specs.Prelude.{Bool, cond, ◌&&◌, List, [], ◌∷◌, ℕ, ◌+◌, eqb, ltb, leb, ℤ, pos, get_or}
use Rattle.settings.specs.Settings.{settings}
use Rattle.settings.specs.declared.Settings.{Settings}
use Rattle.tile.specs.declared.Stamps.{Stamps}
use Rattle.seam.specs.declared.Side.{Side}
use Rattle.seam.specs.declared.Side.TheVariants.{Left, Right, Both}
use Rattle.stages.specs.Fit.{place, due_of}
use Rattle.stages.specs.declared.Place.{Place}
use Rattle.stages.specs.declared.Wall.{Wall}
use Rattle.stages.specs.declared.Wall.TheVariants.{New, Start, Row, End, Over}

-- §17.1 the number of what is unfit and has no number of its own
abbrev pub unfit : ℕ
unfit = 4294967295

-- §17.2 from the word k on: W, R, d, u, A, r, h
unfoldable pub settings_from : (k : ℕ) → (words : List ℕ) → Settings
settings_from k ws =
    settings (get_or ws k 0) (get_or ws (k + 1) 0) (get_or ws (k + 2) 0) (get_or ws (k + 3) 0) (get_or ws (k + 4) 0) (get_or ws (k + 5) 0) (get_or ws (k + 6) 0)

-- §6.1 silence as a word
abbrev pub silent_word : ℕ
silent_word = 18446744073709551615

-- §17.2 a word, up to a bound
unfoldable pub at_most : (most word : ℕ) → ℕ
at_most m n = cond (ltb n m) n m

-- §6.2 the first stamp that is too late
abbrev pub first_late : ℕ
first_late = 2199023255552

-- §17.2 a stamp; one over 2^41 is taken as 2^41, which is turned away all the same
unfoldable pub stamp_in : (word : ℕ) → ℤ
stamp_in n = pos (at_most first_late n)

-- §17.2 own, three neighbour places and a count; one over 4 is taken as 4, which is turned away all the same
unfoldable pub stamps_in : (words : List ℕ) → Stamps
stamps_in ws =
    record {
      at = stamp_in (get_or ws 0 0) ∷ stamp_in (get_or ws 1 0) ∷ stamp_in (get_or ws 2 0) ∷ stamp_in (get_or ws 3 0) ∷ [];
      silent = eqb (get_or ws 0 0) silent_word ∷ eqb (get_or ws 1 0) silent_word ∷ eqb (get_or ws 2 0) silent_word ∷ eqb (get_or ws 3 0) silent_word ∷ [];
      count = at_most 4 (get_or ws 4 0);
    }

-- §17.2 a side
unfoldable pub side_word : Side → ℕ
side_word Left = 1
side_word Right = 2
side_word Both = 3

-- §17.2 a place in a file: settings, last row and bytes taken
unfoldable pub place_in : (words : List ℕ) → Place
place_in ws = place (settings_from 1 ws) (get_or ws 8 0) (get_or ws 9 0)

-- §17.2 a wall by its stage and place; any other stage has nothing due
unfoldable pub staged : (stage : ℕ) → Place → Wall
staged n p = cond (eqb n 0) New (cond (eqb n 1) (Start p) (cond (eqb n 2) (Row p) (cond (eqb n 3) (End p) Over)))

-- §17.2 a wall: its stage, settings, last row and bytes taken
unfoldable pub wall_in : (words : List ℕ) → Wall
wall_in ws = staged (get_or ws 0 0) (place_in ws)

-- §17.2 the words of a stage and a place
unfoldable pub place_words : (stage : ℕ) → Place → List ℕ
place_words n p =
    let s = p.settings in
    n ∷ s.width ∷ s.rows ∷ s.delay ∷ s.uncertainty ∷ s.hold ∷ s.drift ∷ s.unit ∷ p.row ∷ p.offset ∷ []

-- §17.2 the words of a wall; the place is that of a wall that has none of its own
unfoldable pub wall_words : Wall → Place → List ℕ
wall_words New p = place_words 0 p
wall_words (Start q) p = place_words 1 q
wall_words (Row q) p = place_words 2 q
wall_words (End q) p = place_words 3 q
wall_words Over p = place_words 4 p

-- §17.3 a file that is turned away: stage 5, with the number and the offset in place of the last row and the bytes taken
unfoldable pub refused_words : (number offset : ℕ) → Place → List ℕ
refused_words n at p = place_words 5 (place p.settings n at)

-- §17.3 that number; 0 where the words are not a refusal's, as no step leaves them
unfoldable pub refused_number : (words : List ℕ) → ℕ
refused_number ws = cond (eqb (get_or ws 0 0) 5) (cond (ltb (get_or ws 8 0) unfit) (get_or ws 8 0) 0) 0

-- §17.3 a step can be taken: the words are a wall's, and the part is no longer than what is due
unfoldable pub takes : (words : List ℕ) → (part : ℕ) → Bool
takes ws n = leb (get_or ws 0 0) 4 && leb n (due_of (wall_in ws))
