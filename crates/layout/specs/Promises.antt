-- What is promised of structs as words. Each statement is proved in proofs/Promises.antt, under its name in small letters.
-- Assumes nothing.
use Rattle.std.specs.Prelude.{◌≡◌, Bool, false, cond, not, ◌&&◌, List, ℕ, ◌≤◌, ◌<◌, eqb, ltb, length, get_or}
use Rattle.settings.specs.Refusal.{outside}
use Rattle.rule.specs.Stamp.{Stamp, heard, silent, latest_stamp}
use Rattle.tile.specs.Tile.{stamp_at, late_at}
use Rattle.stages.specs.declared.Place.{Place}
use Rattle.stages.specs.declared.Wall.{Wall}
use Rattle.stages.specs.declared.Wall.TheVariants.{Over}
use Rattle.layout.specs.Words.{unfit, silent_word, stamps_in, place_in, wall_in, wall_words, refused_words, refused_number}

-- §6.1 a word as a stamp: 2^64 - 1 is silence
unfoldable pub word_stamp : (word : ℕ) → Stamp
word_stamp n = cond (eqb n silent_word) silent (heard n)

-- §6.2 a word that is too late for a stamp
unfoldable pub word_late : (word : ℕ) → Bool
word_late n = not (eqb n silent_word) && ltb latest_stamp n

-- §17.2 the stamps that are handed in are those, whatever is taken as less
unfoldable pub StampsRead : Type 0
StampsRead =
    (ws : List ℕ) (j : ℕ) → j < 4 →
    (late_at (stamps_in ws) j ≡ word_late (get_or ws j 0)) × (word_late (get_or ws j 0) ≡ false → stamp_at (stamps_in ws) j ≡ word_stamp (get_or ws j 0))

-- §17.2 and so is the count, where it is not turned away with 11
unfoldable pub CountRead : Type 0
CountRead =
    (ws : List ℕ) → (outside 2 3 (stamps_in ws).count ≡ outside 2 3 (get_or ws 4 0)) × (get_or ws 4 0 ≤ 3 → (stamps_in ws).count ≡ get_or ws 4 0)

-- §17.2 a wall's words are read as the wall that was written, so calls one after the other are steps of one file
unfoldable pub WallsKept : Type 0
WallsKept = (x : Wall) (p : Place) → wall_in (wall_words x p) ≡ x

-- §17.3 none of them is read as a refusal's
unfoldable pub WallsNotRefused : Type 0
WallsNotRefused = (x : Wall) (p : Place) → refused_number (wall_words x p) ≡ 0

-- §17.3 a refusal's words are read as that refusal, and as a wall of which nothing is due
pub record RefusalRead (number offset : ℕ) (words : List ℕ) : Type 0 where
  pub same_number : refused_number words ≡ number
  pub same_offset : get_or words 9 0 ≡ offset
  pub over : wall_in words ≡ Over

-- §17.3 so it is with every number that a step can answer
unfoldable pub RefusalsKept : Type 0
RefusalsKept = (n at : ℕ) (p : Place) → n < unfit → RefusalRead n at (refused_words n at p)

-- §17.3 and written again they are the same
unfoldable pub RefusalsStay : Type 0
RefusalsStay =
    (ws : List ℕ) → length ws ≡ 10 → 0 < refused_number ws →
    refused_words (refused_number ws) (get_or ws 9 0) (place_in ws) ≡ ws
