-- The words of each struct of bindings/c/polzaintu.h, at numbers, in the order of its fields. Each statement is proved in
-- proofs/Cases.antt, under its name in small letters. Assumes nothing.
use Rattle.std.specs.Prelude.{◌≡◌, true, false, List, [], ◌∷◌, ℕ}
use Rattle.settings.specs.Settings.{settings_refusal}
use Rattle.settings.specs.declared.Settings.{Settings}
use Rattle.rule.specs.Stamp.{heard, silent}
use Rattle.tile.specs.Tile.{own_stamp, neighbour_stamps}
use Rattle.seam.specs.declared.Side.TheVariants.{Left, Right, Both}
use Rattle.stages.specs.Fit.{due_of, width_of}
use Rattle.stages.specs.declared.Place.{Place}
use Rattle.stages.specs.declared.Wall.TheVariants.{New, Start, Row, End, Over}
use Rattle.layout.specs.Words.{settings_from, stamps_in, side_word, wall_in, wall_words, refused_words, refused_number, takes}

-- §17.2 the number of settings by their words
unfoldable pub Refuses : (w rows d u a r h number : ℕ) → Type 0
Refuses w rows d u a r h n = settings_refusal (settings_from 0 (w ∷ rows ∷ d ∷ u ∷ a ∷ r ∷ h ∷ [])) ≡ n

-- §17.2 W, R, d, u, A, r, h: each word out of its range, alone, has its number; 8 and 9 are of h and A
unfoldable pub SettingsCases : Type 0
SettingsCases =
    Refuses 6 1 100 10 400 0 12 0
    × Refuses 5 1 100 10 400 0 12 1
    × Refuses 6 0 100 10 400 0 12 2
    × Refuses 6 1 0 10 400 0 12 3
    × Refuses 6 1 100 101 400 0 12 4
    × Refuses 6 1 100 10 0 0 12 5
    × Refuses 6 1 100 10 400 10001 12 6
    × Refuses 6 1 100 10 400 0 0 7
    × Refuses 6 1 100 10 400 0 11 8
    × Refuses 6 1 100 10 191 0 12 9

-- §17.2 own, the neighbours, the count; 2^64 - 1 is silent, and no neighbour past the count is read
unfoldable pub StampsCases : Type 0
StampsCases =
    (own_stamp (stamps_in (10 ∷ 21 ∷ 22 ∷ 23 ∷ 3 ∷ [])) ≡ heard 10)
    × (neighbour_stamps (stamps_in (10 ∷ 21 ∷ 22 ∷ 23 ∷ 3 ∷ [])) ≡ heard 21 ∷ heard 22 ∷ heard 23 ∷ [])
    × (neighbour_stamps (stamps_in (10 ∷ 21 ∷ 22 ∷ 23 ∷ 2 ∷ [])) ≡ heard 21 ∷ heard 22 ∷ [])
    × (own_stamp (stamps_in (18446744073709551615 ∷ 21 ∷ 22 ∷ 23 ∷ 3 ∷ [])) ≡ silent)
    × (neighbour_stamps (stamps_in (10 ∷ 21 ∷ 18446744073709551615 ∷ 23 ∷ 3 ∷ [])) ≡ heard 21 ∷ silent ∷ heard 23 ∷ [])
    × (own_stamp (stamps_in (2199023255551 ∷ 21 ∷ 22 ∷ 23 ∷ 3 ∷ [])) ≡ heard 2199023255551)

-- §17.2 POLZAINTU_OPEN_LEFT, _RIGHT, _BOTH
unfoldable pub SideCases : Type 0
SideCases = (side_word Left ≡ 1) × (side_word Right ≡ 2) × (side_word Both ≡ 3)

-- §17.2 settings that tell the words apart
unfoldable pub wall_settings : Settings
wall_settings = record { width = 11; rows = 12; delay = 13; uncertainty = 14; hold = 15; drift = 16; unit = 17 }

-- §17.2 a place in a file: settings, row, offset
unfoldable pub wall_place : Place
wall_place = record { settings = wall_settings; row = 18; offset = 19 }

-- §17.2 its words at a stage
unfoldable pub staged_words : (stage : ℕ) → List ℕ
staged_words n = n ∷ 11 ∷ 12 ∷ 13 ∷ 14 ∷ 15 ∷ 16 ∷ 17 ∷ 18 ∷ 19 ∷ []

-- §17.2 POLZAINTU_SETTINGS_DUE, _START_DUE, _ROW_DUE, _END_DUE and POLZAINTU_ENDED, as they are read
unfoldable pub WallReadCases : Type 0
WallReadCases =
    (wall_in (staged_words 0) ≡ New)
    × (wall_in (staged_words 1) ≡ Start wall_place)
    × (wall_in (staged_words 2) ≡ Row wall_place)
    × (wall_in (staged_words 3) ≡ End wall_place)
    × (wall_in (staged_words 4) ≡ Over)

-- §17.2 and as they are written
unfoldable pub WallWrittenCases : Type 0
WallWrittenCases =
    (wall_words New wall_place ≡ staged_words 0)
    × (wall_words (Start wall_place) wall_place ≡ staged_words 1)
    × (wall_words (Row wall_place) wall_place ≡ staged_words 2)
    × (wall_words (End wall_place) wall_place ≡ staged_words 3)
    × (wall_words Over wall_place ≡ staged_words 4)

-- §17.3 POLZAINTU_REFUSED: number 43 at offset 27, and what is read of it; an ended file is no refusal, nor are words that no step leaves
unfoldable pub RefusedCases : Type 0
RefusedCases =
    (refused_words 43 27 wall_place ≡ 5 ∷ 11 ∷ 12 ∷ 13 ∷ 14 ∷ 15 ∷ 16 ∷ 17 ∷ 43 ∷ 27 ∷ [])
    × (refused_number (refused_words 43 27 wall_place) ≡ 43)
    × (refused_number (staged_words 4) ≡ 0)
    × (refused_number (staged_words 6) ≡ 0)
    × (refused_number (refused_words 4294967294 27 wall_place) ≡ 4294967294)
    × (refused_number (refused_words 4294967295 27 wall_place) ≡ 0)

-- §17.3 the words of the widest wall at a stage
unfoldable pub widest_words : (stage : ℕ) → List ℕ
widest_words n = n ∷ 256 ∷ 1024 ∷ 100 ∷ 10 ∷ 400 ∷ 0 ∷ 12 ∷ 1 ∷ 2078 ∷ []

-- §17.3 what is due of it, and W: the settings, row 0, the next row (POLZAINTU_DUE_MOST), one byte to see the end
unfoldable pub DueCases : Type 0
DueCases =
    (due_of (wall_in (widest_words 0)) ≡ 27)
    × (due_of (wall_in (widest_words 1)) ≡ 2051)
    × (due_of (wall_in (widest_words 2)) ≡ 7734)
    × (due_of (wall_in (widest_words 3)) ≡ 1)
    × (due_of (wall_in (widest_words 4)) ≡ 0)
    × (width_of (wall_in (widest_words 0)) ≡ 0)
    × (width_of (wall_in (widest_words 1)) ≡ 256)
    × (width_of (wall_in (widest_words 4)) ≡ 0)
    × (due_of (wall_in (widest_words 5)) ≡ 0)

-- §17.3 a part as long as is due or shorter; not a longer one, and none past the stages of a wall
unfoldable pub TakesCases : Type 0
TakesCases =
    (takes (widest_words 0) 27 ≡ true)
    × (takes (widest_words 0) 28 ≡ false)
    × (takes (widest_words 2) 7734 ≡ true)
    × (takes (widest_words 2) 7735 ≡ false)
    × (takes (widest_words 3) 2 ≡ false)
    × (takes (widest_words 4) 0 ≡ true)
    × (takes (widest_words 4) 1 ≡ false)
    × (takes (widest_words 5) 0 ≡ false)
    × (takes (widest_words 6) 0 ≡ false)
