-- What the functions answer and leave at numbers, by the words of bindings/c/polzaintu.h. The settings are those of the wall
-- of §14.4. Each statement is proved in proofs/Cases.antt, under its name in small letters. Assumes nothing.
use Rattle.std.specs.Prelude.{◌≡◌, Bool, true, false, List, [], ◌∷◌, map, ℕ, ℤ, pos, negsuc, Float, replicate, get_or}
use Rattle.std.specs.Float.{binary64}
use Rattle.std.specs.Float.Ieee.{to_bits}
use Rattle.settings.specs.Refusal.{number_in}
use Rattle.settings.specs.declared.Settings.{Settings}
use Rattle.tile.specs.Tile.{forwarded}
use Rattle.admission.specs.Call.{call}
use Rattle.row.specs.Row.{planned, written, lettered}
use Rattle.seam.specs.Seam.{seam_of}
use Rattle.reach.specs.Search.{gap_of, reach_of, reach_in_row}
use Rattle.reach.specs.Survey.{surveyed_of}
use Rattle.places.specs.Seams.{columns_of, seam_at}
use Rattle.places.specs.Marks.{mark_of}
use Rattle.places.specs.Links.{link_of}
use Rattle.wide.specs.Wide.{first_wide}
use Rattle.layout.specs.Words.{settings_from, stamps_in}
use Rattle.calls.specs.Answers.{forwarded_left, ends_left, side_left, halves_left, gap_left, reach_number, reach_left, survey_number, survey_left, columns_number, columns_left, row_seam_number, row_seam_columns, row_seam_side, row_seam_halves, mark_number, mark_left, link_number, link_left, wide_found, wide_left}

-- §14.4 the settings: W 6, R 1, d 100, u 10, A 400, r 0, h 12
unfoldable pub wall_settings : Settings
wall_settings = settings_from 0 (6 ∷ 1 ∷ 100 ∷ 10 ∷ 400 ∷ 0 ∷ 12 ∷ [])

-- §17.1 polzaintu_tile: own, three neighbours and the count; its number, and p, correction, corrected, letter
unfoldable pub Tile : (stamps : List ℕ) → (number : ℕ) → (answer : List ℤ) → Type 0
Tile ws n a =
    (number_in (forwarded wall_settings (stamps_in ws)) ≡ n)
    × (forwarded_left (forwarded wall_settings (stamps_in ws)) (pos 7 ∷ pos 8 ∷ pos 9 ∷ pos 10 ∷ []) ≡ a)

-- §17.1 stamps of each kind and letter, and 11, 12 and 13, which leave the answer as it was
unfoldable pub TileCases : Type 0
TileCases =
    Tile (200 ∷ 100 ∷ 100 ∷ 0 ∷ 2 ∷ []) 0 (pos 136 ∷ pos 64 ∷ pos 1 ∷ pos 108 ∷ [])
    × Tile (63 ∷ 100 ∷ 100 ∷ 0 ∷ 2 ∷ []) 0 (pos 64 ∷ negsuc 0 ∷ pos 1 ∷ pos 101 ∷ [])
    × Tile (18446744073709551615 ∷ 100 ∷ 130 ∷ 0 ∷ 2 ∷ []) 0 (pos 166 ∷ pos 0 ∷ pos 0 ∷ pos 108 ∷ [])
    × Tile (50 ∷ 100 ∷ 18446744073709551615 ∷ 0 ∷ 2 ∷ []) 0 (pos 64 ∷ negsuc 13 ∷ pos 1 ∷ pos 101 ∷ [])
    × Tile (100 ∷ 100 ∷ 100 ∷ 0 ∷ 2 ∷ []) 0 (pos 100 ∷ pos 0 ∷ pos 1 ∷ pos 107 ∷ [])
    × Tile (112 ∷ 100 ∷ 100 ∷ 0 ∷ 2 ∷ []) 0 (pos 112 ∷ pos 0 ∷ pos 1 ∷ pos 109 ∷ [])
    × Tile (137 ∷ 100 ∷ 100 ∷ 0 ∷ 2 ∷ []) 0 (pos 113 ∷ pos 24 ∷ pos 1 ∷ pos 98 ∷ [])
    × Tile (200 ∷ 100 ∷ 100 ∷ 100 ∷ 4 ∷ []) 11 (pos 7 ∷ pos 8 ∷ pos 9 ∷ pos 10 ∷ [])
    × Tile (200 ∷ 100 ∷ 2199023255552 ∷ 0 ∷ 2 ∷ []) 12 (pos 7 ∷ pos 8 ∷ pos 9 ∷ pos 10 ∷ [])
    × Tile (18446744073709551615 ∷ 100 ∷ 18446744073709551615 ∷ 0 ∷ 2 ∷ []) 13 (pos 7 ∷ pos 8 ∷ pos 9 ∷ pos 10 ∷ [])

-- §14.4 row 0
unfoldable pub row_0 : List ℕ
row_0 = 1000 ∷ 1000 ∷ 1000 ∷ 1080 ∷ 1000 ∷ 1000 ∷ []

-- §17.1 polzaintu_row with this phase of the first tile and this delay on its first link: its number, the times, the letters, and the earliest and the latest time
unfoldable pub Planned : (phase link : ℕ) → (number : ℕ) → (times letters ends : List ℕ) → Type 0
Planned q v n times letters ends =
    let x = call (0 ∷ []) (replicate 6 0) (q ∷ replicate 5 0) (v ∷ replicate 19 100) 6 6 in
    (number_in (planned wall_settings row_0 x) ≡ n)
    × (written wall_settings row_0 x (replicate 6 7) ≡ times)
    × (lettered wall_settings row_0 x (replicate 6 7) ≡ letters)
    × (ends_left (planned wall_settings row_0 x) (7 ∷ 8 ∷ []) ≡ ends)

-- §17.1 a row; a delay of 101, which is 26 and leaves all as it was; §E4.3 with a phase of 1,000,000 it is 53
unfoldable pub RowCases : Type 0
RowCases =
    Planned 0 100 0 (1500 ∷ 1500 ∷ 1500 ∷ 1536 ∷ 1500 ∷ 1500 ∷ []) (107 ∷ 107 ∷ 107 ∷ 108 ∷ 107 ∷ 107 ∷ []) (1500 ∷ 1536 ∷ [])
    × Planned 0 101 26 (replicate 6 7) (replicate 6 7) (7 ∷ 8 ∷ [])
    × Planned 1000000 101 53 (replicate 6 7) (replicate 6 7) (7 ∷ 8 ∷ [])

-- §17.1 floats that are there before
unfoldable pub held_halves : List Float
held_halves = halves_left (seam_of 1 false 2 false) []

-- §17.1 polzaintu_seam: the number, the side, and the bits of midpoint and half gap
unfoldable pub Seam : (left : ℕ) (left_faulty : Bool) (right : ℕ) (right_faulty : Bool) → (number side midpoint half_gap : ℕ) → Type 0
Seam l lf r rf n s m g =
    (number_in (seam_of l lf r rf) ≡ n)
    × (side_left (seam_of l lf r rf) 7 ≡ s)
    × (map (to_bits binary64) (halves_left (seam_of l lf r rf) held_halves) ≡ m ∷ g ∷ [])

-- §17.1 closed, each way of being open, and 31
unfoldable pub SeamCases : Type 0
SeamCases =
    Seam 1500 false 1536 false 0 0 0x4097_b800_0000_0000 0x4032_0000_0000_0000
    × Seam 1500 true 1536 false 0 1 0x3ff8_0000_0000_0000 0x3fe0_0000_0000_0000
    × Seam 1500 false 1536 true 0 2 0x3ff8_0000_0000_0000 0x3fe0_0000_0000_0000
    × Seam 1500 true 1536 true 0 3 0x3ff8_0000_0000_0000 0x3fe0_0000_0000_0000
    × Seam 2199023255552 false 1536 false 31 7 0x3ff8_0000_0000_0000 0x3fe0_0000_0000_0000

-- §17.1 polzaintu_widest_gap: the number, and B
unfoldable pub Widest : (row : List ℕ) → (number gap : ℕ) → Type 0
Widest ts n b = (number_in (gap_of wall_settings ts) ≡ n) × (gap_left (gap_of wall_settings ts) 7 ≡ b)

-- §17.1 a row, and 21
unfoldable pub WidestCases : Type 0
WidestCases =
    Widest (1000 ∷ 1000 ∷ 1000 ∷ 1080 ∷ 1000 ∷ 1000 ∷ []) 0 80
    × Widest (1000 ∷ 1000 ∷ 1000 ∷ 1080 ∷ 1000 ∷ []) 21 7

-- §17.1 polzaintu_reach: the number, and ticks, first, last
unfoldable pub Range : (gap rows column number : ℕ) → (range : List ℕ) → Type 0
Range b n k number r =
    (reach_number (reach_of wall_settings b n k) ≡ number)
    × (reach_left (reach_of wall_settings b n k) (7 ∷ 8 ∷ 9 ∷ []) ≡ r)

-- §17.1 a later row; one past the wall and a column past it, which are unfit
unfoldable pub RangeCases : Type 0
RangeCases =
    Range 80 1 3 0 (256 ∷ 2 ∷ 5 ∷ [])
    × Range 80 2 3 4294967295 (7 ∷ 8 ∷ 9 ∷ [])
    × Range 80 1 6 4294967295 (7 ∷ 8 ∷ 9 ∷ [])

-- §17.1 polzaintu_reach_in_row: the same, by the row and the later row
unfoldable pub RangeInRow : (gap row later column number : ℕ) → (range : List ℕ) → Type 0
RangeInRow b f l k number r =
    (reach_number (reach_in_row wall_settings b f l k) ≡ number)
    × (reach_left (reach_in_row wall_settings b f l k) (7 ∷ 8 ∷ 9 ∷ []) ≡ r)

-- §17.1 a later row, and one that is none
unfoldable pub RangeInRowCases : Type 0
RangeInRowCases =
    RangeInRow 80 0 1 3 0 (256 ∷ 2 ∷ 5 ∷ []) × RangeInRow 80 1 1 3 4294967295 (7 ∷ 8 ∷ 9 ∷ [])

-- §17.1 polzaintu_survey_row: the number, and the row that is due, B and the largest reach
unfoldable pub Survey : (row survey : List ℕ) → (number : ℕ) → (survey_after : List ℕ) → Type 0
Survey ts held n after =
    let a = surveyed_of wall_settings (get_or held 0 0) (get_or held 2 0) ts in
    (survey_number a ≡ n) × (survey_left a held ≡ after)

-- §17.1 row 0; no row is left then; a row of five
unfoldable pub SurveyCases : Type 0
SurveyCases =
    Survey row_0 (0 ∷ 0 ∷ 0 ∷ []) 0 (1 ∷ 80 ∷ 256 ∷ [])
    × Survey row_0 (1 ∷ 80 ∷ 256 ∷ []) 4294967295 (1 ∷ 80 ∷ 256 ∷ [])
    × Survey (replicate 5 0) (0 ∷ 0 ∷ 0 ∷ []) 21 (0 ∷ 0 ∷ 0 ∷ [])

-- §17.4 polzaintu_seam_columns: the number, and left and right
unfoldable pub SeamColumns : (seam number : ℕ) → (columns : List ℕ) → Type 0
SeamColumns i n cs =
    (columns_number (columns_of wall_settings i) ≡ n) × (columns_left (columns_of wall_settings i) (7 ∷ 8 ∷ []) ≡ cs)

-- §17.4 three of seven seams, and no eighth
unfoldable pub SeamColumnsCases : Type 0
SeamColumnsCases =
    SeamColumns 1 0 (0 ∷ 2 ∷ []) × SeamColumns 6 0 (4 ∷ 5 ∷ []) × SeamColumns 7 4294967295 (7 ∷ 8 ∷ [])

-- §17.4 polzaintu_row_seam: the number, the columns, the side, and the bits of midpoint and half gap
unfoldable pub RowSeam : (times marks : List ℕ) → (seam number : ℕ) → (columns : List ℕ) → (side midpoint half_gap : ℕ) → Type 0
RowSeam ts ms i n cs s m g =
    let a = seam_at wall_settings ts ms i in
    (row_seam_number a ≡ n)
    × (row_seam_columns a (7 ∷ 8 ∷ []) ≡ cs)
    × (row_seam_side a 9 ≡ s)
    × (map (to_bits binary64) (row_seam_halves a held_halves) ≡ m ∷ g ∷ [])

-- §14.4 row 1, with another time in column 3
unfoldable pub row_1 : (third : ℕ) → List ℕ
row_1 t = 1500 ∷ 1500 ∷ 1500 ∷ t ∷ 1500 ∷ 1500 ∷ []

-- §17.4 closed; column 3 faulty; no such seam; two bytes of marks; a time of 2^41, which leaves the columns too
unfoldable pub RowSeamCases : Type 0
RowSeamCases =
    RowSeam (row_1 1536) (0 ∷ []) 3 0 (2 ∷ 3 ∷ []) 0 0x4097_b800_0000_0000 0x4032_0000_0000_0000
    × RowSeam (row_1 1536) (8 ∷ []) 3 0 (2 ∷ 3 ∷ []) 2 0x3ff8_0000_0000_0000 0x3fe0_0000_0000_0000
    × RowSeam (row_1 1536) (0 ∷ []) 7 4294967295 (7 ∷ 8 ∷ []) 9 0x3ff8_0000_0000_0000 0x3fe0_0000_0000_0000
    × RowSeam (row_1 1536) (0 ∷ 0 ∷ []) 3 21 (7 ∷ 8 ∷ []) 9 0x3ff8_0000_0000_0000 0x3fe0_0000_0000_0000
    × RowSeam (row_1 2199023255552) (0 ∷ []) 3 31 (7 ∷ 8 ∷ []) 9 0x3ff8_0000_0000_0000 0x3fe0_0000_0000_0000

-- §17.4 polzaintu_mark: the number, and whether the column is marked; byte 8 marks column 3
unfoldable pub Marked : (column : ℕ) (held : Bool) (number : ℕ) (faulty : Bool) → Type 0
Marked c held n f =
    (mark_number (mark_of wall_settings (8 ∷ []) c) ≡ n) × (mark_left (mark_of wall_settings (8 ∷ []) c) held ≡ f)

-- §17.4 a column that is marked, one that is not, and none
unfoldable pub MarkCases : Type 0
MarkCases = Marked 3 false 0 true × Marked 2 true 0 false × Marked 6 true 4294967295 true

-- §17.4 polzaintu_link_place: the number, and the place
unfoldable pub LinkAt : (tile sender number place : ℕ) → Type 0
LinkAt c k n at = (link_number (link_of wall_settings c k) ≡ n) × (link_left (link_of wall_settings c k) 7 ≡ at)

-- §17.4 a link, and none
unfoldable pub LinkCases : Type 0
LinkCases = LinkAt 2 3 0 9 × LinkAt 5 5 0 19 × LinkAt 2 4 4294967295 7

-- §E7.6 polzaintu_first_wide of a row without marks: the number, whether there is a wide seam, and its columns and half gap
unfoldable pub FirstWide : (times : List ℕ) → (limit : ℕ) (held : Bool) → (number : ℕ) (found : Bool) → (wide : List ℕ) → Type 0
FirstWide ts limit held n f w =
    let x = first_wide wall_settings ts (0 ∷ []) limit in
    (number_in x ≡ n) × (wide_found x held ≡ f) × (wide_left x (7 ∷ 8 ∷ 9 ∷ []) ≡ w)

-- §E7.6 a wide seam, none, 31 and 21; where there is none its columns are as they were, and a refusal leaves both
unfoldable pub FirstWideCases : Type 0
FirstWideCases =
    FirstWide (1500 ∷ 1500 ∷ 1500 ∷ 1536 ∷ 1500 ∷ 1500 ∷ []) 35 false 0 true (2 ∷ 3 ∷ 36 ∷ [])
    × FirstWide (1500 ∷ 1500 ∷ 1500 ∷ 1536 ∷ 1500 ∷ 1500 ∷ []) 36 true 0 false (7 ∷ 8 ∷ 9 ∷ [])
    × FirstWide (0 ∷ 2199023255552 ∷ 0 ∷ 0 ∷ 0 ∷ 0 ∷ []) 0 true 31 true (7 ∷ 8 ∷ 9 ∷ [])
    × FirstWide [] 0 false 21 false (7 ∷ 8 ∷ 9 ∷ [])
