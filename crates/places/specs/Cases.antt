-- Places at numbers, of a wall with W 6. Each statement is proved in proofs/Cases.antt, under its name in small letters.
-- Assumes nothing.
use Rattle.std.specs.Prelude.{◌≡◌, true, false, List, [], ◌∷◌, map, ℕ, Some, None, Ok, Err}
use Rattle.settings.specs.Settings.{settings}
use Rattle.settings.specs.declared.Settings.{Settings}
use Rattle.seam.specs.declared.Side.TheVariants.{Left}
use Rattle.seam.specs.declared.Seam.TheVariants.{Open}
use Rattle.settings.specs.declared.refusal.Refusal.TheVariants.{Width, Lengths, LateSide}
use Rattle.places.specs.Seams.{columns, columns_of, row_seam, seam_at}
use Rattle.places.specs.Marks.{mark_of}
use Rattle.places.specs.Links.{link_of}

-- §14.4 the settings
unfoldable pub wall : Settings
wall = settings 6 1 100 10 400 0 12

-- §2.5 settings that are turned away with 1
unfoldable pub narrow : Settings
narrow = settings 5 1 100 10 400 0 12

-- §17.4 the seven seams of six tiles, and no eighth
unfoldable pub ColumnsCases : Type 0
ColumnsCases =
    map (columns_of wall) (0 ∷ 1 ∷ 2 ∷ 3 ∷ 4 ∷ 5 ∷ 6 ∷ 7 ∷ [])
    ≡ Ok (Some (columns 0 1)) ∷ Ok (Some (columns 0 2)) ∷ Ok (Some (columns 1 2)) ∷ Ok (Some (columns 2 3)) ∷ Ok (Some (columns 3 4)) ∷ Ok (Some (columns 3 5)) ∷ Ok (Some (columns 4 5)) ∷ Ok None ∷ []

-- §17.4 the settings' number
unfoldable pub ColumnsRefused : Type 0
ColumnsRefused = columns_of narrow 0 ≡ Err Width

-- §17.4 a row with a time of 2^41
unfoldable pub times : List ℕ
times = 1500 ∷ 1500 ∷ 1500 ∷ 1536 ∷ 1500 ∷ 2199023255552 ∷ []

-- §17.4 column 3 faulty; a time of 2^41; an eighth seam; 21 for seven times and for two bytes of marks; the settings' number first
unfoldable pub SeamCases : Type 0
SeamCases =
    (seam_at wall times (8 ∷ []) 4 ≡ Ok (Some (row_seam 3 4 (Ok (Open Left)))))
    × (seam_at wall times (8 ∷ []) 6 ≡ Ok (Some (row_seam 4 5 (Err LateSide))))
    × (seam_at wall times (8 ∷ []) 7 ≡ Ok None)
    × (seam_at wall (0 ∷ times) (8 ∷ []) 7 ≡ Err Lengths)
    × (seam_at wall times (8 ∷ 0 ∷ []) 7 ≡ Err Lengths)
    × (seam_at narrow [] [] 9 ≡ Err Width)

-- §17.4 byte 8 marks column 3 alone; no column 6; 21; the settings' number
unfoldable pub MarkCases : Type 0
MarkCases =
    (map (mark_of wall (8 ∷ [])) (2 ∷ 3 ∷ 5 ∷ 6 ∷ []) ≡ Ok (Some false) ∷ Ok (Some true) ∷ Ok (Some false) ∷ Ok None ∷ [])
    × (mark_of wall [] 6 ≡ Err Lengths)
    × (mark_of wall (8 ∷ 0 ∷ []) 6 ≡ Err Lengths)
    × (mark_of narrow [] 6 ≡ Err Width)

-- §17.4 tile 0 hears 0, 1 and 2, tile 2 also 3, tile 5 hears 3, 4 and 5; 20 links in all; no tile 6; the settings' number
unfoldable pub LinkCases : Type 0
LinkCases =
    (map (link_of wall 0) (0 ∷ 1 ∷ 2 ∷ 3 ∷ []) ≡ Ok (Some 0) ∷ Ok (Some 1) ∷ Ok (Some 2) ∷ Ok None ∷ [])
    × (map (link_of wall 2) (0 ∷ 3 ∷ 4 ∷ []) ≡ Ok (Some 6) ∷ Ok (Some 9) ∷ Ok None ∷ [])
    × (map (link_of wall 5) (2 ∷ 3 ∷ 5 ∷ 6 ∷ []) ≡ Ok None ∷ Ok (Some 17) ∷ Ok (Some 19) ∷ Ok None ∷ [])
    × (link_of wall 6 5 ≡ Ok None)
    × (link_of narrow 0 0 ≡ Err Width)
