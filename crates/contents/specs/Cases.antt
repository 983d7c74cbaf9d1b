-- What the bodies of fields hold at literal bytes, and how long fields are. Assumes nothing.
use Rattle.std.specs.Prelude.{◌≡◌, true, false, List, [], ◌∷◌, ◌++◌, ℕ, ◌+◌, ◌-◌, ◌*◌, ◌/◌, ◌^◌}
use Rattle.columns.specs.Columns.{table_from}
use Rattle.contents.specs.Contents.{settings_size, settings_in, start_size, times_in, latest_start, late_start, tiles_size, drifts_in, phases_in, links_in, marks_field, row_size, marks_in, tiles_in}

-- §9.2 W and R in two bytes each, then d, u, A, r and h in four
unfoldable pub body_1 : List ℕ
body_1 =
    (0 ∷ 6 ∷ 4 ∷ 0 ∷ [])
    ++ (0 ∷ 0 ∷ 0 ∷ 100 ∷ 0 ∷ 0 ∷ 0 ∷ 10 ∷ 0 ∷ 0 ∷ 1 ∷ 144 ∷ 0 ∷ 0 ∷ 39 ∷ 16 ∷ 0 ∷ 0 ∷ 0 ∷ 16 ∷ [])

-- §9.2 the settings that it holds
unfoldable pub SettingsRead : Type 0
SettingsRead =
    settings_in body_1 ≡ record { width = 6; rows = 1024; delay = 100; uncertainty = 10; hold = 400; drift = 10000; unit = 16 }

-- §9.3 times of 8 bytes each
unfoldable pub StartRead : Type 0
StartRead = times_in 2 (0 ∷ 0 ∷ 0 ∷ 0 ∷ 0 ∷ 0 ∷ 3 ∷ 232 ∷ 0 ∷ 0 ∷ 0 ∷ 128 ∷ 0 ∷ 0 ∷ 0 ∷ 0 ∷ []) ≡ 1000 ∷ 549755813888 ∷ []

-- §9.6 the latest time of row 0, and times up to it and past it
unfoldable pub StartLimit : Type 0
StartLimit =
    let times : List ℕ = 0 ∷ (2 ^ 39 - 1) ∷ (2 ^ 39) ∷ [] in
    (latest_start ≡ 2 ^ 39 - 1) × (late_start times 0 ≡ false) × (late_start times 1 ≡ false) × (late_start times 2 ≡ true)

-- §E4.4 tile after tile, its drift in two bytes, its phase in four and its links in eight each, from left to right, of W 6 where byte k of the body
-- is k: tiles 2 and 3 have four senders
unfoldable pub body_4 : List ℕ
body_4 = table_from 196 0 (λ k. k)

-- §E4.4 the drifts, phases and link values that it holds
unfoldable pub TilesRead : Type 0
TilesRead =
    (drifts_in 6 body_4 ≡ 0x0001 ∷ 0x1e1f ∷ 0x3c3d ∷ 0x6263 ∷ 0x8889 ∷ 0xa6a7 ∷ [])
    × (phases_in 6 body_4 ≡ 0x02030405 ∷ 0x20212223 ∷ 0x3e3f4041 ∷ 0x64656667 ∷ 0x8a8b8c8d ∷ 0xa8a9aaab ∷ [])
    × (links_in 6 body_4
    ≡ 0x060708090a0b0c0d ∷ 0x0e0f101112131415 ∷ 0x161718191a1b1c1d
    ∷ 0x2425262728292a2b ∷ 0x2c2d2e2f30313233 ∷ 0x3435363738393a3b
    ∷ 0x4243444546474849 ∷ 0x4a4b4c4d4e4f5051 ∷ 0x5253545556575859 ∷ 0x5a5b5c5d5e5f6061
    ∷ 0x68696a6b6c6d6e6f ∷ 0x7071727374757677 ∷ 0x78797a7b7c7d7e7f ∷ 0x8081828384858687
    ∷ 0x8e8f909192939495 ∷ 0x969798999a9b9c9d ∷ 0x9e9fa0a1a2a3a4a5
    ∷ 0xacadaeafb0b1b2b3 ∷ 0xb4b5b6b7b8b9babb ∷ 0xbcbdbebfc0c1c2c3
    ∷ [])

-- §9.4 tag 3 and then tag 4
unfoldable pub row_fields : List ℕ
row_fields = (3 ∷ 0 ∷ 1 ∷ 4 ∷ []) ++ (4 ∷ 0 ∷ 196 ∷ []) ++ body_4

-- §9.4 the marks in the one, and the body of the other
unfoldable pub RowRead : Type 0
RowRead = (marks_in 6 row_fields ≡ 4 ∷ []) × (tiles_in 6 row_fields ≡ body_4)

-- §E4.4 the lengths of bodies, of tag 3's field and of both fields of a row
unfoldable pub SizesMet : Type 0
SizesMet =
    (settings_size ≡ 24) × (start_size 6 ≡ 48) × (tiles_size 6 ≡ 196) × (tiles_size 256 ≡ 7696) × (marks_field 6 ≡ 4) × (marks_field 8 ≡ 4)
    × (marks_field 9 ≡ 5) × (marks_field 256 ≡ 35) × (row_size 6 ≡ 203) × (row_size 256 ≡ 7734)

-- §E4.4 the same lengths of any W
unfoldable pub SizesPlain : Type 0
SizesPlain =
    (w : ℕ) → (start_size w ≡ 8 * w) × (tiles_size w ≡ 30 * w + 16) × (marks_field w ≡ 3 + (w + 7) / 8) × (row_size w ≡ 22 + (w + 7) / 8 + 30 * w)
