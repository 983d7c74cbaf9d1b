-- What the fields of a wall file hold. Assumes nothing.
use Rattle.std.specs.Prelude.{Bool, List, [], ◌++◌, ℕ, zero, suc, ◌+◌, ◌*◌, ltb, length, get_or, drop}
use Rattle.settings.specs.Settings.{settings}
use Rattle.settings.specs.declared.Settings.{Settings}
use Rattle.columns.specs.Columns.{predecessors, links_before, table_from}
use Rattle.admission.specs.Call.{Call, call}
use Rattle.columns.specs.Marks.{mark_bytes}
use Rattle.fields.specs.Bytes.{big_endian}
use Rattle.fields.specs.Field.{body}

-- §9.2 the bytes of tag 1's body
abbrev pub settings_size : ℕ
settings_size = 24

-- §9.2 the settings that stand in it
unfoldable pub settings_in : (body : List ℕ) → Settings
settings_in bs =
    settings (big_endian 2 bs 0) (big_endian 2 bs 2) (big_endian 4 bs 4) (big_endian 4 bs 8) (big_endian 4 bs 12) (big_endian 4 bs 16) (big_endian 4 bs 20)

-- §9.3 the bytes of tag 2's body
abbrev pub start_size : (w : ℕ) → ℕ
start_size w = 8 * w

-- §9.3 the times that stand in it
unfoldable pub times_in : (w : ℕ) → (body : List ℕ) → List ℕ
times_in w bs = table_from w 0 (λ c. big_endian 8 bs (8 * c))

-- §9.6 the latest time of row 0, 2^39 - 1
abbrev pub latest_start : ℕ
latest_start = 549755813887

-- §9.6 the condition of 45 in one column
unfoldable pub late_start : (times : List ℕ) → (c : ℕ) → Bool
late_start ts c = ltb latest_start (get_or ts c 0)

-- §E4.4 the bytes of tag 4's body
abbrev pub tiles_size : (w : ℕ) → ℕ
tiles_size w = 30 * w + 16

-- §9.5 where a tile's drift stands
unfoldable pub tile_place : (w c : ℕ) → ℕ
tile_place w c = 6 * c + 8 * links_before w c

-- §9.5 the drifts of all tiles
unfoldable pub drifts_in : (w : ℕ) → (body : List ℕ) → List ℕ
drifts_in w bs = table_from w 0 (λ c. big_endian 2 bs (tile_place w c))

-- §E4.4 the phases of all tiles, each after its drift
unfoldable pub phases_in : (w : ℕ) → (body : List ℕ) → List ℕ
phases_in w bs = table_from w 0 (λ c. big_endian 4 bs (tile_place w c + 2))

-- §9.5 the link values of one tile, which follow its phase (§E4.4)
unfoldable pub tile_links : (w : ℕ) → (body : List ℕ) → (c : ℕ) → List ℕ
tile_links w bs c = table_from (length (predecessors w c)) 0 (λ j. big_endian 8 bs (tile_place w c + 6 + 8 * j))

-- §9.5 the link values of the tiles below a column
unfoldable pub links_below : (w : ℕ) → (body : List ℕ) → (c : ℕ) → List ℕ
links_below w bs zero = []
links_below w bs (suc c) = links_below w bs c ++ tile_links w bs c

-- §9.5 the link values of all tiles
unfoldable pub links_in : (w : ℕ) → (body : List ℕ) → List ℕ
links_in w bs = links_below w bs w

-- §9.4 the bytes of tag 3's field, after which tag 4's begins
unfoldable pub marks_field : (w : ℕ) → ℕ
marks_field w = 3 + mark_bytes w

-- §9.5 the bytes of both fields of a row
unfoldable pub row_size : (w : ℕ) → ℕ
row_size w = marks_field w + (3 + tiles_size w)

-- §9.4 the marks, in the file from tag 3 on
unfoldable pub marks_in : (w : ℕ) → (rest : List ℕ) → List ℕ
marks_in w bs = body (mark_bytes w) bs

-- §9.5 the body of tag 4, in the file from tag 3 on
unfoldable pub tiles_in : (w : ℕ) → (rest : List ℕ) → List ℕ
tiles_in w bs = body (tiles_size w) (drop (marks_field w) bs)

-- §9.7 the row call that both fields describe, judged as one
unfoldable pub call_in : (w : ℕ) → (rest : List ℕ) → Call
call_in w bs = call (marks_in w bs) (drifts_in w (tiles_in w bs)) (phases_in w (tiles_in w bs)) (links_in w (tiles_in w bs)) w w
