-- Whole wall files, byte by byte, and what is printed of them, line by line: the wall of the requirements, and one with a silent faulty tile,
-- drifts and phases. Assumes nothing.
use Rattle.std.specs.Prelude.{◌≡◌, List, [], ◌∷◌, ◌++◌, ℕ, ◌+◌, length, take, drop}
use Prim.Native.Char.{code}
use Prim.Native.String as string
use Prim.Native.String.{String}
use Rattle.file.specs.File.{wall_text}

-- §10.2 the characters of a text as numbers
unfoldable pub codes : String → List ℕ
codes string.[] = []
codes (string.◌∷◌ c s) = code c ∷ codes s

-- §10.2 those of lines that each end with a line feed
unfoldable pub printed : List String → List ℕ
printed [] = []
printed (s ∷ ss) = codes s ++ (10 ∷ printed ss)

-- §9.1 a file with other bytes from a place on
unfoldable pub put : (at : ℕ) → (bytes file : List ℕ) → List ℕ
put at bs file = take at file ++ bs ++ drop (at + length bs) file

-- §14.4 the file of this wall
unfoldable pub printed_file : List ℕ
printed_file =
    -- tag 1: W 6, R 1; d 100, u 10, A 400, r 0, h 12
    (1 ∷ 0 ∷ 24 ∷ [])
    ++ (0 ∷ 6 ∷ 0 ∷ 1 ∷ [])
    ++ (0 ∷ 0 ∷ 0 ∷ 100 ∷ 0 ∷ 0 ∷ 0 ∷ 10 ∷ 0 ∷ 0 ∷ 1 ∷ 144 ∷ 0 ∷ 0 ∷ 0 ∷ 0 ∷ 0 ∷ 0 ∷ 0 ∷ 12 ∷ [])
    -- tag 2: row 0
    ++ (2 ∷ 0 ∷ 48 ∷ [])
    ++ (0 ∷ 0 ∷ 0 ∷ 0 ∷ 0 ∷ 0 ∷ 3 ∷ 232 ∷ 0 ∷ 0 ∷ 0 ∷ 0 ∷ 0 ∷ 0 ∷ 3 ∷ 232 ∷ 0 ∷ 0 ∷ 0 ∷ 0 ∷ 0 ∷ 0 ∷ 3 ∷ 232 ∷ [])
    ++ (0 ∷ 0 ∷ 0 ∷ 0 ∷ 0 ∷ 0 ∷ 4 ∷ 56 ∷ 0 ∷ 0 ∷ 0 ∷ 0 ∷ 0 ∷ 0 ∷ 3 ∷ 232 ∷ 0 ∷ 0 ∷ 0 ∷ 0 ∷ 0 ∷ 0 ∷ 3 ∷ 232 ∷ [])
    -- tag 3: no marks
    ++ (3 ∷ 0 ∷ 1 ∷ 0 ∷ [])
    -- tag 4: a tile a line, drift 0, phase 0 and links 100
    ++ (4 ∷ 0 ∷ 196 ∷ [])
    ++ (0 ∷ 0 ∷ 0 ∷ 0 ∷ 0 ∷ 0 ∷ 0 ∷ 0 ∷ 0 ∷ 0 ∷ 0 ∷ 0 ∷ 0 ∷ 100 ∷ 0 ∷ 0 ∷ 0 ∷ 0 ∷ 0 ∷ 0 ∷ 0 ∷ 100 ∷ 0 ∷ 0 ∷ 0 ∷ 0 ∷ 0 ∷ 0 ∷ 0 ∷ 100 ∷ [])
    ++ (0 ∷ 0 ∷ 0 ∷ 0 ∷ 0 ∷ 0 ∷ 0 ∷ 0 ∷ 0 ∷ 0 ∷ 0 ∷ 0 ∷ 0 ∷ 100 ∷ 0 ∷ 0 ∷ 0 ∷ 0 ∷ 0 ∷ 0 ∷ 0 ∷ 100 ∷ 0 ∷ 0 ∷ 0 ∷ 0 ∷ 0 ∷ 0 ∷ 0 ∷ 100 ∷ [])
    ++ (0 ∷ 0 ∷ 0 ∷ 0 ∷ 0 ∷ 0 ∷ 0 ∷ 0 ∷ 0 ∷ 0 ∷ 0 ∷ 0 ∷ 0 ∷ 100 ∷ 0 ∷ 0 ∷ 0 ∷ 0 ∷ 0 ∷ 0 ∷ 0 ∷ 100 ∷ 0 ∷ 0 ∷ 0 ∷ 0 ∷ 0 ∷ 0 ∷ 0 ∷ 100 ∷ 0 ∷ 0 ∷ 0 ∷ 0 ∷ 0 ∷ 0 ∷ 0 ∷ 100 ∷ [])
    ++ (0 ∷ 0 ∷ 0 ∷ 0 ∷ 0 ∷ 0 ∷ 0 ∷ 0 ∷ 0 ∷ 0 ∷ 0 ∷ 0 ∷ 0 ∷ 100 ∷ 0 ∷ 0 ∷ 0 ∷ 0 ∷ 0 ∷ 0 ∷ 0 ∷ 100 ∷ 0 ∷ 0 ∷ 0 ∷ 0 ∷ 0 ∷ 0 ∷ 0 ∷ 100 ∷ 0 ∷ 0 ∷ 0 ∷ 0 ∷ 0 ∷ 0 ∷ 0 ∷ 100 ∷ [])
    ++ (0 ∷ 0 ∷ 0 ∷ 0 ∷ 0 ∷ 0 ∷ 0 ∷ 0 ∷ 0 ∷ 0 ∷ 0 ∷ 0 ∷ 0 ∷ 100 ∷ 0 ∷ 0 ∷ 0 ∷ 0 ∷ 0 ∷ 0 ∷ 0 ∷ 100 ∷ 0 ∷ 0 ∷ 0 ∷ 0 ∷ 0 ∷ 0 ∷ 0 ∷ 100 ∷ [])
    ++ (0 ∷ 0 ∷ 0 ∷ 0 ∷ 0 ∷ 0 ∷ 0 ∷ 0 ∷ 0 ∷ 0 ∷ 0 ∷ 0 ∷ 0 ∷ 100 ∷ 0 ∷ 0 ∷ 0 ∷ 0 ∷ 0 ∷ 0 ∷ 0 ∷ 100 ∷ 0 ∷ 0 ∷ 0 ∷ 0 ∷ 0 ∷ 0 ∷ 0 ∷ 100 ∷ [])

-- §14.4 what is printed of it
unfoldable pub PrintedWhole : Type 0
PrintedWhole =
    wall_text printed_file
    ≡ printed
    ("t 1 0 1500 k"
    ∷ "t 1 1 1500 k"
    ∷ "t 1 2 1500 k"
    ∷ "t 1 3 1536 l"
    ∷ "t 1 4 1500 k"
    ∷ "t 1 5 1500 k"
    ∷ "s 1 0 1 4097700000000000 0000000000000000"
    ∷ "s 1 0 2 4097700000000000 0000000000000000"
    ∷ "s 1 1 2 4097700000000000 0000000000000000"
    ∷ "s 1 2 3 4097b80000000000 4032000000000000"
    ∷ "s 1 3 4 4097b80000000000 c032000000000000"
    ∷ "s 1 3 5 4097b80000000000 c032000000000000"
    ∷ "s 1 4 5 4097700000000000 0000000000000000"
    ∷ [])

-- §9.6 with a byte more its last row is not shown
unfoldable pub ByteMore : Type 0
ByteMore = wall_text (printed_file ++ (0 ∷ [])) ≡ printed ("refused 44 at 281" ∷ [])

-- §1.4 a wall of two rows whose clocks drift and have phases (§E4.1), with a faulty tile in row 1
unfoldable pub faulty_file : List ℕ
faulty_file =
    -- tag 1: W 6, R 2; d 100, u 10, A 400, r 10000, h 16
    (1 ∷ 0 ∷ 24 ∷ [])
    ++ (0 ∷ 6 ∷ 0 ∷ 2 ∷ [])
    ++ (0 ∷ 0 ∷ 0 ∷ 100 ∷ 0 ∷ 0 ∷ 0 ∷ 10 ∷ 0 ∷ 0 ∷ 1 ∷ 144 ∷ 0 ∷ 0 ∷ 39 ∷ 16 ∷ 0 ∷ 0 ∷ 0 ∷ 16 ∷ [])
    -- tag 2: row 0 is 1000, 1010, 1020, 1080, 990, 1000
    ++ (2 ∷ 0 ∷ 48 ∷ [])
    ++ (0 ∷ 0 ∷ 0 ∷ 0 ∷ 0 ∷ 0 ∷ 3 ∷ 232 ∷ 0 ∷ 0 ∷ 0 ∷ 0 ∷ 0 ∷ 0 ∷ 3 ∷ 242 ∷ 0 ∷ 0 ∷ 0 ∷ 0 ∷ 0 ∷ 0 ∷ 3 ∷ 252 ∷ [])
    ++ (0 ∷ 0 ∷ 0 ∷ 0 ∷ 0 ∷ 0 ∷ 4 ∷ 56 ∷ 0 ∷ 0 ∷ 0 ∷ 0 ∷ 0 ∷ 0 ∷ 3 ∷ 222 ∷ 0 ∷ 0 ∷ 0 ∷ 0 ∷ 0 ∷ 0 ∷ 3 ∷ 232 ∷ [])
    -- tag 3: no marks in row 0
    ++ (3 ∷ 0 ∷ 1 ∷ 0 ∷ [])
    -- tag 4: row 1, a tile a line; drifts 0, 10000, 5000, 1, 2500, 9999; phases 0, 400000, 500000, 0, 100000, 50000
    ++ (4 ∷ 0 ∷ 196 ∷ [])
    ++ (0 ∷ 0 ∷ 0 ∷ 0 ∷ 0 ∷ 0 ∷ 0 ∷ 0 ∷ 0 ∷ 0 ∷ 0 ∷ 0 ∷ 0 ∷ 90 ∷ 0 ∷ 0 ∷ 0 ∷ 0 ∷ 0 ∷ 0 ∷ 0 ∷ 97 ∷ 0 ∷ 0 ∷ 0 ∷ 0 ∷ 0 ∷ 0 ∷ 0 ∷ 93 ∷ [])
    ++ (39 ∷ 16 ∷ 0 ∷ 6 ∷ 26 ∷ 128 ∷ 0 ∷ 0 ∷ 0 ∷ 0 ∷ 0 ∷ 0 ∷ 0 ∷ 93 ∷ 0 ∷ 0 ∷ 0 ∷ 0 ∷ 0 ∷ 0 ∷ 0 ∷ 100 ∷ 0 ∷ 0 ∷ 0 ∷ 0 ∷ 0 ∷ 0 ∷ 0 ∷ 96 ∷ [])
    ++ (19 ∷ 136 ∷ 0 ∷ 7 ∷ 161 ∷ 32 ∷ 0 ∷ 0 ∷ 0 ∷ 0 ∷ 0 ∷ 0 ∷ 0 ∷ 96 ∷ 0 ∷ 0 ∷ 0 ∷ 0 ∷ 0 ∷ 0 ∷ 0 ∷ 92 ∷ 0 ∷ 0 ∷ 0 ∷ 0 ∷ 0 ∷ 0 ∷ 0 ∷ 99 ∷ 0 ∷ 0 ∷ 0 ∷ 0 ∷ 0 ∷ 0 ∷ 0 ∷ 95 ∷ [])
    ++ (0 ∷ 1 ∷ 0 ∷ 0 ∷ 0 ∷ 0 ∷ 0 ∷ 0 ∷ 0 ∷ 0 ∷ 0 ∷ 0 ∷ 0 ∷ 91 ∷ 0 ∷ 0 ∷ 0 ∷ 0 ∷ 0 ∷ 0 ∷ 0 ∷ 98 ∷ 0 ∷ 0 ∷ 0 ∷ 0 ∷ 0 ∷ 0 ∷ 0 ∷ 94 ∷ 0 ∷ 0 ∷ 0 ∷ 0 ∷ 0 ∷ 0 ∷ 0 ∷ 90 ∷ [])
    ++ (9 ∷ 196 ∷ 0 ∷ 1 ∷ 134 ∷ 160 ∷ 0 ∷ 0 ∷ 0 ∷ 0 ∷ 0 ∷ 0 ∷ 0 ∷ 90 ∷ 0 ∷ 0 ∷ 0 ∷ 0 ∷ 0 ∷ 0 ∷ 0 ∷ 97 ∷ 0 ∷ 0 ∷ 0 ∷ 0 ∷ 0 ∷ 0 ∷ 0 ∷ 93 ∷ [])
    ++ (39 ∷ 15 ∷ 0 ∷ 0 ∷ 195 ∷ 80 ∷ 0 ∷ 0 ∷ 0 ∷ 0 ∷ 0 ∷ 0 ∷ 0 ∷ 93 ∷ 0 ∷ 0 ∷ 0 ∷ 0 ∷ 0 ∷ 0 ∷ 0 ∷ 100 ∷ 0 ∷ 0 ∷ 0 ∷ 0 ∷ 0 ∷ 0 ∷ 0 ∷ 96 ∷ [])
    -- tag 3: column 2 of row 1 is marked
    ++ (3 ∷ 0 ∷ 1 ∷ 4 ∷ [])
    -- tag 4: row 2; drifts 10000, 0, 1, 10000, 1234, 5000; phases 200000, 0, 0, 600000, 0, 850000; column 2 is silent to tiles 0, 1 and 2, and
    -- arrives at tile 3 at 1640
    ++ (4 ∷ 0 ∷ 196 ∷ [])
    ++ (39 ∷ 16 ∷ 0 ∷ 3 ∷ 13 ∷ 64 ∷ 0 ∷ 0 ∷ 0 ∷ 0 ∷ 0 ∷ 0 ∷ 0 ∷ 90 ∷ 0 ∷ 0 ∷ 0 ∷ 0 ∷ 0 ∷ 0 ∷ 0 ∷ 92 ∷ 255 ∷ 255 ∷ 255 ∷ 255 ∷ 255 ∷ 255 ∷ 255 ∷ 255 ∷ [])
    ++ (0 ∷ 0 ∷ 0 ∷ 0 ∷ 0 ∷ 0 ∷ 0 ∷ 0 ∷ 0 ∷ 0 ∷ 0 ∷ 0 ∷ 0 ∷ 95 ∷ 0 ∷ 0 ∷ 0 ∷ 0 ∷ 0 ∷ 0 ∷ 0 ∷ 97 ∷ 255 ∷ 255 ∷ 255 ∷ 255 ∷ 255 ∷ 255 ∷ 255 ∷ 255 ∷ [])
    ++ (0 ∷ 1 ∷ 0 ∷ 0 ∷ 0 ∷ 0 ∷ 0 ∷ 0 ∷ 0 ∷ 0 ∷ 0 ∷ 0 ∷ 0 ∷ 100 ∷ 0 ∷ 0 ∷ 0 ∷ 0 ∷ 0 ∷ 0 ∷ 0 ∷ 91 ∷ 255 ∷ 255 ∷ 255 ∷ 255 ∷ 255 ∷ 255 ∷ 255 ∷ 255 ∷ 0 ∷ 0 ∷ 0 ∷ 0 ∷ 0 ∷ 0 ∷ 0 ∷ 95 ∷ [])
    ++ (39 ∷ 16 ∷ 0 ∷ 9 ∷ 39 ∷ 192 ∷ 0 ∷ 0 ∷ 0 ∷ 0 ∷ 0 ∷ 0 ∷ 6 ∷ 104 ∷ 0 ∷ 0 ∷ 0 ∷ 0 ∷ 0 ∷ 0 ∷ 0 ∷ 100 ∷ 0 ∷ 0 ∷ 0 ∷ 0 ∷ 0 ∷ 0 ∷ 0 ∷ 91 ∷ 0 ∷ 0 ∷ 0 ∷ 0 ∷ 0 ∷ 0 ∷ 0 ∷ 93 ∷ [])
    ++ (4 ∷ 210 ∷ 0 ∷ 0 ∷ 0 ∷ 0 ∷ 0 ∷ 0 ∷ 0 ∷ 0 ∷ 0 ∷ 0 ∷ 0 ∷ 94 ∷ 0 ∷ 0 ∷ 0 ∷ 0 ∷ 0 ∷ 0 ∷ 0 ∷ 96 ∷ 0 ∷ 0 ∷ 0 ∷ 0 ∷ 0 ∷ 0 ∷ 0 ∷ 98 ∷ [])
    ++ (19 ∷ 136 ∷ 0 ∷ 12 ∷ 248 ∷ 80 ∷ 0 ∷ 0 ∷ 0 ∷ 0 ∷ 0 ∷ 0 ∷ 0 ∷ 99 ∷ 0 ∷ 0 ∷ 0 ∷ 0 ∷ 0 ∷ 0 ∷ 0 ∷ 90 ∷ 0 ∷ 0 ∷ 0 ∷ 0 ∷ 0 ∷ 0 ∷ 0 ∷ 92 ∷ [])

-- §10.1 the lines of its row 1
unfoldable pub first_lines : List String
first_lines =
    "t 1 0 1490 k"
    ∷ "t 1 1 1505 m"
    ∷ "t 1 2 -"
    ∷ "t 1 3 1545 b"
    ∷ "t 1 4 1486 k"
    ∷ "t 1 5 1493 k"
    ∷ "s 1 0 1 4097660000000000 401e000000000000"
    ∷ "s 1 0 2 open right"
    ∷ "s 1 1 2 open right"
    ∷ "s 1 2 3 open left"
    ∷ "s 1 3 4 4097ae0000000000 c03d800000000000"
    ∷ "s 1 3 5 4097bc0000000000 c03a000000000000"
    ∷ "s 1 4 5 4097460000000000 400c000000000000"
    ∷ []

-- §10.1 the lines of its row 2
unfoldable pub second_lines : List String
second_lines =
    "t 2 0 1977 k"
    ∷ "t 2 1 2002 k"
    ∷ "t 2 2 2088 l"
    ∷ "t 2 3 2009 b"
    ∷ "t 2 4 1981 k"
    ∷ "t 2 5 1983 k"
    ∷ "s 2 0 1 409f160000000000 4029000000000000"
    ∷ "s 2 0 2 409fc20000000000 404bc00000000000"
    ∷ "s 2 1 2 409ff40000000000 4045800000000000"
    ∷ "s 2 2 3 40a0010000000000 c043c00000000000"
    ∷ "s 2 3 4 409f2c0000000000 c02c000000000000"
    ∷ "s 2 3 5 409f300000000000 c02a000000000000"
    ∷ "s 2 4 5 409ef80000000000 3ff0000000000000"
    ∷ []

-- §10.1 these are printed of it
unfoldable pub FaultyPrinted : Type 0
FaultyPrinted = wall_text faulty_file ≡ printed (first_lines ++ second_lines)

-- §10.1 a drift of 10001 in row 2, which is 25, and row 1 is not shown
unfoldable pub SecondRowRefused : Type 0
SecondRowRefused = wall_text (put 386 (39 ∷ 17 ∷ []) faulty_file) ≡ printed ("refused 25 at 285" ∷ [])

-- §10.1 with a byte more row 1 is shown and row 2 is not
unfoldable pub FaultyByteMore : Type 0
FaultyByteMore = wall_text (faulty_file ++ (3 ∷ [])) ≡ printed (first_lines ++ ("refused 44 at 484" ∷ []))
