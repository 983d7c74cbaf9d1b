-- Wall files that are turned away, each with its refusal and its offset, and with two faults the one that comes first. Each is the wall that
-- Cases.antt prints whole, with other bytes, cut short or longer; its fields stand at 0, 27, 78 and 82, and it ends at 281. Assumes nothing.
use Rattle.std.specs.Prelude.{◌≡◌, List, [], ◌∷◌, ◌++◌, map, ℕ, replicate, take}
use Rattle.settings.specs.declared.refusal.Refusal.{Refusal}
use Rattle.settings.specs.declared.refusal.Refusal.TheVariants.{Width, Rows, Delay, Uncertainty, Hold, Drift, Unit, UnitCost, UnitsHeld, StrayMark, Crowded, TileDrift, Link, Tag, Size, Short, GoesOn, LateStart, Phase}
use Rattle.steps.specs.Shown.{turned_away, number_shown}
use Rattle.file.specs.Cases.{put, printed_file}
use Rattle.file.specs.File.{shown}

-- §9.6 a file, and its refusal and offset
pub record Case : Type 0 where
  pub why : Refusal
  pub offset : ℕ
  pub file : List ℕ

-- §9.6 a case by these
unfoldable pub case : (why : Refusal) → (offset : ℕ) → (file : List ℕ) → Case
case n at file = record { why = n; offset = at; file = file }

-- §9.6 with other bytes from a place on
unfoldable pub changed : (why : Refusal) → (offset at : ℕ) → (bytes : List ℕ) → Case
changed n at k bs = case n at (put k bs printed_file)

-- §9.6 cut after so many bytes
unfoldable pub cut : (why : Refusal) → (offset bytes : ℕ) → Case
cut n at k = case n at (take k printed_file)

-- §9.6 41, 42, 43 and 45, each at the place of the field that is due, and 44 where the file should have ended
unfoldable pub fields_refused : List Case
fields_refused =
    changed Tag 0 0 (2 ∷ [])
    ∷ changed Tag 27 27 (3 ∷ [])
    ∷ changed Tag 78 78 (4 ∷ [])
    ∷ changed Tag 82 82 (5 ∷ [])
    ∷ changed Size 0 2 (25 ∷ [])
    ∷ changed Size 27 28 (48 ∷ 0 ∷ [])
    ∷ changed Size 78 80 (2 ∷ [])
    ∷ changed Size 82 83 (1 ∷ [])
    ∷ cut Short 0 0
    ∷ cut Short 0 2
    ∷ cut Short 0 26
    ∷ cut Short 27 27
    ∷ cut Short 27 29
    ∷ cut Short 27 77
    ∷ cut Short 78 78
    ∷ cut Short 78 80
    ∷ cut Short 78 81
    ∷ cut Short 82 82
    ∷ cut Short 82 84
    ∷ cut Short 82 280
    ∷ case GoesOn 281 (printed_file ++ (1 ∷ []))
    ∷ case GoesOn 281 (printed_file ++ printed_file)
    -- 2^39 in the first column and in the last
    ∷ changed LateStart 27 30 (0 ∷ 0 ∷ 0 ∷ 128 ∷ 0 ∷ 0 ∷ 0 ∷ 0 ∷ [])
    ∷ changed LateStart 27 70 (0 ∷ 0 ∷ 0 ∷ 128 ∷ 0 ∷ 0 ∷ 0 ∷ 0 ∷ [])
    ∷ []

-- §9.6 the numbers of settings, at 0: W, R, d, u, A, r and h past a limit, h below u + c + 2 and A below 16h
unfoldable pub settings_refused : List Case
settings_refused =
    changed Width 0 3 (0 ∷ 5 ∷ [])
    ∷ changed Width 0 3 (1 ∷ 1 ∷ [])
    ∷ changed Rows 0 5 (0 ∷ 0 ∷ [])
    ∷ changed Rows 0 5 (4 ∷ 1 ∷ [])
    ∷ changed Delay 0 7 (0 ∷ 0 ∷ 0 ∷ 0 ∷ [])
    ∷ changed Delay 0 7 (0 ∷ 15 ∷ 66 ∷ 65 ∷ [])
    ∷ changed Uncertainty 0 11 (0 ∷ 0 ∷ 0 ∷ 101 ∷ [])
    ∷ changed Hold 0 15 (0 ∷ 0 ∷ 0 ∷ 0 ∷ [])
    ∷ changed Hold 0 15 (0 ∷ 15 ∷ 66 ∷ 65 ∷ [])
    ∷ changed Drift 0 19 (0 ∷ 0 ∷ 39 ∷ 17 ∷ [])
    ∷ changed Unit 0 23 (0 ∷ 0 ∷ 0 ∷ 0 ∷ [])
    ∷ changed Unit 0 23 (0 ∷ 0 ∷ 244 ∷ 37 ∷ [])
    ∷ changed UnitCost 0 23 (0 ∷ 0 ∷ 0 ∷ 11 ∷ [])
    ∷ changed UnitsHeld 0 15 (0 ∷ 0 ∷ 0 ∷ 191 ∷ [])
    ∷ []

-- §9.6 22, 24 to 26 and 53 (§E4.4), at the place of tag 4: a mark in column 6, marks in columns 0 and 1, a drift of 1 in the last tile, a phase of 1,000,000
-- in the first and in the last, and a delay of 101, of 89 and of 2^64 - 1
unfoldable pub row_refused : List Case
row_refused =
    changed StrayMark 82 81 (64 ∷ [])
    ∷ changed Crowded 82 81 (3 ∷ [])
    ∷ changed TileDrift 82 251 (0 ∷ 1 ∷ [])
    ∷ changed Phase 82 87 (0 ∷ 15 ∷ 66 ∷ 64 ∷ [])
    ∷ changed Phase 82 253 (0 ∷ 15 ∷ 66 ∷ 64 ∷ [])
    ∷ changed Link 82 98 (101 ∷ [])
    ∷ changed Link 82 280 (89 ∷ [])
    ∷ changed Link 82 91 (255 ∷ 255 ∷ 255 ∷ 255 ∷ 255 ∷ 255 ∷ 255 ∷ 255 ∷ [])
    ∷ []

-- §9.7 where two apply: tag and length missing, then the tag, the length, the body, and only then what a field holds, tag 3's with tag 4's
unfoldable pub order_kept : List Case
order_kept =
    -- under three bytes are left, and the tag is another
    case Short 0 (9 ∷ 9 ∷ [])
    ∷ case Short 27 (take 27 printed_file ++ (9 ∷ 9 ∷ []))
    ∷ case Short 78 (take 78 printed_file ++ (9 ∷ 9 ∷ []))
    ∷ case Short 82 (take 82 printed_file ++ (9 ∷ 9 ∷ []))
    -- another tag, and another length or no body
    ∷ changed Tag 0 0 (9 ∷ 0 ∷ 25 ∷ [])
    ∷ case Tag 0 (9 ∷ 0 ∷ 24 ∷ [])
    ∷ case Tag 82 (take 82 printed_file ++ (9 ∷ 9 ∷ 9 ∷ []))
    -- another length, and no body
    ∷ case Size 0 (1 ∷ 0 ∷ 25 ∷ [])
    ∷ case Size 82 (take 82 printed_file ++ (4 ∷ 0 ∷ 195 ∷ []))
    -- a tag 4 without phases (§E4.4)
    ∷ case Size 82 (take 82 printed_file ++ (4 ∷ 0 ∷ 172 ∷ replicate 172 0))
    -- W is 5, and tag 2 is another; a row 0 time is late, and tag 3 is another
    ∷ case Width 0 (put 3 (0 ∷ 5 ∷ []) (put 27 (9 ∷ []) printed_file))
    ∷ case LateStart 27 (put 33 (128 ∷ []) (put 78 (9 ∷ []) printed_file))
    -- a mark in column 6, and tag 4 is another, has another length, or is missing
    ∷ changed Tag 82 81 (64 ∷ 5 ∷ [])
    ∷ changed Size 82 81 (64 ∷ 4 ∷ 0 ∷ 195 ∷ [])
    ∷ case Short 82 (take 82 (put 81 (64 ∷ []) printed_file))
    ∷ case Short 82 (take 280 (put 81 (64 ∷ []) printed_file))
    -- marks in columns 6, 0 and 1, a drift of 1 and a phase of 1,000,000 in the last tile, and a delay of 101 in the first; without the mark in column 6;
    -- without marks; without the drift
    ∷ case StrayMark 82 (put 81 (67 ∷ []) (put 251 (0 ∷ 1 ∷ 0 ∷ 15 ∷ 66 ∷ 64 ∷ []) (put 98 (101 ∷ []) printed_file)))
    ∷ case Crowded 82 (put 81 (3 ∷ []) (put 251 (0 ∷ 1 ∷ 0 ∷ 15 ∷ 66 ∷ 64 ∷ []) (put 98 (101 ∷ []) printed_file)))
    ∷ case TileDrift 82 (put 251 (0 ∷ 1 ∷ 0 ∷ 15 ∷ 66 ∷ 64 ∷ []) (put 98 (101 ∷ []) printed_file))
    ∷ case Phase 82 (put 253 (0 ∷ 15 ∷ 66 ∷ 64 ∷ []) (put 98 (101 ∷ []) printed_file))
    -- a drift of 1 in the last tile, and a phase of 1,000,000 in the first
    ∷ case TileDrift 82 (put 251 (0 ∷ 1 ∷ []) (put 87 (0 ∷ 15 ∷ 66 ∷ 64 ∷ []) printed_file))
    -- a row that is turned away, and a byte more
    ∷ case StrayMark 82 (put 81 (64 ∷ []) printed_file ++ (1 ∷ []))
    ∷ []

-- §9.8 each shows its refusal and nothing else
unfoldable pub RefusalsMet : Type 0
RefusalsMet =
    let cases = fields_refused ++ settings_refused ++ row_refused ++ order_kept in
    map (λ x. shown x.file) cases ≡ map (λ x. turned_away x.why x.offset ∷ []) cases

-- §9.6 the bytes of 2^39 - 1
unfoldable pub latest_start : List ℕ
latest_start = 0 ∷ 0 ∷ 0 ∷ 127 ∷ 255 ∷ 255 ∷ 255 ∷ 255 ∷ []

-- §9.6 row 0 with this time in each column is accepted
unfoldable pub LatestStartMet : Type 0
LatestStartMet =
    number_shown
    (shown (put 30 (latest_start ++ latest_start ++ latest_start ++ latest_start ++ latest_start ++ latest_start) printed_file))
    ≡ 0

-- §E4.3 a phase of 999,999 in the first tile and in the last is accepted
unfoldable pub LargestPhaseMet : Type 0
LargestPhaseMet = number_shown (shown (put 87 (0 ∷ 15 ∷ 66 ∷ 63 ∷ []) (put 253 (0 ∷ 15 ∷ 66 ∷ 63 ∷ []) printed_file))) ≡ 0
