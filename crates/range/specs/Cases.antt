-- What `wallreach` prints of whole files, from their bytes. Each statement is proved in proofs/Cases.antt, under its name in small letters.
-- Assumes nothing.
use Rattle.std.specs.Prelude.{◌≡◌, List, [], ◌∷◌, ◌++◌, ℕ}
use Rattle.file.specs.Cases.{printed, put, printed_file}
use Rattle.range.specs.File.{search_text}
use Rattle.range.specs.Read.{last_number}

-- §9.5 1000 in eight bytes
unfoldable pub at_1000 : List ℕ
at_1000 = 0 ∷ 0 ∷ 0 ∷ 0 ∷ 0 ∷ 0 ∷ 3 ∷ 232 ∷ []

-- §1.4 the wall of §14.4 with its tile of column 3 broken: it is marked, and arrives at tiles 2 to 5 at 1000
unfoldable pub broken_file : List ℕ
broken_file = put 81 (8 ∷ []) (put 175 at_1000 (put 197 at_1000 (put 227 at_1000 (put 257 at_1000 printed_file))))

-- §15.4 the printed wall where row 1 is asked for, and with a byte more; the broken one; no bytes
unfoldable pub PrintedCases : Type 0
PrintedCases =
    (search_text (1 ∷ []) printed_file ≡ printed ("b 0 80" ∷ "r 0 1 256 1" ∷ "largest 256 ticks" ∷ []))
    × (search_text [] (printed_file ++ (0 ∷ [])) ≡ printed ("b 0 80" ∷ "refused 44 at 281" ∷ []))
    × (search_text (1 ∷ []) broken_file ≡ printed ("faulty 0 3" ∷ []))
    × (search_text [] [] ≡ printed ("refused 43 at 0" ∷ []))

-- §15.4 the last number in a text
unfoldable pub ReadCases : Type 0
ReadCases = (last_number (printed ("b 0 80" ∷ "r 0 1 256 1" ∷ "largest 256 ticks" ∷ [])) ≡ 256) × (last_number (printed ("largest 0 ticks" ∷ [])) ≡ 0)
