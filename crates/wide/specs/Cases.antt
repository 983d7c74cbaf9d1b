-- Rows at numbers, of a wall with W 6, and the first wide seam of each. Each statement is proved in proofs/Cases.antt, under its name in
-- small letters. Assumes nothing.
use Rattle.std.specs.Prelude.{◌≡◌, List, [], ◌∷◌, map, ℕ, Option, Some, None, Result, Ok, Err}
use Rattle.settings.specs.Settings.{settings}
use Rattle.settings.specs.declared.refusal.Refusal.{Refusal}
use Rattle.settings.specs.declared.refusal.Refusal.TheVariants.{Lengths, LateSide}
use Rattle.settings.specs.declared.refusal.Refusal.TheVariants as why
use Rattle.wide.specs.Wide.{wide_at, first_wide}
use Rattle.wide.specs.declared.Wide.{Wide}

-- §E7.2 the answers for a row under some limits
unfoldable pub answers : (times marks limits : List ℕ) → List (Result (Option Wide) Refusal)
answers ts ms ns = map (first_wide (settings 6 1 100 10 400 0 12) ts ms) ns

-- §14.4 row 1 of this wall: half a gap is compared whole, and at the limit it is not over it; with its third tile faulty, both seams of
-- which are open, nothing is
unfoldable pub LimitCases : Type 0
LimitCases =
    let row : List ℕ = 1500 ∷ 1500 ∷ 1500 ∷ 1536 ∷ 1500 ∷ 1500 ∷ [] in
    (answers row (0 ∷ []) (0 ∷ 18 ∷ 35 ∷ 36 ∷ 37 ∷ []) ≡ Ok (Some (wide_at 2 3 36)) ∷ Ok (Some (wide_at 2 3 36)) ∷ Ok (Some (wide_at 2 3 36)) ∷ Ok None ∷ Ok None ∷ [])
    × (answers row (8 ∷ []) (0 ∷ []) ≡ Ok None ∷ [])

-- §E7.1 a gap below zero counts as one above, and an odd one has its half tick
unfoldable pub SignCases : Type 0
SignCases =
    (answers (1536 ∷ 1500 ∷ 1500 ∷ 1500 ∷ 1500 ∷ 1500 ∷ []) (0 ∷ []) (35 ∷ 36 ∷ []) ≡ Ok (Some (wide_at 0 1 36)) ∷ Ok None ∷ [])
    × (answers (1500 ∷ 1501 ∷ 1501 ∷ 1501 ∷ 1501 ∷ 1501 ∷ []) (0 ∷ []) (0 ∷ 1 ∷ []) ≡ Ok (Some (wide_at 0 1 1)) ∷ Ok None ∷ [])

-- §E7.2 columns 0 and 2 come before 1 and 2, and 3 and 5 before 4 and 5; the left tile faulty, the right one, both
unfoldable pub OrderCases : Type 0
OrderCases =
    (answers (1500 ∷ 1500 ∷ 1600 ∷ 1600 ∷ 1600 ∷ 1600 ∷ []) (0 ∷ []) (99 ∷ []) ≡ Ok (Some (wide_at 0 2 100)) ∷ [])
    × (answers (1500 ∷ 1500 ∷ 1500 ∷ 1500 ∷ 1400 ∷ 1600 ∷ []) (0 ∷ []) (99 ∷ 100 ∷ 200 ∷ []) ≡ Ok (Some (wide_at 3 4 100)) ∷ Ok (Some (wide_at 4 5 200)) ∷ Ok None ∷ [])
    × (answers (1500 ∷ 1500 ∷ 1500 ∷ 1500 ∷ 1550 ∷ 1650 ∷ []) (0 ∷ []) (99 ∷ []) ≡ Ok (Some (wide_at 3 5 150)) ∷ [])
    × (answers (1500 ∷ 1500 ∷ 1600 ∷ 1600 ∷ 1600 ∷ 1600 ∷ []) (1 ∷ []) (99 ∷ []) ≡ Ok (Some (wide_at 1 2 100)) ∷ [])
    × (answers (1500 ∷ 1500 ∷ 1600 ∷ 1600 ∷ 1600 ∷ 1600 ∷ []) (4 ∷ []) (99 ∷ []) ≡ Ok None ∷ [])
    × (answers (1500 ∷ 1500 ∷ 1600 ∷ 1600 ∷ 1600 ∷ 1600 ∷ []) (3 ∷ []) (99 ∷ []) ≡ Ok None ∷ [])

-- §8.4 31 at 2^41 and not at 2^41 - 1; what comes after a wide seam is not looked at; a faulty tile's time is not read
unfoldable pub LateCases : Type 0
LateCases =
    (answers (0 ∷ 2199023255551 ∷ 0 ∷ 0 ∷ 0 ∷ 0 ∷ []) (0 ∷ []) (2199023255550 ∷ 2199023255551 ∷ []) ≡ Ok (Some (wide_at 0 1 2199023255551)) ∷ Ok None ∷ [])
    × (answers (0 ∷ 2199023255552 ∷ 0 ∷ 0 ∷ 0 ∷ 0 ∷ []) (0 ∷ []) (0 ∷ 4398046511104 ∷ []) ≡ Err LateSide ∷ Err LateSide ∷ [])
    × (answers (0 ∷ 2199023255552 ∷ 0 ∷ 0 ∷ 0 ∷ 0 ∷ []) (2 ∷ []) (0 ∷ []) ≡ Ok None ∷ [])
    × (answers (0 ∷ 0 ∷ 0 ∷ 0 ∷ 9 ∷ 2199023255552 ∷ []) (0 ∷ []) (8 ∷ 9 ∷ []) ≡ Ok (Some (wide_at 3 4 9)) ∷ Err LateSide ∷ [])

-- §E7.2 seven times, two bytes of marks; settings that are turned away, before the lengths
unfoldable pub NumberCases : Type 0
NumberCases =
    (answers (0 ∷ 9 ∷ 0 ∷ 0 ∷ 0 ∷ 0 ∷ 0 ∷ []) (0 ∷ []) (0 ∷ []) ≡ Err Lengths ∷ [])
    × (answers (0 ∷ 9 ∷ 0 ∷ 0 ∷ 0 ∷ 0 ∷ []) (0 ∷ 0 ∷ []) (0 ∷ []) ≡ Err Lengths ∷ [])
    × (first_wide (settings 5 1 100 10 400 0 12) [] [] 0 ≡ Err why.Width)
