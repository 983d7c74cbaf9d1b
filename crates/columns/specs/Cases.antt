-- Where neighbours, predecessors, links and marks stand, at numbers. Assumes nothing.
use Rattle.std.specs.Prelude.{◌≡◌, true, List, [], ◌∷◌, map, ℕ}
use Rattle.columns.specs.Columns.{columns_from, neighbours, predecessors, links_before, link}
use Rattle.columns.specs.Marks.{marked, mark_bytes}

-- §1.1 the columns of a wall with W 6
unfoldable pub six : List ℕ
six = 0 ∷ 1 ∷ 2 ∷ 3 ∷ 4 ∷ 5 ∷ []

-- §1.1 columns 0 and 2, and W - 3 and W - 1, are neighbours; away from the ends a column has two
unfoldable pub NeighboursMet : Type 0
NeighboursMet =
    (map (neighbours 6) six ≡ (1 ∷ 2 ∷ []) ∷ (0 ∷ 2 ∷ []) ∷ (0 ∷ 1 ∷ 3 ∷ []) ∷ (2 ∷ 4 ∷ 5 ∷ []) ∷ (3 ∷ 5 ∷ []) ∷ (3 ∷ 4 ∷ []) ∷ [])
    × (map (neighbours 9) (2 ∷ 3 ∷ 5 ∷ 6 ∷ 8 ∷ []) ≡ (0 ∷ 1 ∷ 3 ∷ []) ∷ (2 ∷ 4 ∷ []) ∷ (4 ∷ 6 ∷ []) ∷ (5 ∷ 7 ∷ 8 ∷ []) ∷ (6 ∷ 7 ∷ []) ∷ [])

-- §7.3 own is among the predecessors; the links of W 6, numbered from 0, tile after tile and sender after sender
unfoldable pub LinksMet : Type 0
LinksMet =
    let numbered = columns_from 20 0 (λ c. true) in
    (map (predecessors 6) six
    ≡ (0 ∷ 1 ∷ 2 ∷ []) ∷ (0 ∷ 1 ∷ 2 ∷ []) ∷ (0 ∷ 1 ∷ 2 ∷ 3 ∷ []) ∷ (2 ∷ 3 ∷ 4 ∷ 5 ∷ []) ∷ (3 ∷ 4 ∷ 5 ∷ []) ∷ (3 ∷ 4 ∷ 5 ∷ []) ∷ [])
    × (map (link 6 numbered 0) (0 ∷ 1 ∷ 2 ∷ []) ≡ 0 ∷ 1 ∷ 2 ∷ [])
    × (map (link 6 numbered 2) (0 ∷ 1 ∷ 2 ∷ 3 ∷ []) ≡ 6 ∷ 7 ∷ 8 ∷ 9 ∷ [])
    × (map (link 6 numbered 3) (2 ∷ 3 ∷ 4 ∷ 5 ∷ []) ≡ 10 ∷ 11 ∷ 12 ∷ 13 ∷ [])
    × (map (link 6 numbered 5) (3 ∷ 4 ∷ 5 ∷ []) ≡ 17 ∷ 18 ∷ 19 ∷ [])
    × (links_before 6 6 ≡ 20)

-- §7.2 a bit for each column, lowest first: byte 1 holds column 0, 160 columns 5 and 7; a byte for each eight columns begun
unfoldable pub MarksMet : Type 0
MarksMet =
    (columns_from 16 0 (marked (1 ∷ 0 ∷ [])) ≡ 0 ∷ [])
    × (columns_from 16 0 (marked (160 ∷ 3 ∷ [])) ≡ 5 ∷ 7 ∷ 8 ∷ 9 ∷ [])
    × (map mark_bytes (6 ∷ 8 ∷ 9 ∷ 256 ∷ []) ≡ 1 ∷ 1 ∷ 2 ∷ 32 ∷ [])
