-- The code's own: the predecessors of a tile as a window of three or four adjacent columns, and where a tile's links start.
-- `WindowRight` and `LinksStart` say that they are those of Columns.antt. Assumes nothing.
use Rattle.std.specs.Prelude.{◌≡◌, Bool, cond, ◌||◌, List, [], ◌∷◌, ℕ, ◌+◌, ◌-◌, ◌*◌, ◌≤◌, ◌<◌, leb, eqb}
use Rattle.columns.specs.Columns.{predecessors, links_before}

-- §1.3 the lowest column that tile c hears
unfoldable pub first_sender : (w c : ℕ) → ℕ
first_sender w c = cond (leb c 2) 0 (cond (leb (w - 2) c) (w - 3) (c - 1))

-- §1.3 whether it hears four: it is the third from an end
unfoldable pub four_senders : (w c : ℕ) → Bool
four_senders w c = eqb c 2 || eqb c (w - 3)

-- §1.3 the columns that it hears, side by side
unfoldable pub window : (w c : ℕ) → List ℕ
window w c =
    let k = first_sender w c in
    k ∷ (k + 1) ∷ (k + 2) ∷ cond (four_senders w c) ((k + 3) ∷ []) []

-- §1.3 the window holds the predecessors
unfoldable pub WindowRight : Type 0
WindowRight = (w c : ℕ) → 6 ≤ w → c < w → predecessors w c ≡ window w c

-- §7.3 the links of a row number 3W + 2
unfoldable pub LinksCounted : Type 0
LinksCounted = (w : ℕ) → 6 ≤ w → links_before w w ≡ 3 * w + 2

-- §7.3 where a tile's links start, in closed form
unfoldable pub LinksStart : Type 0
LinksStart =
    (w c : ℕ) → 6 ≤ w → c < w →
    (c ≤ 2 → links_before w c ≡ 3 * c) × (2 < c → c ≤ w - 3 → links_before w c ≡ 3 * c + 1) × (w - 3 < c → links_before w c ≡ 3 * c + 2)
