-- The proofs of what specs/Promises.antt states. Assumes nothing.
use mathlib.Core.Path.{ap}
use mathlib.Core.List.{List, ◌++◌}
use Prim.Native.Nat.{ℕ}
use Rattle.lines.specs.Row.{each_below, tile_text, seam_text, row_text}
use Rattle.places.specs.Promises.{SeamsInOrder}
use Rattle.places.proofs.Laws.Seams.{in_order}

pub seams_in_order : SeamsInOrder
unfolding SeamsInOrder row_text
seams_in_order w l ms ts ls wide =
    ap (λ (t : List ℕ). each_below w (tile_text l ms ts ls) ++ t) (in_order w wide (seam_text l ms ts))
