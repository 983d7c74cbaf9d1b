-- What is promised of the seams' order. Proved in proofs/Promises.antt, under its name in small letters. Assumes nothing.
use Rattle.std.specs.Prelude.{◌≡◌, List, ◌++◌, ℕ, suc, ◌≤◌}
use Rattle.lines.specs.Row.{each_below, tile_text, seam_text, row_text}
use Rattle.places.specs.Seams.{seam_left, seam_right}

-- §10.3 the printed lines of a row are those of its tiles, then those of its seams 0 to W
unfoldable pub SeamsInOrder : Type 0
SeamsInOrder =
    (w l : ℕ) (ms ts ls : List ℕ) → 6 ≤ w →
    row_text w l ms ts ls ≡ each_below w (tile_text l ms ts ls) ++ each_below (suc w) (λ i. seam_text l ms ts (seam_left w i) (seam_right w i))
