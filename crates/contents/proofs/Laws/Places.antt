-- Three or four places, as a tile's links fill them. Assumes nothing.
use mathlib.Core.Path.{refl}
use mathlib.Core.List.{List, [], ◌∷◌}
use Prim.Native.Nat.{ℕ, ◌+◌, ◌<◌}
use lib.ListN.{length, set}
use native.Mathlib.Omega.{arith}
use Rattle.columns.specs.Wrote.{Wrote}
use Rattle.columns.proofs.Laws.Wrote.{wrote_none, wrote_more}

module _ (l : List ℕ) (n a b d : ℕ) where
  pub three_places : n + 2 < length l → Wrote l n (a ∷ b ∷ d ∷ []) (set (set (set l n a) (n + 1) b) (n + 2) d) (n + 3)
  three_places i =
      let one : Wrote l n (a ∷ []) (set l n a) (n + 1) = wrote_more (wrote_none l n) a (omega arith) refl refl in
      let two : Wrote l n (a ∷ b ∷ []) (set (set l n a) (n + 1) b) (n + 2) = wrote_more one b (omega arith) refl (omega arith) in
      wrote_more two d i refl (omega arith)

  pub four_places : (e : ℕ) → n + 3 < length l → Wrote l n (a ∷ b ∷ d ∷ e ∷ []) (set (set (set (set l n a) (n + 1) b) (n + 2) d) (n + 3) e) (n + 4)
  four_places e i = wrote_more (three_places (omega arith)) e i refl (omega arith)
