-- What was told, of a text that was written. Assumes nothing.
use mathlib.Core.Path.{◌≡◌, refl}
use mathlib.Core.List.{List}
use Prim.Native.Nat.{ℕ}
use Rattle.columns.specs.Wrote.{Wrote}
use Rattle.stages.specs.declared.Wall.{Wall}
use Rattle.told.specs.Telling.{Telling, says, Said}

module _ {before after : List ℕ} {at end : ℕ} where
  pub said : {t : Telling} (x : Wall) (m : ℕ) {text : List ℕ} → t ≡ says x m text → Wrote before at text after end →
      Said t (record { wall = x; kept = m; end = end }) before at after
  unfolding says
  said x m e w = rw e (record { wall = refl; kept = refl; text = w })
