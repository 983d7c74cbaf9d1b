-- Refusals: their numbers, their conditions, and the first whose condition holds. Assumes nothing.
use Rattle.std.specs.Prelude.{Bool, false, cond, ◌||◌, List, [], ◌∷◌, ℕ, zero, suc, ltb, Option, Some, None, Result, Ok, Err}
use Rattle.settings.specs.declared.refusal.Refusal.{Refusal}
use Rattle.settings.specs.declared.refusal.Refusal.TheVariants as why

-- §13.1 the number of each refusal: of settings
abbrev pub number : Refusal → ℕ
number why.Width = 1
number why.Rows = 2
number why.Delay = 3
number why.Uncertainty = 4
number why.Hold = 5
number why.Drift = 6
number why.Unit = 7
number why.UnitCost = 8
number why.UnitsHeld = 9
-- of a tile
number why.Neighbours = 11
number why.Stamp = 12
number why.Silences = 13
-- of a row
number why.Lengths = 21
number why.StrayMark = 22
number why.LateTime = 23
number why.Crowded = 24
number why.TileDrift = 25
number why.Link = 26
-- of a seam
number why.LateSide = 31
-- of a file
number why.Tag = 41
number why.Size = 42
number why.Short = 43
number why.GoesOn = 44
number why.LateStart = 45
-- of last waves, of a row's phases, of a running tile
number why.Waves = 51
number why.NoGap = 52
number why.Phase = 53
number why.Sender = 54

infix 70 ◌when◌
-- §13.1 a refusal and its condition
pub data Test : Type 0 where
  ◌when◌ : (why : Refusal) (applies : Bool) → Test

-- §13.1 the refusal of the first test that applies
unfoldable pub first : List Test → Option Refusal
first [] = None
first ((r when b) ∷ ts) = cond b (Some r) (first ts)

-- §13.1 a refusal, or where there is none the one that is next in the order
unfoldable pub or_else : (cause other : Option Refusal) → Option Refusal
or_else None o = o
or_else (Some r) o = Some r

-- §13.1 its number, 0 where there is none
abbrev pub refused : Option Refusal → ℕ
refused None = 0
refused (Some r) = number r

-- §13.3 what a call answers: the refusal where there is one, and else the value
unfoldable pub answer : {A : Type 0} → Option Refusal → A → Result A Refusal
answer None x = Ok x
answer (Some r) x = Err r

-- §13.3 the number of an answer, 0 where it has the value
abbrev pub number_in : {A : Type 0} → Result A Refusal → ℕ
number_in (Ok x) = 0
number_in (Err r) = number r

-- §2.1 v is below low or above high
unfoldable pub outside : (low high v : ℕ) → Bool
outside low high v = ltb v low || ltb high v

-- §13.1 f holds of some number below n
unfoldable pub any_below : (n : ℕ) → (ℕ → Bool) → Bool
any_below zero f = false
any_below (suc n) f = any_below n f || f n
