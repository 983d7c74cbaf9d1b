-- One seam: its midpoint and half gap, the refusal 31, and its answer. Assumes nothing.
use Rattle.std.specs.Prelude.{Bool, true, false, cond, not, ◌&&◌, ◌||◌, ℕ, suc, ◌+◌, ltb, ℤ, pos, negsuc, ◌-ℤ◌, Float, Result, Ok, Err}
use Rattle.std.proofs.Math.Option.{Option, none, some}
use Rattle.std.specs.Float.{binary64}
use Rattle.std.specs.Float.Ieee.{round}
use Rattle.settings.specs.declared.refusal.Refusal.{Refusal}
use Rattle.settings.specs.declared.refusal.Refusal.TheVariants.{LateSide}
use Rattle.rule.specs.Stamp.{latest_stamp}
use Rattle.seam.specs.declared.Halves.{Halves}
use Rattle.seam.specs.declared.Side.{Side}
use Rattle.seam.specs.declared.Side.TheVariants.{Left, Right, Both}
use Rattle.seam.specs.declared.Seam.{Seam}
use Rattle.seam.specs.declared.Seam.TheVariants.{Closed, Open}

-- §8.4 the latest time of a correct tile is the latest stamp, 2^41 - 1
abbrev pub latest : ℕ
latest = latest_stamp

-- §8.3 half of a whole number, as a 64-bit floating number: the fraction n / 2 with the number's sign, and 0 plus
unfoldable pub half : ℤ → Float
half (pos n) = round binary64 false n 2
half (negsuc n) = round binary64 true (suc n) 2

-- §8.3 the halves of two times: half of their sum, the midpoint, and half of right less left, the half gap
unfoldable pub halves : (left right : ℕ) → Halves
halves l r = record { midpoint = half (pos (l + r)); half_gap = half (pos r -ℤ pos l) }

-- §8.4 the condition of 31: the tile is correct, and its time is over the latest
unfoldable pub late : (time : ℕ) (faulty : Bool) → Bool
late t f = not f && ltb latest t

-- §8.2 closed with its halves where no tile is faulty, otherwise open at the side that is, or at both
unfoldable pub joined : (left_faulty right_faulty : Bool) → Halves → Seam
joined false false h = Closed h
joined true false h = Open Left
joined false true h = Open Right
joined true true h = Open Both

-- §8.4 the answer for two tiles, each by its time and whether it is faulty: 31 where one is late, otherwise their seam
unfoldable pub seam_of : (left : ℕ) (left_faulty : Bool) (right : ℕ) (right_faulty : Bool) → Result Seam Refusal
seam_of l lf r rf = cond (late l lf || late r rf) (Err LateSide) (Ok (joined lf rf (halves l r)))

-- §13.3 the midpoint and half gap that a closed seam has
unfoldable pub halves_of : Result Seam Refusal → Option Halves
halves_of (Ok (Closed h)) = some h
halves_of (Ok (Open s)) = none
halves_of (Err why) = none

-- §13.3 the side that an open seam has
unfoldable pub side_of : Result Seam Refusal → Option Side
side_of (Ok (Closed h)) = none
side_of (Ok (Open s)) = some s
side_of (Err why) = none
