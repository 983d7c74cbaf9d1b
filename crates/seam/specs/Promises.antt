-- What is promised of a seam. Each statement is proved in proofs/Promises.antt, under its name in small letters.
-- Assumes nothing.
use Rattle.std.specs.Prelude.{◌≡◌, Bool, true, false, ◌⊎◌, ℕ, ◌+◌, ◌-◌, ◌^◌, ◌≤◌, ◌<◌, T, ltb, pos, neg_ℤ, ◌-ℤ◌, ◌≤ℤ◌, Result}
use Rattle.std.proofs.Math.Option.{none, some}
use Rattle.std.specs.Float.{binary64}
use Rattle.std.specs.Float.Ieee.{fits, to_bits}
use Rattle.std.specs.Float.Ieee.Exact.{HasValue}
use Rattle.std.specs.Int.{w64}
use Rattle.std.proofs.Common.{SFits}
use Rattle.settings.specs.Refusal.{number_in}
use Rattle.settings.specs.declared.refusal.Refusal.{Refusal}
use Rattle.seam.specs.Seam.{latest, halves, seam_of, halves_of, side_of}
use Rattle.seam.specs.declared.Seam.{Seam}
use Rattle.seam.specs.declared.Side.TheVariants.{Left, Right, Both}

-- §8.3 the midpoint is (left + right) / 2 and the half gap is |right - left| / 2, below zero where right is earlier. One of the two differences
-- of naturals is 0, so their sum is the size of the gap. Both are values of the format.
pub record Exact (left right : ℕ) : Type 0 where
  pub midpoint : HasValue (halves left right).midpoint false (left + right) 2
  pub half_gap : HasValue (halves left right).half_gap (ltb right left) (right - left + (left - right)) 2
  pub midpoint_fits : T (fits binary64 (halves left right).midpoint)
  pub half_gap_fits : T (fits binary64 (halves left right).half_gap)

-- §8.3 and §12.2: the halves of any two times up to the latest are exact
unfoldable pub HalvesExact : Type 0
HalvesExact = (left right : ℕ) → left ≤ latest → right ≤ latest → Exact left right

-- §8.3 a half gap of nothing has the bits of +0
unfoldable pub ZeroGapPlus : Type 0
ZeroGapPlus = (t : ℕ) → to_bits binary64 (halves t t).half_gap ≡ 0

-- §8.3 the bits of two times' halves
unfoldable pub Bits : (left right midpoint half_gap : ℕ) → Type 0
Bits l r m g = (to_bits binary64 (halves l r).midpoint ≡ m) × (to_bits binary64 (halves l r).half_gap ≡ g)

-- §14.4 those of the seams of this wall
unfoldable pub PrintedBits : Type 0
PrintedBits =
    Bits 1500 1500 0x4097_7000_0000_0000 0
    × Bits 1500 1536 0x4097_b800_0000_0000 0x4032_0000_0000_0000
    × Bits 1536 1500 0x4097_b800_0000_0000 0xc032_0000_0000_0000

-- §8.3 those of gaps of one tick, which keep their half
unfoldable pub OddBits : Type 0
OddBits =
    Bits 1 2 0x3ff8_0000_0000_0000 0x3fe0_0000_0000_0000 × Bits 2 1 0x3ff8_0000_0000_0000 0xbfe0_0000_0000_0000

-- §8.3 the gap, right less left, is an i64 from -(2^41 - 1) to 2^41 - 1
unfoldable pub GapRange : Type 0
GapRange =
    (left right : ℕ) → left ≤ latest → right ≤ latest →
    SFits w64 (pos right -ℤ pos left) × (neg_ℤ (pos latest) ≤ℤ (pos right -ℤ pos left)) × ((pos right -ℤ pos left) ≤ℤ pos latest)

-- §8.3 both ends of its range are met
unfoldable pub GapEnds : Type 0
GapEnds = (pos 0 -ℤ pos latest ≡ neg_ℤ (pos latest)) × (pos latest -ℤ pos 0 ≡ pos latest)

-- §8.4 the latest time as a power of 2
unfoldable pub LatestTime : Type 0
LatestTime = latest ≡ 2 ^ 41 - 1

-- §8.4 of a correct tile: its time is over the latest
unfoldable pub Over : (time : ℕ) (faulty : Bool) → Type 0
Over t f = (f ≡ false) × (latest < t)

-- §13.3 an answer's number, halves and side in each case of the two tiles
pub record Answered (left : ℕ) (left_faulty : Bool) (right : ℕ) (right_faulty : Bool) (answer : Result Seam Refusal) : Type 0 where
  pub over : Over left left_faulty ⊎ Over right right_faulty → number_in answer ≡ 31
  pub not_over : (Over left left_faulty → ⊥) → (Over right right_faulty → ⊥) → number_in answer ≡ 0
  pub closed : left_faulty ≡ false → right_faulty ≡ false → left ≤ latest → right ≤ latest →
      (halves_of answer ≡ some (halves left right)) × (side_of answer ≡ none)
  pub open_left : left_faulty ≡ true → right_faulty ≡ false → right ≤ latest →
      (halves_of answer ≡ none) × (side_of answer ≡ some Left)
  pub open_right : left_faulty ≡ false → right_faulty ≡ true → left ≤ latest →
      (halves_of answer ≡ none) × (side_of answer ≡ some Right)
  pub open_both : left_faulty ≡ true → right_faulty ≡ true → (halves_of answer ≡ none) × (side_of answer ≡ some Both)

-- §13.4 any two tiles are answered so
unfoldable pub SeamAnswered : Type 0
SeamAnswered =
    (left : ℕ) (left_faulty : Bool) (right : ℕ) (right_faulty : Bool) →
    Answered left left_faulty right right_faulty (seam_of left left_faulty right right_faulty)

-- §8.4 one time or another of a faulty tile, the answer is the same
unfoldable pub FaultyUnread : Type 0
FaultyUnread =
    (a b time : ℕ) (faulty : Bool) →
    (seam_of a true time faulty ≡ seam_of b true time faulty) × (seam_of time faulty a true ≡ seam_of time faulty b true)
