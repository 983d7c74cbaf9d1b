-- What is promised of the last waves of a seam, beside what specs/Program.antt states of lists of calls. Each statement is proved in
-- proofs/Promises.antt, under its name in small letters. Assumes nothing.
use Rattle.std.specs.Prelude.{◌≡◌, false, List, ◌∷◌, ◌++◌, ℕ, ◌≤◌, ◌<◌, ℤ, pos, neg_ℤ, nat_abs, ◌-ℤ◌, length, get_or, ◌≤ℤ◌, Ok, Err, Some, None}
use Rattle.std.proofs.Math.Option.{some}
use Rattle.std.specs.Int.Signed.{lt_z}
use Rattle.std.specs.Float.Ieee.Exact.{HasValue}
use Rattle.settings.specs.declared.refusal.Refusal.TheVariants as refusal
use Rattle.settings.specs.declared.refusal.Refusal.TheVariants.{LateSide, NoGap}
use Rattle.seam.specs.Seam.{latest}
use Rattle.seam.specs.declared.Halves.{Halves}
use Rattle.seam.specs.declared.Seam.TheVariants as seam
use Rattle.waves.specs.Wave.{Wave, answer, gap_of}
use Rattle.waves.specs.Reading.{last, largest, smallest, half_gap, between}
use Rattle.waves.specs.State.{fits, started, handed, asked}
use Rattle.waves.specs.declared.Waves.{Waves}
use Rattle.waves.specs.declared.half_gap.HalfGap.{HalfGap}

-- §E1.1 a start is accepted from 1 to 64, and otherwise turned away with 51
unfoldable pub StartNumbers : Type 0
StartNumbers =
    (n : ℕ) →
    (1 ≤ n → n ≤ 64 → (started n).refusal ≡ None)
    × (n < 1 → (started n).refusal ≡ Some refusal.Waves)
    × (64 < n → (started n).refusal ≡ Some refusal.Waves)

-- §E1.2 a wave that the seam operation turns away with 31 leaves the state as it was
unfoldable pub RefusedKept : Type 0
RefusedKept = (s : Waves) (w : Wave) → answer w ≡ Err LateSide → (handed s w).waves ≡ s

-- §E1.2 the last n of a list are those behind all others, and all where there are no more than n: the n-th back counts, the one before it does not
unfoldable pub LastExact : Type 1
LastExact =
    (A : Type 0) (xs ys : List A) (n : ℕ) → (last (length ys) (xs ++ ys) ≡ ys) × (length xs ≤ n → last n xs ≡ xs)

-- §E1.3 m is one of the numbers and none is above it
pub record Largest (zs : List ℤ) (m : ℤ) : Type 0 where
  pub place : ℕ
  pub inside : place < length zs
  pub among : get_or zs place (pos 0) ≡ m
  pub most : (k : ℕ) → k < length zs → get_or zs k (pos 0) ≤ℤ m

-- §E1.3 m is one of the numbers and none is below it
pub record Smallest (zs : List ℤ) (m : ℤ) : Type 0 where
  pub place : ℕ
  pub inside : place < length zs
  pub among : get_or zs place (pos 0) ≡ m
  pub least : (k : ℕ) → k < length zs → m ≤ℤ get_or zs k (pos 0)

-- §E1.3 the largest and the smallest are these
unfoldable pub ExtremesRight : Type 0
ExtremesRight = (z : ℤ) (zs : List ℤ) → Largest (z ∷ zs) (largest z zs) × Smallest (z ∷ zs) (smallest z zs)

-- §E1.4 a half gap of g half ticks: g is from -(2^41 - 1) to 2^41 - 1, and the floating number is exactly g / 2
pub record Exact (h : HalfGap) : Type 0 where
  pub at_least : neg_ℤ (pos latest) ≤ℤ h.half_ticks
  pub at_most : h.half_ticks ≤ℤ pos latest
  pub value : HasValue h.ticks (lt_z h.half_ticks (pos 0)) (nat_abs h.half_ticks) 2

-- §E1.4 so are both of every answer, of any state
unfoldable pub AnswersExact : Type 0
AnswersExact = (s : Waves) (a b : HalfGap) → asked s ≡ Ok (between a b) → Exact a × Exact b

-- §E1.4 the half gap of a closed wave is that of its seam's record
unfoldable pub SameHalfGap : Type 0
SameHalfGap =
    (w : Wave) (h : Halves) → answer w ≡ Ok (seam.Closed h) →
    let z = pos w.right -ℤ pos w.left in (gap_of w ≡ some z) × ((half_gap z).ticks ≡ h.half_gap)

-- §E1.6 a state that does not fit stays as it is, and holds no wave
unfoldable pub UnfitKept : Type 0
UnfitKept = (s : Waves) → fits s ≡ false → ((w : Wave) → ((handed s w).waves ≡ s) × ((handed s w).seam ≡ answer w)) × (asked s ≡ Err NoGap)
