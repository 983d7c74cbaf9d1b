-- What a full reading of a list of waves gives: of the last n that were not turned away, the largest and the smallest half
-- gap of the closed ones. Assumes nothing.
use Rattle.std.specs.Prelude.{cond, List, [], ◌∷◌, ℕ, ◌-◌, ℤ, length, drop, Result, Ok, Err}
use Rattle.std.proofs.Math.Option.{Option, none, some}
use Rattle.settings.specs.declared.refusal.Refusal.{Refusal}
use Rattle.settings.specs.declared.refusal.Refusal.TheVariants.{NoGap}
use Rattle.rule.specs.Signed.{larger, smaller}
use Rattle.seam.specs.Seam.{half}
use Rattle.waves.specs.Wave.{Wave, refused, gap_of}
use Rattle.waves.specs.declared.half_gap.HalfGap.{HalfGap}
use Rattle.waves.specs.declared.Extremes.{Extremes}

-- §E1.2 the waves that take a place, in their order: all that are not turned away
unfoldable pub taken : List Wave → List Wave
taken [] = []
taken (w ∷ ws) = cond (refused w) (taken ws) (w ∷ taken ws)

-- §E1.2 the last n of a list, or all of it where it is no longer
unfoldable pub last : {A : Type 0} → (n : ℕ) → List A → List A
last n xs = drop (length xs - n) xs

-- §E1.3 what there is, before a list
unfoldable pub with_some : {A : Type 0} → Option A → List A → List A
with_some none xs = xs
with_some (some x) xs = x ∷ xs

-- §E1.3 the gaps of the closed waves of a list
unfoldable pub gaps : List Wave → List ℤ
gaps [] = []
gaps (w ∷ ws) = with_some (gap_of w) (gaps ws)

-- §E1.3 the largest of a number and more
unfoldable pub largest : ℤ → List ℤ → ℤ
largest z [] = z
largest z (y ∷ ys) = larger z (largest y ys)

-- §E1.3 the smallest of them
unfoldable pub smallest : ℤ → List ℤ → ℤ
smallest z [] = z
smallest z (y ∷ ys) = smaller z (smallest y ys)

-- §E1.4 the half gap of a gap: in half ticks, and as the seam's record holds it
unfoldable pub half_gap : (gap : ℤ) → HalfGap
half_gap z = record { half_ticks = z; ticks = half z }

-- §E1.3 a largest half gap and a smallest
unfoldable pub between : (largest smallest : HalfGap) → Extremes
between a b = record { largest = a; smallest = b }

-- §E1.3 the largest and the smallest half gap of some gaps, 52 of none
unfoldable pub extremes : List ℤ → Result Extremes Refusal
extremes [] = Err NoGap
extremes (z ∷ zs) = Ok (between (half_gap (largest z zs)) (half_gap (smallest z zs)))

-- §E1.5 the full reading of all waves handed in
unfoldable pub reading : (n : ℕ) → List Wave → Result Extremes Refusal
reading n ws = extremes (gaps (last n (taken ws)))
