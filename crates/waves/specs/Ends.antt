-- The largest and the smallest gap of some words, as the question finds them in one pass. Assumes nothing.
use Rattle.std.specs.Prelude.{false, cond, List, [], ◌∷◌, ◌≡◌, ℕ, suc, min, max, eqb, Result, Ok, Err}
use Rattle.settings.specs.declared.refusal.Refusal.{Refusal}
use Rattle.settings.specs.declared.refusal.Refusal.TheVariants.{NoGap}
use Rattle.waves.specs.Reading.{half_gap, between}
use Rattle.waves.specs.State.{most, no_gap, signed}
use Rattle.waves.specs.declared.half_gap.HalfGap.{HalfGap}
use Rattle.waves.specs.declared.Extremes.{Extremes}
use Rattle.waves.specs.declared.ends.Ends.{Ends}

-- §E1.6 the half gap of a word
unfoldable pub half_gap_at : (word : ℕ) → HalfGap
half_gap_at x = half_gap (signed x)

-- §E1.6 the ends with one word more, where it is a gap's
unfoldable pub with_word : (word : ℕ) → Ends → Ends
with_word x e = cond (no_gap x) e (record { largest = max x e.largest; smallest = min x e.smallest })

-- §E1.6 the largest and the smallest word of gaps; of none, 0 and 2^42
unfoldable pub ends_of : List ℕ → Ends
ends_of [] = record { largest = 0; smallest = suc most }
ends_of (x ∷ xs) = with_word x (ends_of xs)

-- §E1.6 both are the words of gaps, or there is none
unfoldable pub ToldWords : Ends → Type 0
ToldWords e = (e.largest ≡ 0 → ⊥) → (no_gap e.largest ≡ false) × (no_gap e.smallest ≡ false)

-- §E1.6 the answer that they make
unfoldable pub told : Ends → Result Extremes Refusal
told e = cond (eqb e.largest 0) (Err NoGap) (Ok (between (half_gap_at e.largest) (half_gap_at e.smallest)))
