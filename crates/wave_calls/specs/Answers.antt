-- What each function answers and leaves, by the words of the state: the number, and what is lent to be written, which a refusal leaves as
-- it was. Assumes nothing.
use Rattle.std.specs.Prelude.{cond, List, [], ◌∷◌, ℕ, ℤ, Float, Result}
use Rattle.settings.specs.Refusal.{refused, answer as answer_of, number_in}
use Rattle.settings.specs.declared.refusal.Refusal.{Refusal}
use Rattle.waves.specs.Wave.{Wave, answer}
use Rattle.waves.specs.State.{fits, started, handed, asked}
use Rattle.waves.specs.declared.Waves.{Waves}
use Rattle.waves.specs.declared.Extremes.{Extremes}
use Rattle.layout.specs.Words.{unfit}
use Rattle.calls.specs.Answers.{left, side_left, halves_left}

-- §E1.7 the state of 66 words
unfoldable pub waves_in : (words : List ℕ) → Waves
waves_in ws = record { words = ws }

-- §E1.7 0, or 51
unfoldable pub start_number : (n : ℕ) → ℕ
start_number n = refused (started n).refusal

-- §E1.7 the state of a start, which 51 does not write
unfoldable pub start_left : (n : ℕ) → (held : List ℕ) → List ℕ
start_left n held = left (λ ws. ws) (answer_of (started n).refusal (started n).waves.words) held

-- §E1.7 the seam's number; a state that no start left is unfit
unfoldable pub wave_number : (words : List ℕ) → Wave → ℕ
wave_number ws w = cond (fits (waves_in ws)) (number_in (answer w)) unfit

-- §E1.7 the state after a wave
unfoldable pub wave_left : (words : List ℕ) → Wave → List ℕ
wave_left ws w = (handed (waves_in ws) w).waves.words

-- §E1.7 the side of the seam
unfoldable pub wave_side : (words : List ℕ) → Wave → (held : ℕ) → ℕ
wave_side ws w held = cond (fits (waves_in ws)) (side_left (answer w) held) held

-- §E1.7 its midpoint and half gap
unfoldable pub wave_halves : (words : List ℕ) → Wave → (held : List Float) → List Float
wave_halves ws w held = cond (fits (waves_in ws)) (halves_left (answer w) held) held

-- §E1.7 0 or 52; a state that no start left is unfit
unfoldable pub ask_number : (words : List ℕ) → ℕ
ask_number ws = cond (fits (waves_in ws)) (number_in (asked (waves_in ws))) unfit

-- §E1.7 the largest and the smallest of an answer in half ticks
unfoldable pub extremes_half_ticks : Result Extremes Refusal → (held : List ℤ) → List ℤ
extremes_half_ticks a held = left (λ e. e.largest.half_ticks ∷ e.smallest.half_ticks ∷ []) a held

-- §E1.7 and in ticks
unfoldable pub extremes_ticks : Result Extremes Refusal → (held : List Float) → List Float
extremes_ticks a held = left (λ e. e.largest.ticks ∷ e.smallest.ticks ∷ []) a held

-- §E1.7 what the question leaves in half ticks; a state that does not fit holds no wave
unfoldable pub half_ticks_left : (words : List ℕ) → (held : List ℤ) → List ℤ
half_ticks_left ws held = extremes_half_ticks (asked (waves_in ws)) held

-- §E1.7 and in ticks
unfoldable pub ticks_left : (words : List ℕ) → (held : List Float) → List Float
ticks_left ws held = extremes_ticks (asked (waves_in ws)) held
