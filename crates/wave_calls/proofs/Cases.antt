-- The proofs of what specs/Cases.antt states. Assumes nothing.
use mathlib.Core.Path.{refl}
use lib.Ieee.{to_bits, round}
use Rattle.settings.specs.Refusal.{outside, answer as answer_of}
use Rattle.rule.specs.Signed.{larger, smaller}
use Rattle.seam.specs.Seam.{half, halves, late, joined, seam_of}
use Rattle.waves.specs.Wave.{wave, answer, refused}
use Rattle.waves.specs.Reading.{with_some, largest, smallest, half_gap, between, extremes}
use Rattle.waves.specs.State.{size, next, fits, blank, started, word_of, seam_word, word, following, put, handed, no_gap, signed, gap_at, gaps_at, front, places, asked}
use Rattle.layout.specs.Words.{side_word}
use Rattle.calls.specs.Answers.{left, side_left, halves_left}
use Rattle.wave_calls.specs.Answers.{waves_in, start_number, start_left, wave_number, wave_left, wave_side, wave_halves, ask_number, extremes_half_ticks, extremes_ticks, half_ticks_left, ticks_left}
use Rattle.wave_calls.specs.Cases.{words, StartCases, Handed, HandInCases, held, HalvesCases, Asked, AskCases, TicksCases}

pub start_cases : StartCases
unfolding StartCases words start_number start_left left answer_of started blank outside
start_cases = (refl, refl, refl, refl)

pub hand_in_cases : HandInCases
unfolding HandInCases Handed words wave wave_number wave_left wave_side waves_in answer seam_of late joined answer_of side_left side_word fits size next refused handed put word seam_word word_of following
hand_in_cases = ((refl, refl, refl), (refl, refl, refl), (refl, refl, refl), (refl, refl, refl))

pub halves_cases : HalvesCases
unfolding HalvesCases words held wave wave_halves waves_in answer seam_of late joined answer_of halves half halves_left fits size next to_bits round
halves_cases = (refl, refl, refl)

pub ask_cases : AskCases
unfolding AskCases Asked words ask_number half_ticks_left extremes_half_ticks left waves_in asked places fits size next front gaps_at gap_at no_gap outside signed with_some extremes largest smallest larger smaller half_gap between
ask_cases = ((refl, refl), (refl, refl), (refl, refl))

pub ticks_cases : TicksCases
unfolding TicksCases words held ticks_left extremes_ticks left waves_in asked places fits size next front gaps_at gap_at no_gap outside signed with_some extremes largest smallest larger smaller half_gap between half to_bits round
ticks_cases = (refl, refl)
