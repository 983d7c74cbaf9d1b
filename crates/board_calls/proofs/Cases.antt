-- The proofs of what specs/Cases.antt states. Assumes nothing.
use mathlib.Core.Path.{refl}
use Rattle.counted.proofs.Cases.{counted_computed}
use Rattle.layout.specs.Words.{settings_from}
use Rattle.board_calls.specs.Words.{stage_in, stage_word, answer_word, senders_in, tile_in, tile_words, fits_in}
use Rattle.board_calls.specs.Answers.{unless_refused, start_number, start_left, pulse_number, pulse_left, close_number, close_left, close_answer, many_left, many_answer}
use Rattle.board_calls.specs.Cases.{words, tile, StartCases, Pulsed, PulseCases, Closed, CloseCases}

unfoldable computed : Unit {0}
unfolding counted_computed settings_from stage_in stage_word answer_word senders_in tile_in tile_words fits_in unless_refused start_number start_left pulse_number pulse_left close_number close_left close_answer many_left many_answer words tile Pulsed Closed
computed = tt

pub start_cases : StartCases
unfolding computed StartCases
start_cases = (refl, refl, refl, refl)

pub pulse_cases : PulseCases
unfolding computed PulseCases
pulse_cases = (
  (refl, refl),
  (refl, refl),
  (refl, refl),
  (refl, refl),
  (refl, refl),
  (refl, refl),
  (refl, refl),
  (refl, refl),
  (refl, refl),
)

pub close_cases : CloseCases
unfolding computed CloseCases
close_cases = (
  (refl, refl, refl),
  (refl, refl, refl),
  (refl, refl, refl),
  (refl, refl, refl),
  (refl, refl, refl),
  (refl, refl, refl),
  (refl, refl, refl),
  refl,
  refl,
  refl,
)
