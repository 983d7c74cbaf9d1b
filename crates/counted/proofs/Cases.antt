-- The proofs of what specs/Cases.antt states. Assumes nothing.
use mathlib.Core.Path.{refl}
use Rattle.board.specs.State.{shut as shut_once, shut_many as shut_often}
use Rattle.board.specs.State as board
use Rattle.board.proofs.Cases.{board_computed}
use Rattle.board_runs.specs.Reading.{closes, first_pulse, neighbour_pulses, pulses_after, last_after, run, unless_over, run_from, run_of, at_places}
use Rattle.board_runs.specs.Program.{events_of, all_events}
use Rattle.counted.specs.State.{one_more, raised, counted, started, pulsed, uncounted, closed, closed_many}
use Rattle.counted.specs.Reading.{pulses_of, repeats_of, count_of, counts_in}
use Rattle.counted.specs.Program.{none, hear, shut, shut_many}
use Rattle.counted.specs.Cases.{wall, tile_of, tile, after_each, StartCase, PlaceCases, MostCases, FullCase, WrongCase, OverCases, ReadingCases, brief, chatter, ChatterMet}

-- what a tile with its counts is computed by; the crates above go on from it
unfoldable pub counted_computed : Unit {0}
unfolding board_computed shut_once shut_often board.closed board.closed_many one_more raised counted started pulsed uncounted closed closed_many
counted_computed = tt

unfoldable computed : Unit {0}
unfolding counted_computed wall tile_of tile after_each
computed = tt

pub start_case : StartCase
unfolding computed StartCase
start_case = refl

pub place_cases : PlaceCases
unfolding computed PlaceCases
place_cases = (refl, refl)

pub most_cases : MostCases
unfolding computed MostCases
most_cases = refl

pub full_case : FullCase
unfolding computed FullCase
full_case = refl

pub wrong_case : WrongCase
unfolding computed WrongCase
wrong_case = refl

pub over_cases : OverCases
unfolding computed OverCases
over_cases = (refl, refl, refl)

-- what a reading is computed by
unfoldable read : Unit {0}
unfolding at_places pulses_of repeats_of count_of counts_in
read = tt

pub reading_cases : ReadingCases
unfolding read ReadingCases
reading_cases = (refl, refl)

pub chatter_met : ChatterMet
unfolding computed read ChatterMet chatter brief closes first_pulse neighbour_pulses pulses_after last_after run unless_over run_from run_of events_of all_events
chatter_met = (
  hear 1 _ refl (hear 1 _ refl (shut _ refl (hear 0 _ refl (hear 1 _ refl (hear 0 _ refl (hear 3 _ refl
      (shut_many 40 _ refl (hear 1 _ refl (hear 0 _ refl (hear 3 _ refl none)))))))))),
  refl,
)
