-- What specs/Witness.antt states, from the witness of crate runs. Assumes nothing.
use mathlib.Core.Path.{◌≡◌, refl}
use mathlib.Core.List.{◌∷◌}
use lib.Dec.{lit<, lit≤}
use lib.ListN.{length, take}
use Rattle.settings.specs.Refusal.{first, or_else, answer, outside}
use Rattle.settings.specs.Rounding.{up}
use Rattle.settings.specs.Settings.{settings, drift_cost, settings_tests, settings_cause}
use Rattle.columns.specs.Columns.{are_neighbours, columns_from, neighbours}
use Rattle.runs.specs.Run.{rows, row_at}
use Rattle.runs.specs.Reach.{apart, widest, gap_below, widest_gap, reach_ticks}
use Rattle.runs.specs.Witness.{wall, row_0, first_run, second_run, first_rows, Witnessed, RowsMet}
use Rattle.runs.proofs.Witness.{witnessed, rows_met}
use Rattle.reach.specs.Span.{end_within, first_within, last_within}
use Rattle.reach.specs.Search.{gap_of, outside_wall, range_of, range_within, reach_of, reach_in_row}
use Rattle.reach.specs.Survey.{last_reach, largest_of}
use Rattle.reach.specs.Answers.{gap_B, reached_outside, reached_ticks, reached_first, reached_last, GapIs, ReachedIs}
use Rattle.reach.specs.Promises.{SearchRange, LargestEnough}
use Rattle.reach.specs.Witness.{AnswerMet, SearchRangeMet, LargestEnoughMet}

pub answer_met : AnswerMet
unfolding AnswerMet GapIs gap_B gap_of row_at first_rows widest_gap gap_below widest apart neighbours columns_from are_neighbours wall settings settings_cause settings_tests first or_else answer outside drift_cost up ReachedIs reached_outside reached_ticks reached_first reached_last reach_in_row reach_of range_within range_of outside_wall reach_ticks end_within first_within last_within
answer_met = ((refl, refl), (refl, refl, refl, refl, refl))

all_rows : length (rows wall first_run row_0) ≡ wall.rows
unfolding RowsMet
all_rows = rw rows_met.0 (unfold first_rows wall settings in refl)

pub search_range_met : SearchRangeMet
unfolding SearchRangeMet SearchRange Witnessed RowsMet
search_range_met search_range =
    rw (rows_met.0, rows_met.1) at (search_range wall row_0 first_run second_run 1 3 2 witnessed all_rows (lit< tt) (unfold wall settings in lit≤ tt))

largest : largest_of wall 0 0 (take wall.rows (row_0 ∷ first_rows)) ≡ 105
unfolding wall settings row_0 first_rows largest_of last_reach reach_ticks widest_gap gap_below widest apart neighbours columns_from are_neighbours
largest = refl

pub largest_enough_met : LargestEnoughMet
unfolding LargestEnoughMet LargestEnough Witnessed RowsMet
largest_enough_met largest_enough l c i j =
    rw (rows_met.0, rows_met.1, largest) at (largest_enough wall row_0 first_run second_run 1 3 l c witnessed all_rows (unfold wall settings in i) (unfold wall settings in j))
