-- The statements of specs/Cases.antt, computed. Assumes nothing.
use mathlib.Core.Path.{refl}
use Rattle.settings.specs.Refusal.{or_else, answer, any_below}
use Rattle.rule.specs.Signed.{natural}
use Rattle.settings.proofs.Cases.{settings_computed}
use Rattle.rule.proofs.Cases.{rule_computed}
use Rattle.tile.specs.Tile.{silent_at, reading_at, stamp_from, stamp_at, neighbour_places, own_stamp, neighbour_stamps, late_from, late_at, count_silent, silences, stamp_tests, tile_tests, tile_cause, tile_refusal, answered, forwarded}
use Rattle.tile.specs.Cases.{reading_in, marked_in, stamps, wall, ◌is◌, CountLimits, LateLimits, SilenceLimits, TileOrder, corrected, uncorrected, AnswerCases, EndCases}

-- what a number is computed by, and an answer
unfoldable numbers : Unit {0}
unfolding settings_computed wall stamps reading_in marked_in tile_refusal tile_cause or_else tile_tests stamp_tests any_below late_at late_from silent_at reading_at silences count_silent
numbers = tt

unfoldable answers : Unit {0}
unfolding numbers rule_computed forwarded answered answer own_stamp neighbour_stamps neighbour_places stamp_at stamp_from natural
answers = tt

pub count_limits : CountLimits
unfolding numbers ◌is◌ CountLimits
count_limits = (refl, refl, refl, refl, refl)

pub late_limits : LateLimits
unfolding numbers ◌is◌ LateLimits
late_limits = (refl, refl, refl, refl, refl, refl, refl, refl, refl, refl, refl, refl, refl, refl, refl, refl, refl)

pub silence_limits : SilenceLimits
unfolding numbers ◌is◌ SilenceLimits
silence_limits = (refl, refl, refl, refl, refl, refl, refl, refl, refl, refl, refl)

pub tile_order : TileOrder
unfolding numbers ◌is◌ TileOrder
tile_order = (refl, refl, refl, refl, refl, refl, refl, refl)

pub answer_cases : AnswerCases
unfolding answers corrected uncorrected AnswerCases
answer_cases = (refl, refl, refl, refl, refl, refl, refl, refl, refl, refl, refl)

pub end_cases : EndCases
unfolding answers corrected uncorrected EndCases
end_cases = (refl, refl, refl, refl)
