-- The cases of specs/Cases.antt, computed. Assumes nothing.
use mathlib.Core.Path.{refl}
use Rattle.lines.specs.Line.{numbers_text, line_text}
use Rattle.places.specs.Seams.{seam_left, seam_right}
use Rattle.stages.specs.Fit.{place}
use Rattle.steps.specs.Answer.{shown_then}
use Rattle.steps.specs.Step.{stepped, away, unless, settings_step, row_step, end_step, step_of}
use Rattle.told.specs.Telling.{says}
use Rattle.wide.specs.Wide.{unsigned, half_ticks, wide_at, if_over, if_wide, seam_first, or_then, first_from, row_first}
use Rattle.file.specs.Cases.{faulty_file}
use Rattle.file.proofs.Cases.{showing}
use Rattle.found.specs.Found.{in_row, found, answer_text, wide_text}
use Rattle.found.specs.Finding.{found_then, finding}
use Rattle.found.specs.Cases.{answers, answered, PrintedAnswered, FaultyAnswered, RefusedAnswered, at_row, row_1, EndCases, RefusedCases}

-- the definitions that an answer is computed by
answering : Unit {0}
unfolding showing answers answered wide_text answer_text found in_row row_first first_from or_then seam_first if_wide if_over wide_at half_ticks unsigned seam_left seam_right line_text numbers_text
answering = tt

pub printed_answered : PrintedAnswered
unfolding PrintedAnswered answering
printed_answered = refl

pub faulty_answered : FaultyAnswered
unfolding FaultyAnswered faulty_file answering
faulty_answered = refl

pub refused_answered : RefusedAnswered
unfolding RefusedAnswered faulty_file answering
refused_answered = (refl, refl, refl, refl)

-- and those that a step's answer is
telling : Unit {0}
unfolding answering at_row row_1 place finding found_then says shown_then step_of settings_step row_step end_step stepped away unless
telling = tt

pub end_cases : EndCases
unfolding EndCases telling
end_cases = (refl, refl, refl)

pub refused_cases : RefusedCases
unfolding RefusedCases telling
refused_cases = (refl, refl, refl)
