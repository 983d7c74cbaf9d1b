-- What a step of a wall file tells of the search range. Assumes nothing.
use Rattle.std.specs.Prelude.{cond, List, [], ◌∷◌, ℕ, zero, suc, ltb, Option, Some, None, Result, Ok, Err}
use Rattle.settings.specs.Refusal.{number}
use Rattle.settings.specs.declared.refusal.Refusal.{Refusal}
use Rattle.columns.specs.Marks.{marked}
use Rattle.reach.specs.Survey.{surveyed_of}
use Rattle.reach.specs.declared.survey.Surveyed.{Surveyed}
use Rattle.lines.specs.Line.{refused_line, line_text}
use Rattle.row.specs.Row.{pulses}
use Rattle.contents.specs.Contents.{marks_in}
use Rattle.steps.specs.Step.{step_of}
use Rattle.steps.specs.Take.{taken_of}
use Rattle.steps.specs.declared.RefusedAt.{RefusedAt}
use Rattle.stages.specs.declared.Place.{Place}
use Rattle.stages.specs.declared.Wall.{Wall}
use Rattle.stages.specs.declared.Wall.TheVariants.{New, Start, Row, End, Over}
use Rattle.told.specs.Telling.{Telling, says}
use Rattle.search_lines.specs.Text.{faulty_word, largest_text, gap_text}

-- §15.4 the lowest marked column of the n from c on, or the one behind them
unfoldable pub first_in : (n c : ℕ) → (marks : List ℕ) → ℕ
first_in zero c ms = c
first_in (suc n) c ms = cond (marked ms c) c (first_in n (suc c) ms)

-- §15.4 the lowest marked column of a row, or W
unfoldable pub first_marked : (w : ℕ) → (marks : List ℕ) → ℕ
first_marked w ms = first_in w 0 ms

-- §15.4 a row without faults: its lines. No row of a wall file is turned away (`RowSurveyed`).
unfoldable pub survey_says : (asked : List ℕ) → Place → (after : Wall) → (largest : ℕ) → Result (Option Surveyed) Refusal → Telling
survey_says asked p after m (Ok (Some x)) = says after x.largest (gap_text p.settings x.gap p.row asked)
survey_says asked p after m (Ok None) = says Over m []
survey_says asked p after m (Err why) = says Over m []

-- §15.4 a faulty tile ends the search
unfoldable pub row_says : (asked : List ℕ) → Place → (after : Wall) → (largest : ℕ) → (marks row : List ℕ) → Telling
row_says asked p after m ms ts =
    let w = p.settings.width in
    cond (ltb (first_marked w ms) w) (says Over m (line_text faulty_word (p.row ∷ first_marked w ms ∷ [])))
    (survey_says asked p after m (surveyed_of p.settings p.row m ts))

-- §15.4 a step that is taken, by its wall: the marks of row l come with row l + 1, and the largest with the end of the file
unfoldable pub step_says : (asked : List ℕ) → Wall → (after : Wall) → (largest : ℕ) → (row part : List ℕ) → Telling
step_says asked New after m ts bs = says after m []
step_says asked (Start p) after m ts bs = says after m []
step_says asked (Row p) after m ts bs = row_says asked p after m (marks_in p.settings.width bs) ts
step_says asked (End p) after m ts bs = says after m (largest_text m)
step_says asked Over after m ts bs = says after m []

-- §15.4 the refusal, which ends the file, or what a part that is taken lets be told
unfoldable pub taken_says : (asked : List ℕ) → Wall → (largest : ℕ) → (row part : List ℕ) → Result Wall RefusedAt → Telling
taken_says asked x m ts bs (Ok after) = step_says asked x after m ts bs
taken_says asked x m ts bs (Err r) = says Over m (refused_line (number r.refusal) r.offset)

-- §15.4 what a step tells; the letters of the row tell nothing
unfoldable pub telling : (asked : List ℕ) → Wall → (largest : ℕ) → (row part : List ℕ) → Telling
telling asked x m ts bs = taken_says asked x m ts bs (taken_of (step_of x (pulses ts []) bs))
