-- The file step by step: each step is given the part of the file that is due, and the row that the last one left, its times and its
-- letters. Row 0 has no letters, and the step that takes it leaves those that it is given. Assumes nothing.
use Rattle.std.specs.Prelude.{cond, List, [], ◌∷◌, ◌++◌, ℕ, zero, suc, ◌+◌, eqb, ltb, length, take, drop, Option, Some, None}
use Rattle.settings.specs.declared.Settings.{Settings}
use Rattle.settings.specs.declared.refusal.Refusal.{Refusal}
use Rattle.settings.specs.declared.refusal.Refusal.TheVariants.{GoesOn}
use Rattle.row.specs.Row.{Pulses, pulses, next_pulses}
use Rattle.fields.specs.Field.{body}
use Rattle.contents.specs.Contents.{settings_size, settings_in, start_size, times_in, row_size, marks_in, call_in}
use Rattle.steps.specs.Shown.{Shown, turned_away, row_shown, no_marks}
use Rattle.steps.specs.Number.{settings_field_cause, start_cause, row_fields_cause, row_offset}
use Rattle.stages.specs.declared.Wall.{Wall}
use Rattle.stages.specs.declared.Wall.TheVariants.{New, Start, Row, End, Over}
use Rattle.stages.specs.Fit.{place, due_size}

-- §17.3 what a step leaves: the wall as it then stands, the row, and what is shown
pub record Stepped : Type 0 where
  pub next : Wall
  pub row : Pulses
  pub shows : List Shown

-- §17.3 the same, by its three parts
unfoldable pub stepped : Wall → (row : Pulses) → List Shown → Stepped
stepped x r shows = record { next = x; row = r; shows = shows }

-- §9.8 a refusal, which ends the file and leaves the row
unfoldable pub away : (row : Pulses) → (why : Refusal) → (offset : ℕ) → Stepped
away r why at = stepped Over r (turned_away why at ∷ [])

-- §9.7 the refusal of a part, where there is one, and otherwise the step of one that is accepted
unfoldable pub unless : Option Refusal → (row : Pulses) → (offset : ℕ) → Stepped → Stepped
unless None r at accepted = accepted
unless (Some why) r at accepted = away r why at

-- §9.2 the step that takes tag 1
unfoldable pub settings_step : (row : Pulses) → (part : List ℕ) → Stepped
settings_step r bs =
    unless (settings_field_cause bs) r 0
    (stepped (Start (place (settings_in (body settings_size bs)) 0 (3 + settings_size))) r [])

-- §9.3 the step that takes tag 2: the row is then row 0
unfoldable pub start_step : Settings → (at : ℕ) → (row : Pulses) → (part : List ℕ) → Stepped
start_step s at r bs =
    let size = start_size s.width in
    unless (start_cause s bs) r at
    (stepped (Row (place s 0 (at + (3 + size)))) (pulses (times_in s.width (body size bs)) r.letters) [])

-- §17.3 what is due after row l: the next row, or after the last the end of the file
unfoldable pub after_row : Settings → (l at : ℕ) → Wall
after_row s l at = cond (ltb l s.rows) (Row (place s l at)) (End (place s l at))

-- §9.4 the step that takes tags 3 and 4: the next row is worked out, and the last one shown
unfoldable pub row_step : Settings → (l at : ℕ) → (row : Pulses) → (part : List ℕ) → Stepped
row_step s l at r bs =
    let w = s.width in
    let ts = r.times in
    unless (row_fields_cause s ts bs) r (row_offset s at bs)
    (stepped (after_row s (suc l) (at + row_size w)) (next_pulses s ts (call_in w bs)) (row_shown s l (marks_in w bs) r))

-- §9.6 the step at the file's end: row R is shown, or 44
unfoldable pub end_step : Settings → (l at : ℕ) → (row : Pulses) → (part : List ℕ) → Stepped
end_step s l at r bs =
    cond (eqb (length bs) 0) (stepped Over r (row_shown s l (no_marks s.width) r)) (away r GoesOn at)

-- §17.3 the step that is due
unfoldable pub step_of : Wall → (row : Pulses) → (part : List ℕ) → Stepped
step_of New r bs = settings_step r bs
step_of (Start p) r bs = start_step p.settings p.offset r bs
step_of (Row p) r bs = row_step p.settings p.row p.offset r bs
step_of (End p) r bs = end_step p.settings p.row p.offset r bs
step_of Over r bs = stepped Over r []

-- §17.3 n steps over what is left of the file: each is given the due part, and the next begins after it
unfoldable pub steps_shown : (n : ℕ) → Wall → (row : Pulses) → (rest : List ℕ) → List Shown
steps_shown zero x r bs = []
steps_shown (suc n) x r bs =
    let o = step_of x r (take (due_size x) bs) in
    o.shows ++ steps_shown n o.next o.row (drop (due_size x) bs)
