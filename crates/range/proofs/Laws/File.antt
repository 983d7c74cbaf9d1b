-- What is told from a wall on, step by step. Assumes nothing.
use mathlib.Core.Path.{◌≡◌, refl, sym, ap}
use mathlib.Core.List.{List, [], ◌++◌, append-nil}
use Prim.Native.Nat.{ℕ, zero, suc, ◌+◌, ◌-◌, ◌≤◌, ◌<◌}
use lib.ListN.{length, take, drop}
use native.Mathlib.Omega.{arith}
use borrow.Author.Tests.{eq-eqb, ne_eqb, lt-ltb, le-ltb}
use Rattle.std.specs.Prelude.{Option, Some, None, Result, Ok, Err}
use Rattle.settings.specs.Refusal.{number}
use Rattle.settings.specs.declared.Settings.{Settings}
use Rattle.settings.specs.declared.refusal.Refusal.{Refusal}
use Rattle.settings.specs.declared.refusal.Refusal.TheVariants.{GoesOn}
use Rattle.settings.proofs.Laws.Refusal.{none_of}
use Rattle.settings.proofs.Laws.Cases.{by_order, by_equal}
use Rattle.settings.proofs.Laws.Settings.{limits}
use Rattle.reach.specs.Survey.{surveyed_of}
use Rattle.reach.specs.declared.survey.Surveyed.{Surveyed}
use Rattle.lines.specs.Line.{refused_line}
use Rattle.row.specs.Row.{Pulses, pulses, row_of}
use Rattle.fields.specs.Field.{body}
use Rattle.contents.specs.Contents.{start_size, times_in, row_size, marks_in, call_in}
use Rattle.steps.specs.Number.{settings_field_cause, settings_number, start_cause, start_number, row_fields_cause, row_number, row_offset}
use Rattle.steps.specs.Shown.{no_marks}
use Rattle.file.specs.Stands.{Stands}
use Rattle.steps.specs.Step.{Stepped, stepped, away, after_row, step_of}
use Rattle.steps.specs.Take.{refused_at, taken, taken_of}
use Rattle.steps.specs.declared.RefusedAt.{RefusedAt}
use Rattle.stages.specs.Fit.{place, due_size}
use Rattle.stages.specs.declared.Place.{Place}
use Rattle.stages.specs.declared.Wall.{Wall}
use Rattle.stages.specs.declared.Wall.TheVariants.{New, Start, Row, End, Over}
use Rattle.file.proofs.Laws.Part.{marks_part}
use Rattle.file.proofs.Laws.Steps.{part_enough}
use Rattle.steps.proofs.Laws.Taken.{settings_away, settings_goes, start_away, start_goes, row_away, row_goes, end_away, end_goes, by_cause, none_taken, row_taken}
use Rattle.told.specs.Telling.{says}
use Rattle.telling.specs.Telling.{first_marked, survey_says, step_says, taken_says, telling}
use Rattle.range.specs.File.{with_lines, or_told, rows_told, start_told, file_told}
use Rattle.telling.proofs.Laws.Telling.{row_faulty, row_clean}

-- what is told from a wall on; row 0 and the settings don't read the row that is lent
abbrev pub from : (asked : List ℕ) → Wall → (m : ℕ) → (row rest : List ℕ) → List ℕ
from asked New m ts bs = file_told asked m bs
from asked (Start p) m ts bs = start_told p.settings asked p.offset m bs
from asked (Row p) m ts bs = rows_told p.settings asked (p.settings.rows - p.row) p.row p.offset m ts bs
from asked (End p) m ts bs = rows_told p.settings asked zero p.row p.offset m ts bs
from asked Over m ts bs = []

-- after a row comes the next, or the end
after_told : (asked : List ℕ) (s : Settings) (l at m : ℕ) (ts bs : List ℕ) → l ≤ s.rows →
    from asked (after_row s l at) m ts bs ≡ rows_told s asked (s.rows - l) l at m ts bs
unfolding after_row place
after_told asked s l at m ts bs i =
    by_order s.rows l
    (λ j. let none : s.rows - l ≡ 0 = omega (arith, i, j) in rw (le-ltb l s.rows j, none))
    (λ j. rw (lt-ltb l s.rows j))

-- a step is told of the whole rest of the file as of its part
part_says : (asked : List ℕ) (x after : Wall) (m : ℕ) (ts bs : List ℕ) → step_says asked x after m ts (take (due_size x) bs) ≡ step_says asked x after m ts bs
unfolding step_says due_size
part_says asked New after m ts bs = refl
part_says asked (Start p) after m ts bs = refl
part_says asked (Row p) after m ts bs = rw (marks_part p.settings.width bs)
part_says asked (End p) after m ts bs = refl
part_says asked Over after m ts bs = refl

part_taken : (asked : List ℕ) (x : Wall) (m : ℕ) (ts bs : List ℕ) (t : Result Wall RefusedAt) →
    taken_says asked x m ts (take (due_size x) bs) t ≡ taken_says asked x m ts bs t
unfolding taken_says
part_taken asked x m ts bs (Ok after) = part_says asked x after m ts bs
part_taken asked x m ts bs (Err r) = refl

pub part_told : (asked : List ℕ) (x : Wall) (m : ℕ) (ts bs : List ℕ) → telling asked x m ts (take (due_size x) bs) ≡ telling asked x m ts bs
unfolding telling
part_told asked x m ts bs = rw (part_enough x (pulses ts []) bs) (part_taken asked x m ts bs (taken_of (step_of x (pulses ts []) bs)))

-- what a step tells, and what is told from the wall and the row that it leaves
abbrev pub goes_on : (asked : List ℕ) → Wall → (m : ℕ) → (row rest : List ℕ) → List ℕ
goes_on asked x m ts bs =
    let t = telling asked x m ts bs in
    t.text ++ from asked t.wall t.kept (step_of x (pulses ts []) bs).row.times (drop (due_size x) bs)

module _ (asked : List ℕ) where
  -- a step that is turned away
  told_refused : (x : Wall) (m : ℕ) (ts bs : List ℕ) (why : Refusal) (at : ℕ) → step_of x (pulses ts []) bs ≡ away (pulses ts []) why at →
      goes_on asked x m ts bs ≡ refused_line (number why) at
  unfolding telling taken_says
  told_refused x m ts bs why at e =
      let t : telling asked x m ts bs ≡ says Over m (refused_line (number why) at) = rw e (unfold taken_of taken away stepped refused_at in refl) in
      rw t (unfold says in append-nil (refused_line (number why) at))

  -- a step that is taken
  told_taken : (x y : Wall) (m : ℕ) (ts : List ℕ) (row : Pulses) (bs : List ℕ) (xs : List _) → step_of x (pulses ts []) bs ≡ stepped y row xs → taken y xs ≡ Ok y →
      telling asked x m ts bs ≡ step_says asked x y m ts bs
  unfolding telling
  told_taken x y m ts row bs xs e t =
      let answer : taken_of (step_of x (pulses ts []) bs) ≡ Ok y = rw e (unfold taken_of stepped in t) in
      rw answer (unfold taken_says in refl)

  settings_told : (m : ℕ) (ts bs : List ℕ) → from asked New m ts bs ≡ goes_on asked New m ts bs
  unfolding file_told or_told step_of step_says says place due_size settings_number
  settings_told m ts bs =
      by_cause (settings_field_cause bs)
      (λ e. let t = told_taken New _ m ts (pulses ts []) bs [] (settings_goes (pulses ts []) bs e) (none_taken _) in rw (none_of (settings_field_cause bs) e, t))
      (λ why e. rw e (sym (told_refused New m ts bs why 0 (settings_away (pulses ts []) bs e))))

  start_begun : (p : Place) (m : ℕ) (ts bs : List ℕ) → 1 ≤ p.settings.rows → from asked (Start p) m ts bs ≡ goes_on asked (Start p) m ts bs
  unfolding start_told or_told step_of step_says says place due_size start_number stepped
  start_begun p m ts bs i =
      let s = p.settings in
      by_cause (start_cause s bs)
      (λ e. let go = start_goes (pulses ts []) bs s p.offset e in
      let t = told_taken (Start p) _ m ts _ bs [] go (none_taken _) in
      let times : (step_of (Start p) (pulses ts []) bs).row.times ≡ times_in s.width (body (start_size s.width) bs) = ap (λ (o : Stepped). o.row.times) go in
      let all : s.rows - 0 ≡ s.rows = omega arith in
      rw (none_of (start_cause s bs) e, t, times, all))
      (λ why e. rw e (sym (told_refused (Start p) m ts bs why p.offset (start_away (pulses ts []) bs s p.offset e))))

  -- a row without faults, by its survey
  row_surveyed : (p : Place) (after : Wall) (m : ℕ) (v : Result (Option Surveyed) Refusal) (us bs : List ℕ) (rest : ℕ → List ℕ) →
      ((k : ℕ) → from asked after k us bs ≡ rest k) →
      with_lines p.settings asked p.row v rest
      ≡ (survey_says asked p after m v).text ++ from asked (survey_says asked p after m v).wall (survey_says asked p after m v).kept us bs
  unfolding with_lines survey_says says
  row_surveyed p after m (Ok (Some x)) us bs rest h = rw (h x.largest)
  row_surveyed p after m (Ok None) us bs rest h = refl
  row_surveyed p after m (Err why) us bs rest h = refl

  row_begun : (p : Place) (m : ℕ) (ts bs : List ℕ) → p.row < p.settings.rows → from asked (Row p) m ts bs ≡ goes_on asked (Row p) m ts bs
  unfolding rows_told or_told step_of step_says says due_size row_number stepped
  row_begun p m ts bs i =
      let s = p.settings in
      let us = (step_of (Row p) (pulses ts []) bs).row.times in
      let w = s.width in
      let c = first_marked w (marks_in w bs) in
      let more : s.rows - p.row ≡ suc (s.rows - suc p.row) = omega (arith, i) in
      by_cause (row_fields_cause s ts bs)
      (λ e. let go = row_goes (pulses ts []) bs s p.offset p.row e in
      let t = told_taken (Row p) _ m ts _ bs _ go (row_taken _ s p.row (marks_in w bs) (pulses ts [])) in
      let times : us ≡ row_of s ts (call_in w bs) = ap (λ (o : Stepped). o.row.times) go in
      let later : (k : ℕ) → from asked (after_row s (suc p.row) (p.offset + row_size w)) k us (drop (row_size w) bs)
      ≡ rows_told s asked (s.rows - suc p.row) (suc p.row) (p.offset + row_size w) k us (drop (row_size w) bs) =
      λ k. after_told asked s (suc p.row) (p.offset + row_size w) k us (drop (row_size w) bs) (omega (arith, i)) in
      by_order w c
      (λ j. let clean = row_clean asked p (after_row s (suc p.row) (p.offset + row_size w)) m (marks_in w bs) ts c refl j in
      rw (more, none_of (row_fields_cause s ts bs) e, le-ltb c w j, t, clean, ← times)
      (row_surveyed p (after_row s (suc p.row) (p.offset + row_size w)) m (surveyed_of s p.row m ts) us (drop (row_size w) bs) _ later))
      (λ j. let faulty = row_faulty asked p (after_row s (suc p.row) (p.offset + row_size w)) m (marks_in w bs) ts c refl j in
      rw (more, none_of (row_fields_cause s ts bs) e, lt-ltb c w j, t, faulty) (sym (append-nil _))))
      (λ why e. rw (more, e) (sym (told_refused (Row p) m ts bs why (row_offset s p.offset bs) (row_away (pulses ts []) bs s p.offset p.row e))))

  end_begun : (p : Place) (m : ℕ) (ts bs : List ℕ) → from asked (End p) m ts bs ≡ goes_on asked (End p) m ts bs
  unfolding rows_told step_of step_says says
  end_begun p m ts bs =
      let s = p.settings in
      by_equal (length bs) 0
      (λ e. let t = told_taken (End p) _ m ts _ bs _ (end_goes (pulses ts []) bs s p.offset p.row e) (row_taken _ s p.row (no_marks s.width) (pulses ts [])) in
      rw (eq-eqb (length bs) 0 e, t) (sym (append-nil _)))
      (λ k. rw (ne_eqb (length bs) 0 k) (sym (told_refused (End p) m ts bs GoesOn p.offset (end_away (pulses ts []) bs s p.offset p.row k))))

  -- each step of a wall that stands tells its part of the whole
  pub one_step : (x : Wall) (m : ℕ) (ts bs : List ℕ) → Stands x → from asked x m ts bs ≡ goes_on asked x m ts bs
  unfolding Stands
  one_step New m ts bs i = settings_told m ts bs
  one_step (Start p) m ts bs i = start_begun p m ts bs (limits p.settings i.0.pass).rows.0
  one_step (Row p) m ts bs i = row_begun p m ts bs i.1
  one_step (End p) m ts bs i = end_begun p m ts bs
  one_step Over m ts bs i = unfold telling step_of taken_of taken taken_says step_says says stepped due_size in refl
