-- `row_step::row` meets its contract. Assumes nothing.
use mathlib.Core.Path.{◌≡◌, sym, ◌∙◌, ap}
use Prim.Native.Nat.{ℕ, suc, ◌+◌, ◌/◌, ◌≤◌}
use lib.ListN.{length, drop}
use native.Mathlib.Numerals.{add-one}
use native.Mathlib.Omega.{arith}
use borrow.Author.Rules.{rules}
use Rattle.std.specs.Prelude.{Option, Some, None, Result, Ok, Err}
use Rattle.settings.specs.Refusal.{or_else}
use Rattle.settings.specs.declared.refusal.Refusal.{Refusal}
use Rattle.settings.proofs.Laws.Refusal.{no_number}
use Rattle.settings.proofs.Laws.Settings.{limits}
use Rattle.columns.specs.Marks.{mark_bytes}
use Rattle.fields.specs.Field.{field_cause, field_refusal}
use Rattle.admission.specs.Refusal.{row_cause}
use Rattle.contents.specs.Contents.{marks_field, tiles_size, row_size, marks_in, call_in}
use Rattle.row.specs.Row.{Pulses, pulses}
use Rattle.stages.specs.declared.Wall.{Wall}
use Rattle.steps.specs.declared.RefusedAt.{RefusedAt}
use Rattle.steps.specs.Number.{row_fields_cause, row_number}
use Rattle.steps.specs.Step.{Stepped, away, row_step, after_row}
use Rattle.steps.specs.Take.{refused_at, taken_of, row_left}
use Rattle.contents.proofs.Laws.Contents.{row_small}
use Rattle.row_fields.proofs.Laws.{worked_away, worked_row}
use Rattle.stages.proofs.Laws.{Fit, fit_of}
use Rattle.steps.proofs.Laws.Taken.{row_away, row_goes, offset_of_marks, offset_of_row, taken_away, taken_on, left_away, left_on, no_number as shown_no_number, row_taken}
use Rattle.steps.proofs.Laws.Handed.{at_offset, given_offset, away_at, on_at, first_is, second_is, answer_away, answer_on}
use Rattle.steps.proofs.row_step.row.Goals.{After-map_err, After-map_err-2, In_ok-map_err, In_ok-map_err-2, Start}
use Rattle.steps.proofs.row_step.row.Goals as goal

fit : (s : Start) → Fit s.args.place (length s.args.row.now)
fit s = fit_of s.args.place (length s.args.row.now) s.requires.0

-- the row that the step is from, and the rows that are lent to be written
abbrev from : Start → Pulses
from s = pulses s.args.row.now s.args.letters.now

abbrev held : Start → Pulses
held s = pulses s.args.next.now s.args.letters.now

narrow : (s : Start) → length s.args.row.now ≤ 256
narrow s = omega (arith, (fit s).long, (limits s.args.place.settings (fit s).pass).width)

-- why the marks' field is turned away, and why the rest is
abbrev marks : Start → Option Refusal
marks s = field_cause 3 (mark_bytes s.args.place.settings.width) s.args.part.now

abbrev rest : Start → Option Refusal
rest s = let a = s.args in
    let w = a.place.settings.width in
    or_else (field_cause 4 (tiles_size w) (drop (marks_field w) a.part.now)) (row_cause a.place.settings a.row.now (call_in w a.part.now))

-- what is made of the answers of both
marks_made : (c : After-map_err) → c.map_err.result ≡ at_offset (marks (goal.at.After-map_err c).Start) c.args.place.offset (tt {0})
unfolding refused_at mark_bytes
marks_made c =
    given_offset _ _ c.args.place.offset c.map_err.result _ (λ e d k. search rules)
    (c.check.ensures ∙ rw (fit (goal.at.After-map_err c).Start).long) c.map_err.ensures.cases

rest_made : (c : After-map_err-2) → c.map_err-2.result ≡ at_offset (rest (goal.at.After-map_err-2 c).Start) (c.args.place.offset + (3 + (length c.args.row.now + 7) / 8)) (tt {0})
unfolding refused_at
rest_made c = given_offset _ _ _ c.map_err-2.result _ (λ e d k. search rules) c.plan.ensures.answered c.map_err-2.ensures.cases

-- the marks are there
there : (c : In_ok-map_err) → marks (goal.at.In_ok-map_err c).Start ≡ None
there c = (on_at _ _ c.args.place.offset c.in_ok-map_err.was (marks_made (goal.at.In_ok-map_err c).After-map_err)).0

-- the step, where either is turned away
abbrev step : Start → Stepped
step s = let a = s.args in row_step a.place.settings a.place.row a.place.offset (from s) a.part.now

at_marks : (s : Start) {why : Refusal} → marks s ≡ Some why → step s ≡ away (from s) why s.args.place.offset
unfolding row_fields_cause
at_marks s {why} e = let a = s.args in
    row_away (from s) a.part.now a.place.settings a.place.offset a.place.row (first_is (marks s) (rest s) e)
    ∙ ap (λ (n : ℕ). away (from s) why n) (offset_of_marks a.place.settings a.part.now a.place.offset e)

at_tiles : (s : Start) {why : Refusal} → marks s ≡ None → rest s ≡ Some why → step s ≡ away (from s) why (s.args.place.offset + (3 + (length s.args.row.now + 7) / 8))
unfolding row_fields_cause marks_field mark_bytes field_refusal
at_tiles s {why} e f = let a = s.args in
    row_away (from s) a.part.now a.place.settings a.place.offset a.place.row (second_is (marks s) (rest s) e ∙ f)
    ∙ ap (λ (n : ℕ). away (from s) why n) (offset_of_row a.place.settings a.part.now a.place.offset (no_number _ e))
    ∙ rw (fit s).long

accepted : (s : Start) → marks s ≡ None → rest s ≡ None → row_number s.args.place.settings s.args.row.now s.args.part.now ≡ 0
unfolding row_number row_fields_cause
accepted s e f = no_number _ (second_is (marks s) (rest s) e ∙ f)

pub returns-in_err-map_err-clause-taken : goal.returns-in_err-map_err-clause-taken
returns-in_err-map_err-clause-taken c = let s = (goal.at.returns-in_err-map_err-clause-taken c).Start in
    let k = away_at (marks s) _ c.args.place.offset c.from_residual.result c.from_residual.ensures.1 c.in_err-map_err.was
    (marks_made (goal.at.returns-in_err-map_err-clause-taken c).After-map_err) in
    k.2 ∙ sym (ap taken_of (at_marks s k.1) ∙ taken_away (from s) (from s) k.0 _)

pub returns-in_err-map_err-clause-row : goal.returns-in_err-map_err-clause-row
returns-in_err-map_err-clause-row c = let s = (goal.at.returns-in_err-map_err-clause-row c).Start in
    let k = away_at (marks s) _ c.args.place.offset c.from_residual.result c.from_residual.ensures.1 c.in_err-map_err.was
    (marks_made (goal.at.returns-in_err-map_err-clause-row c).After-map_err) in
    sym (ap (λ (o : Stepped). row_left o (held s)) (at_marks s k.1) ∙ left_away (from s) (held s) k.0 _)

pub overflow_add-offset-2 : goal.overflow_add-offset-2
overflow_add-offset-2 c = let s = (goal.at.overflow_add-offset-2 c).Start in omega (arith, (fit s).offset, narrow s)

pub plan-requires : goal.plan-requires
unfolding field_refusal
plan-requires c = let s = (goal.at.plan-requires c).Start in
    (record { pass = (fit s).pass; marks_there = no_number _ (there (goal.at.plan-requires c).In_ok-map_err); before_long = (fit s).long; times_long = (fit_of _ _ c.requires.1).long; letters_long = (fit_of _ _ c.requires.2).long }, c.requires.3)

pub returns-in_err-map_err-2-clause-taken : goal.returns-in_err-map_err-2-clause-taken
returns-in_err-map_err-2-clause-taken c = let s = (goal.at.returns-in_err-map_err-2-clause-taken c).Start in
    let k = away_at (rest s) _ _ c.from_residual-in_err-map_err-2.result c.from_residual-in_err-map_err-2.ensures.1 c.in_err-map_err-2.was
    (rest_made (goal.at.returns-in_err-map_err-2-clause-taken c).After-map_err-2) in
    k.2 ∙ sym (ap taken_of (at_tiles s (there (goal.at.returns-in_err-map_err-2-clause-taken c).In_ok-map_err) k.1) ∙ taken_away (from s) (from s) k.0 _)

pub returns-in_err-map_err-2-clause-row : goal.returns-in_err-map_err-2-clause-row
returns-in_err-map_err-2-clause-row c = let s = (goal.at.returns-in_err-map_err-2-clause-row c).Start in
    let k = away_at (rest s) _ _ c.from_residual-in_err-map_err-2.result c.from_residual-in_err-map_err-2.ensures.1 c.in_err-map_err-2.was
    (rest_made (goal.at.returns-in_err-map_err-2-clause-row c).After-map_err-2) in
    let away : c.plan.result ≡ Err k.0 = c.plan.ensures.answered ∙ answer_away (rest s) (tt {0}) k.1 in
    worked_away c.plan.ensures away
    ∙ sym (ap (λ (o : Stepped). row_left o (held s)) (at_tiles s (there (goal.at.returns-in_err-map_err-2-clause-row c).In_ok-map_err) k.1) ∙ left_away (from s) (held s) k.0 _)

pub size-requires : goal.size-requires
size-requires c = narrow (goal.at.size-requires c).Start

pub after-requires : goal.after-requires
after-requires c = let s = (goal.at.after-requires c).Start in
    let k = limits c.args.place.settings (fit s).pass in
    (omega (arith, (fit s).row, k.rows), omega (arith, (fit s).offset, c.size.ensures, row_small (length c.args.row.now) (narrow s)))

-- both are accepted
both : (c : In_ok-map_err-2) → rest (goal.at.In_ok-map_err-2 c).Start ≡ None
both c = (on_at _ _ _ c.in_ok-map_err-2.was (rest_made (goal.at.In_ok-map_err-2 c).After-map_err-2)).0

abbrev goes_on : Wall → Result Wall RefusedAt
goes_on x = Ok x

pub returns-clause-taken : goal.returns-clause-taken
returns-clause-taken c = let a = c.args in
    let s = (goal.at.returns-clause-taken c).Start in
    let k = a.place.settings in
    let e = row_goes (from s) a.part.now k a.place.offset a.place.row
    (accepted s (there (goal.at.returns-clause-taken c).In_ok-map_err) (both (goal.at.returns-clause-taken c).In_ok-map_err-2)) in
    let next =
    (rw add-one at c.after.ensures)
    ∙ ap (λ (n : ℕ). after_row k (suc a.place.row) (a.place.offset + n)) (c.size.ensures ∙ ap row_size (fit s).long) in
    ap goes_on next ∙ sym (ap taken_of e ∙ taken_on _ (held s) _ _ (row_taken _ k a.place.row (marks_in k.width a.part.now) (from s)))

pub returns-clause-row : goal.returns-clause-row
returns-clause-row c = let a = c.args in
    let s = (goal.at.returns-clause-row c).Start in
    let k = a.place.settings in
    let f = both (goal.at.returns-clause-row c).In_ok-map_err-2 in
    let e = row_goes (from s) a.part.now k a.place.offset a.place.row (accepted s (there (goal.at.returns-clause-row c).In_ok-map_err) f) in
    let n = shown_no_number k a.place.row (marks_in k.width a.part.now) (from s) in
    let on : c.plan.result ≡ Ok (tt {0}) = c.plan.ensures.answered ∙ answer_on (rest s) (tt {0}) f in
    worked_row c.plan.ensures on
    ∙ sym (ap (λ (o : Stepped). row_left o (held s)) e ∙ left_on _ (held s) _ _ n.0)
