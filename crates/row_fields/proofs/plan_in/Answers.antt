-- `plan_in` meets its contract: the tiles' field, then the row operation's answer. Assumes nothing.
use mathlib.Core.Path.{◌≡◌, sym, ◌∙◌}
use Prim.Native.Nat.{◌+◌, ◌*◌, ◌/◌, ◌≤◌}
use lib.ListN.{length, drop}
use native.Mathlib.Omega.{arith}
use Rattle.std.specs.Prelude.{Result}
use Rattle.settings.specs.Refusal.{refused, answer}
use Rattle.settings.specs.declared.refusal.Refusal.{Refusal}
use Rattle.settings.proofs.Laws.Refusal.{a_number, passed, refused_with, handed_on, goes_on}
use Rattle.settings.proofs.Laws.Settings.{limits}
use Rattle.admission.specs.Call.{call}
use Rattle.columns.specs.Marks.{mark_bytes}
use Rattle.fields.specs.Field.{field_cause, field_refusal}
use Rattle.row.specs.Row.{pulses, planned}
use Rattle.contents.specs.Contents.{marks_field, tiles_size, call_in}
use Rattle.contents.proofs.Laws.Contents.{body_length}
use Rattle.row_fields.proofs.Laws.{after_marks, at_tiles, tiles_cause, call_made, tiles_away, worked}
use borrow.Author.Rules.{rules}
use Rattle.row_fields.proofs.plan_in.Goals.{After-plan, In_ok-check, Start}
use Rattle.row_fields.proofs.plan_in.Goals as goal

narrow : (s : Start) → (6 ≤ length s.args.before.now) × (length s.args.before.now ≤ 256)
narrow s = let w = (limits s.args.settings s.requires.plannable.pass).width in
    (omega (arith, w, s.requires.plannable.before_long), omega (arith, w, s.requires.plannable.before_long))

room : (s : Start) → 3 + (length s.args.before.now + 7) / 8 ≤ length s.args.part.now
unfolding mark_bytes
room s = let a = s.args in
    rw s.requires.plannable.before_long (after_marks a.settings a.part.now a.before.now (pulses a.times.now a.letters.now) s.requires.plannable)

-- the row operation was given the call that the fields describe
same_call : (p : After-plan) →
    call p.body-2.result.now p.tiles.new.drifts p.tiles.new.phases p.tiles.new.links (length p.args.times.now) (length p.args.letters.now)
    ≡ call_in p.args.settings.width p.args.part.now
same_call p = let pl = p.requires.plannable in
    call_made (length p.args.before.now) p.args.settings.width pl.before_long p.args.part.now (length p.args.times.now) (length p.args.letters.now) pl.times_long pl.letters_long
    p.body-2.ensures p.body.ensures p.tiles.ensures.drifts p.tiles.ensures.phases p.tiles.ensures.links

pub slice_bounds-rest-count : goal.slice_bounds-rest-count
slice_bounds-rest-count c = room (goal.at.slice_bounds-rest-count c).Start

pub slice_bounds-rest-start : goal.slice_bounds-rest-start
slice_bounds-rest-start c = let h = room (goal.at.slice_bounds-rest-start c).Start in search rules

-- the answer of the tiles' field, as the file has it
tiles_answer : (s : Start) {r : Result Unit Refusal} → let a = s.args in
    r ≡ answer (field_cause 4 (30 * length a.before.now + 16) (at_tiles (length a.before.now) a.settings.width s.requires.plannable.before_long a.part.now)) tt →
    r ≡ answer (field_cause 4 (tiles_size a.settings.width) (drop (marks_field a.settings.width) a.part.now)) tt
tiles_answer s e = let a = s.args in
    rw (← tiles_cause (length a.before.now) a.settings.width s.requires.plannable.before_long a.part.now) e

there : (p : In_ok-check) → let a = p.args in refused (field_cause 4 (tiles_size a.settings.width) (drop (marks_field a.settings.width) a.part.now)) ≡ 0
there p = passed _ (tt {0}) (sym (tiles_answer (goal.at.In_ok-check p).Start p.check.ensures) ∙ p.in_ok-check.was)

pub returns-in_err-check : goal.returns-in_err-check
returns-in_err-check c = let a = c.args in
    let s = (goal.at.returns-in_err-check c).Start in
    let e = sym (tiles_answer s c.check.ensures) ∙ c.in_err-check.was in
    tiles_away a.settings a.part.now a.before.now (pulses a.times.now a.letters.now) c.requires.plannable c.from_residual.result
    (handed_on _ _ tt tt c.from_residual.ensures.1 e) (a_number _ _ (refused_with _ tt e))

pub tiles-requires-clause-le_width : goal.tiles-requires-clause-le_width
unfolding field_refusal
tiles-requires-clause-le_width c = let w = narrow (goal.at.tiles-requires-clause-le_width c).Start in
    let n = length c.args.before.now in
    (w.0, w.1, rw c.body.ensures (body_length 4 (30 * n + 16) _ (passed _ tt (sym c.check.ensures ∙ c.in_ok-check.was))))

pub returns-in_err-plan : goal.returns-in_err-plan
unfolding planned
returns-in_err-plan c = let a = c.args in
    let p = (goal.at.returns-in_err-plan c).After-plan in
    let e = rw (same_call p) at c.plan.ensures.answer in
    worked a.settings a.part.now a.before.now (pulses a.times.now a.letters.now) c.requires.plannable c.plan.new.times c.plan.new.letters
    (rw (same_call p) at c.plan.ensures.row) (rw (same_call p) at c.plan.ensures.letters) c.from_residual-in_err-plan.result
    (handed_on _ _ _ tt c.from_residual-in_err-plan.ensures.1 (sym e ∙ c.in_err-plan.was)) (there (goal.at.returns-in_err-plan c).In_ok-check)

pub returns : goal.returns
unfolding planned
returns c = let a = c.args in
    let p = (goal.at.returns c).After-plan in
    let e = rw (same_call p) at c.plan.ensures.answer in
    worked a.settings a.part.now a.before.now (pulses a.times.now a.letters.now) c.requires.plannable c.plan.new.times c.plan.new.letters
    (rw (same_call p) at c.plan.ensures.row) (rw (same_call p) at c.plan.ensures.letters) _
    (sym (goes_on _ _ tt (sym e ∙ c.in_ok-plan.was))) (there (goal.at.returns c).In_ok-check)
