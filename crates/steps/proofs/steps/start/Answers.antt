-- `steps::start` meets its contract. Assumes nothing.
use mathlib.Core.Path.{◌≡◌, refl, sym, ◌∙◌, ap}
use mathlib.Core.List.{List, []}
use Prim.Native.Nat.{ℕ, ◌*◌, ◌≤◌}
use lib.ListN.{length}
use native.Mathlib.Omega.{arith}
use borrow.Author.Rules.{rules}
use Rattle.settings.proofs.Laws.Refusal.{no_number, unhit_given}
use Rattle.settings.proofs.Laws.Settings.{limits}
use Rattle.fields.specs.Field.{field_refusal}
use Rattle.row.specs.Row.{pulses}
use Rattle.steps.specs.Number.{start_cause, start_number}
use Rattle.steps.specs.Shown.{number_shown}
use Rattle.steps.specs.Step.{Stepped}
use Rattle.stages.specs.Fit.{place}
use Rattle.steps.specs.Take.{refused_at, taken_of, row_left}
use Rattle.contents.proofs.Laws.Contents.{body_length}
use Rattle.stages.proofs.Laws.{Fit, fit_of}
use Rattle.steps.proofs.Laws.Taken.{start_away, start_goes, taken_away, taken_on, none_taken, left_away, left_on}
use Rattle.steps.proofs.Laws.Handed.{at_offset, given_offset, away_at, on_at}
use Rattle.steps.proofs.steps.start.Goals.{After-map_err, In_ok-map_err, Start}
use Rattle.steps.proofs.steps.start.Goals as goal

-- what fits
fit : (s : Start) → Fit s.args.place (length s.args.next.now)
fit s = fit_of s.args.place (length s.args.next.now) s.requires

narrow : (s : Start) → (length s.args.next.now ≤ 256) × (s.args.place.settings.width ≤ 256)
narrow s = let w = (limits s.args.place.settings (fit s).pass).width in (omega (arith, w, (fit s).long), w.1)

-- what is made of row 0's check
made : (c : After-map_err) → let a = c.args in c.map_err.result ≡ at_offset (start_cause a.place.settings a.part.now) a.place.offset (tt {0})
unfolding refused_at
made c = given_offset _ _ c.args.place.offset c.map_err.result _ (λ e d k. search rules) c.check_start.ensures c.map_err.ensures.cases

-- row 0 is accepted, and its field is there
accepted : (c : In_ok-map_err) → start_number c.args.place.settings c.args.part.now ≡ 0
unfolding start_number
accepted c = no_number _ (on_at (start_cause c.args.place.settings c.args.part.now) _ c.args.place.offset c.in_ok-map_err.was (made (goal.at.In_ok-map_err c).After-map_err)).0

there : (c : In_ok-map_err) → field_refusal 2 (8 * length c.args.next.now) c.args.part.now ≡ 0
unfolding start_number start_cause field_refusal
there c = rw (fit_of _ _ c.requires).long (unhit_given _ _ (accepted c)).0

pub check_start-requires : goal.check_start-requires
check_start-requires c = (narrow (goal.at.check_start-requires c).Start).1

pub returns-in_err-map_err-clause-taken : goal.returns-in_err-map_err-clause-taken
returns-in_err-map_err-clause-taken c row = let a = c.args in
    let k = away_at (start_cause a.place.settings a.part.now) _ a.place.offset c.from_residual.result c.from_residual.ensures.1 c.in_err-map_err.was
    (made (goal.at.returns-in_err-map_err-clause-taken c).After-map_err) in
    k.2 ∙ sym (ap taken_of (start_away row a.part.now a.place.settings a.place.offset k.1) ∙ taken_away row row k.0 a.place.offset)

pub returns-in_err-map_err-clause-row : goal.returns-in_err-map_err-clause-row
returns-in_err-map_err-clause-row c row = let a = c.args in
    let held = pulses a.next.now row.letters in
    let k = away_at (start_cause a.place.settings a.part.now) _ a.place.offset c.from_residual.result c.from_residual.ensures.1 c.in_err-map_err.was
    (made (goal.at.returns-in_err-map_err-clause-row c).After-map_err) in
    sym (ap (λ (o : Stepped). row_left o held) (start_away row a.part.now a.place.settings a.place.offset k.1) ∙ left_away row held k.0 a.place.offset)

pub times-requires : goal.times-requires
times-requires c = let w = narrow (goal.at.times-requires c).Start in (
  w.0,
  rw c.body.ensures (body_length 2 (8 * length c.args.next.now) c.args.part.now (there (goal.at.times-requires c).In_ok-map_err)),
)

pub overflow_add-result-2 : goal.overflow_add-result-2
overflow_add-result-2 c = let s = (goal.at.overflow_add-result-2 c).Start in omega (arith, narrow s, (fit s).offset)

pub returns-clause-taken : goal.returns-clause-taken
unfolding place
returns-clause-taken c row = let a = c.args in
    let w = (fit (goal.at.returns-clause-taken c).Start).long in
    rw w (sym (ap taken_of (start_goes row a.part.now a.place.settings a.place.offset (accepted (goal.at.returns-clause-taken c).In_ok-map_err)) ∙ taken_on _ row _ [] (none_taken _)))

pub returns-clause-row : goal.returns-clause-row
unfolding number_shown
returns-clause-row c row = let a = c.args in
    let w = (fit (goal.at.returns-clause-row c).Start).long in
    let held = pulses a.next.now row.letters in
    ap (λ (ts : List ℕ). pulses ts row.letters) (rw (← w, ← c.body.ensures) c.times.ensures)
    ∙ sym (ap (λ (o : Stepped). row_left o held) (start_goes row a.part.now a.place.settings a.place.offset (accepted (goal.at.returns-clause-row c).In_ok-map_err)) ∙ left_on _ held _ [] refl)
