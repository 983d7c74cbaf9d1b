-- `plan` meets its contract. Assumes nothing.
use mathlib.Core.Path.{◌≡◌, sym, ◌∙◌, subst}
use lib.ListN.{length}
use native.Mathlib.Omega.{arith}
use Rattle.settings.specs.Settings.{step_of}
use Rattle.std.specs.Prelude.{Ok}
use Rattle.settings.proofs.Laws.Refusal.{a_number, passed, refused_with}
use Rattle.settings.proofs.Laws.Settings.{limits}
use Rattle.admission.specs.Call.{Call, call}
use Rattle.admission.specs.Refusal.{row_cause, row_refusal}
use Rattle.admission.proofs.Laws.Accepted.{Accepted, accepted}
use Rattle.row.specs.Row.{pulses, ends_at, planned, written, lettered}
use Rattle.row.specs.Promises.{Filling, RunningEnds}
use Rattle.row.proofs.Laws.Progress.{so_far_over, so_far_within}
use Rattle.row.proofs.Promises.{planned_refused, written_refused, lettered_refused, running_ends}
use Rattle.row.proofs.plan.Goals.{Start, In_ok-check}
use Rattle.row.proofs.plan.Goals as goal

abbrev lent : Start → Call
lent s = call s.args.marks.now s.args.drifts.now s.args.phases.now s.args.links.now (length s.args.times.now) (length s.args.letters.now)

-- a row that is not turned away
module _ (s : Start) (passed : row_refusal s.args.settings s.args.before.now (lent s) ≡ 0) where
  ok : Accepted s.args.settings s.args.before.now (lent s)
  ok = accepted s.args.settings s.args.before.now (lent s) passed

  room : length s.args.times.now ≡ s.args.settings.width
  unfolding call
  room = ok.lengths.room

  letter_room : length s.args.letters.now ≡ s.args.settings.width
  unfolding call
  letter_room = ok.lengths.letters

  -- the same by the settings' width
  abbrev sized : Call
  sized = call s.args.marks.now s.args.drifts.now s.args.phases.now s.args.links.now s.args.settings.width s.args.settings.width

  same_call : lent s ≡ sized
  same_call = rw (room, letter_room)

  passed_sized : row_refusal s.args.settings s.args.before.now sized ≡ 0
  passed_sized = subst (λ (x : Call). row_refusal s.args.settings s.args.before.now x ≡ 0) same_call passed

  -- an accepted row is filled, from its first tile to its last
  filling : Filling s.args.settings s.args.before.now sized (pulses s.args.times.now s.args.letters.now)
  unfolding RunningEnds
  filling = running_ends s.args.settings s.args.before.now sized (pulses s.args.times.now s.args.letters.now) passed_sized room letter_room

pub returns-in_err-check : goal.returns-in_err-check
unfolding row_refusal
returns-in_err-check c = let s = (goal.at.returns-in_err-check c).Start in
    let answered = sym c.in_err-check.ensures in
    let away = a_number (row_cause c.args.settings c.args.before.now (lent s)) _ (refused_with _ (tt {0}) answered) in
    record {
      answer = planned_refused c.args.settings c.args.before.now (lent s) c.from_residual.result c.from_residual.ensures.1 answered;
      row = sym (written_refused c.args.settings c.args.before.now (lent s) c.args.times.now away);
      letters = sym (lettered_refused c.args.settings c.args.before.now (lent s) c.args.letters.now away);
    }

-- the check is passed
accepted_at : (c : In_ok-check) → row_refusal c.args.settings c.args.before.now (call c.args.marks.now c.args.drifts.now c.args.phases.now c.args.links.now (length c.args.times.now) (length c.args.letters.now)) ≡ 0
unfolding row_refusal
accepted_at c = passed _ (tt {0}) (sym c.in_ok-check.ensures)

pub step-step-requires : goal.step-step-requires
step-step-requires c = let s = (goal.at.step-step-requires c).Start in
    let k = limits c.args.settings (ok s (accepted_at (goal.at.step-step-requires c).In_ok-check)).settings in
    (k.unit.1, k.drift)

pub loop-done-init : goal.loop-done-init
loop-done-init c = let s = (goal.at.loop-done-init c).Start in
    rw c.none-done.ensures (filling s (accepted_at (goal.at.loop-done-init c).In_ok-check)).first

pub further-done-requires : goal.further-done-requires
unfolding step_of
further-done-requires c = let s = (goal.at.further-done-requires c).Start in
    let e = accepted_at (goal.at.further-done-requires c).In_ok-check in
    let i = c.loop-done.invariant in
    record {
      width_value = (
        passed_sized s e,
        c.step-step.ensures,
        i.pulses.as_long ∙ room s e,
        i.letters.as_long ∙ letter_room s e,
        omega (arith, c.loop-done-test.true, i.pulses.as_long, room s e),
      );
      so_far = so_far_over i i.pulses.as_long i.letters.as_long;
    }

pub returns : goal.returns
returns c = let s = (goal.at.returns c).Start in
    let a = s.args in
    let e = accepted_at (goal.at.returns c).In_ok-check in
    let i = c.loop-done.invariant in
    let done = c.loop-done.done in
    let w : done.next ≡ a.settings.width = omega (arith, c.loop-done-test.false, i.pulses.as_long, so_far_within i, room s e) in
    let whole = (filling s e).last (pulses c.loop-done.times c.loop-done.letters) done i w in
    let all = subst
    (λ (x : Call).
    (Ok (ends_at done.earliest done.latest) ≡ planned a.settings a.before.now x) × ((c.loop-done.times ≡ written a.settings a.before.now x a.times.now)
    × (c.loop-done.letters ≡ lettered a.settings a.before.now x a.letters.now)))
    (sym (same_call s e))
    (whole.2, (whole.0, whole.1)) in
    record { answer = all.0; row = all.1.0; letters = all.1.1 }
