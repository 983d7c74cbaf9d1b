-- `late_time` meets its contract: each column passed is on time or faulty. Assumes nothing.
use mathlib.Core.Path.{◌≡◌, sym, ◌∙◌}
use mathlib.Core.Bool.{true, false, not, and-false}
use native.Mathlib.Omega.{arith}
use lib.ListN.{length, get_or}
use borrow.Author.Tests.{lt-ltb, le-ltb}
use Rattle.links.specs.Links.{latest_time}
use Rattle.columns.specs.Marks.{marked, mark_bytes}
use Rattle.admission.specs.Refusal.{late_time}
use Rattle.admission.specs.Together.{AllBy}
use Rattle.settings.proofs.Laws.AnyBelow.{some_below, none_at_zero, none_below_more, none_till}
use Rattle.admission.proofs.late_time.Goals.{else-time-gt-LATEST-via-then-time-gt-LATEST+else-not-marked, else-time-gt-LATEST-via-else-time-gt-LATEST}
use Rattle.admission.proofs.late_time.Goals as goal

pub returns-then-all_on_time : goal.returns-then-all_on_time
unfolding late_time AllBy
returns-then-all_on_time c = let a = c.args in
    sym (none_till (late_time a.before.now a.marks.now) (length a.before.now)
    (λ k i. rw (le-ltb latest_time (get_or a.before.now k 0) (c.all_on_time.ensures c.if-all_on_time.true k i)) (and-false (not (marked a.marks.now k)))))

pub loop-c-init : goal.loop-c-init
loop-c-init c = none_at_zero (late_time c.args.before.now c.args.marks.now)

pub marked-requires : goal.marked-requires
unfolding mark_bytes
marked-requires c = omega (arith, c.requires)

pub returns-then-not-marked : goal.returns-then-not-marked
unfolding late_time
returns-then-not-marked c = let a = c.args in
    let k = c.loop-c.c in
    let correct : marked a.marks.now k ≡ false = sym c.marked.ensures ∙ c.if-not-marked.true in
    sym (some_below (late_time a.before.now a.marks.now) (length a.before.now) k (omega arith) (rw (correct, lt-ltb latest_time (get_or a.before.now k 0) c.if-time-gt-LATEST.true)))

pub loop-c-preserved : goal.loop-c-preserved
unfolding late_time
loop-c-preserved c = let a = c.args in
    let k = c.loop-c.c in
    let on_time : late_time a.before.now a.marks.now k ≡ false =
    elim c.else-time-gt-LATEST.branch [
      | else-time-gt-LATEST-via-then-time-gt-LATEST+else-not-marked w ↦ let faulty : marked a.marks.now k ≡ true = sym w.marked.ensures ∙ w.if-not-marked.false in rw faulty
      | else-time-gt-LATEST-via-else-time-gt-LATEST w ↦ rw (le-ltb latest_time (get_or a.before.now k 0) w.if-time-gt-LATEST.false) (and-false (not (marked a.marks.now k)))
    ] in
    none_below_more (late_time a.before.now a.marks.now) k c.loop-c.invariant on_time
