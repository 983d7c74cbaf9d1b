-- `Row::any_bad` meets its contract: eight columns are passed at a time. Assumes nothing.
use Rattle.std.proofs.Common.{◌≡◌, ◌+◌, min, false, sym, ◌∙◌, arith}
use Rattle.settings.specs.Refusal.{any_below}
use Rattle.settings.proofs.Laws.AnyBelow.{none_at_zero, none_below_on}
use Rattle.links.specs.Links.{bad_links, NeverBad}
use Rattle.links.specs.Delays.{EightNeverBad}
use Rattle.links.proofs.Laws.Delays.{some_on}
use Rattle.links.proofs.Row.any_bad.Goals.{Joined-else-not-eight_ordinary, else-not-eight_ordinary-via-then-not-eight_ordinary+else-bad_before, else-not-eight_ordinary-via-else-not-eight_ordinary}
use Rattle.links.proofs.Row.any_bad.Goals as goal

-- the eight are passed, or those up to the row's end
passed : (c : Joined-else-not-eight_ordinary) → let a = c.args in any_below (min (c.loop-c.c + 8) a.self.now.width) (bad_links a.self.now.settings a.self.now.marks.now a.self.now.links.now) ≡ false
unfolding EightNeverBad NeverBad
passed c = let a = c.args in
    elim c.else-not-eight_ordinary.branch [
      | else-not-eight_ordinary-via-then-not-eight_ordinary+else-bad_before w ↦ rw (← w.min.ensures) (sym w.bad_before.ensures ∙ w.if-bad_before.false)
      | else-not-eight_ordinary-via-else-not-eight_ordinary w ↦
          none_below_on (bad_links a.self.now.settings a.self.now.marks.now a.self.now.links.now) c.loop-c.c (min (c.loop-c.c + 8) a.self.now.width) c.loop-c.invariant.1
          (λ k i j. c.eight_ordinary.ensures w.if-not-eight_ordinary.false k i (omega arith) a.self.now.marks.now)
    ]

pub loop-c-init : goal.loop-c-init
loop-c-init c = let a = c.args in (omega arith, none_at_zero (bad_links a.self.now.settings a.self.now.marks.now a.self.now.links.now))

pub bad_before-requires : goal.bad_before-requires
bad_before-requires c = (omega (arith, c.min.ensures, c.loop-c.invariant.0), omega (arith, c.min.ensures), c.loop-c.invariant.1)

pub returns-then-bad_before : goal.returns-then-bad_before
returns-then-bad_before c = let a = c.args in
    sym (some_on (bad_links a.self.now.settings a.self.now.marks.now a.self.now.links.now) c.min.result a.self.now.width (omega (arith, c.min.ensures)) (sym c.bad_before.ensures ∙ c.if-bad_before.true))

pub loop-c-preserved : goal.loop-c-preserved
loop-c-preserved c = let eight : min (c.loop-c.c + 8) c.args.self.now.width ≡ c.loop-c.c + 8 = omega arith in
    (omega arith, rw eight at (passed (goal.at.loop-c-preserved c).Joined-else-not-eight_ordinary))

pub returns-else-not-eight_ordinary : goal.returns-else-not-eight_ordinary
returns-else-not-eight_ordinary c = let end : min (c.loop-c.c + 8) c.args.self.now.width ≡ c.args.self.now.width = omega arith in
    sym (rw end at (passed (goal.at.returns-else-not-eight_ordinary c).Joined-else-not-eight_ordinary))

pub returns : goal.returns
returns c = let all : c.loop-c.c ≡ c.args.self.now.width = omega (arith, c.loop-c.invariant.0, c.loop-c-test.false) in
    sym (rw all at c.loop-c.invariant.1)
