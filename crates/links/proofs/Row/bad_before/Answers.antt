-- `Row::bad_before` meets its contract: each column passed is ordinary or is looked at. Assumes nothing.
use Rattle.std.proofs.Common.{◌≡◌, false, sym, ◌∙◌, arith}
use Rattle.links.specs.Links.{bad_links, NeverBad}
use Rattle.settings.proofs.Laws.AnyBelow.{some_below, none_below_more}
use Rattle.links.proofs.Row.bad_before.Goals.{else-not-ordinary-via-then-not-ordinary+else-bad_links, else-not-ordinary-via-else-not-ordinary}
use Rattle.links.proofs.Row.bad_before.Goals as goal

pub loop-c-init : goal.loop-c-init
loop-c-init c = c.requires.2

pub returns-then-bad_links : goal.returns-then-bad_links
returns-then-bad_links c = let a = c.args in
    sym (some_below (bad_links a.self.now.settings a.self.now.marks.now a.self.now.links.now) a.end c.loop-c.c c.loop-c-test.true (sym c.bad_links.ensures ∙ c.if-bad_links.true))

pub loop-c-preserved : goal.loop-c-preserved
unfolding NeverBad
loop-c-preserved c = let a = c.args in
    let none : bad_links a.self.now.settings a.self.now.marks.now a.self.now.links.now c.loop-c.c ≡ false =
    elim c.else-not-ordinary.branch [
      | else-not-ordinary-via-then-not-ordinary+else-bad_links w ↦ sym w.bad_links.ensures ∙ w.if-bad_links.false
      | else-not-ordinary-via-else-not-ordinary w ↦ c.ordinary.ensures w.if-not-ordinary.false a.self.now.marks.now
    ] in
    none_below_more (bad_links a.self.now.settings a.self.now.marks.now a.self.now.links.now) c.loop-c.c c.loop-c.invariant none

pub returns : goal.returns
returns c = let all : c.loop-c.c ≡ c.args.end = omega (arith, c.requires.0, c.loop-c.auto.c-end, c.loop-c-test.false) in
    sym (rw all at c.loop-c.invariant)
