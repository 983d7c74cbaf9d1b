-- `Row::ordinary` meets its contract: three values that are delays are never bad. Assumes nothing.
use Rattle.std.proofs.Common.{sym, ◌∙◌, true≢false, arith}
use borrow.Author.Tests.{not-true}
use Rattle.links.proofs.Laws.Ordinary.{never_bad}
use Rattle.links.proofs.Laws.Row.{bounds}
use Rattle.links.proofs.Row.ordinary.Goals as goal

pub returns-then-c-lt3 : goal.returns-then-c-lt3
returns-then-c-lt3 c = λ e. absurd (true≢false (sym e))

pub returns : goal.returns
returns c = λ e.
    let r = c.args.self.now in
    never_bad r.settings r.checked r.links.now c.args.c (omega arith) (omega (arith, r.wide))
    (sym c.no_delay.ensures ∙ c.if-no_delay.false)
    (sym c.no_delay-2.ensures ∙ c.if-no_delay-2.false)
    (sym c.no_delay-3.ensures ∙ not-true c.no_delay-3.result e)

pub overflow_sub-self : goal.overflow_sub-self
overflow_sub-self c = omega (arith, (bounds c.args.self.now).wide)
