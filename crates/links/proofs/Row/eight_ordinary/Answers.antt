-- `Row::eight_ordinary` meets its contract: eight tiles whose values are delays are never bad. Assumes nothing.
use Rattle.std.proofs.Common.{sym, true≢false, arith}
use Rattle.links.proofs.Laws.Row.{bounds}
use Rattle.links.proofs.Laws.Delays.{eight_never_bad}
use Rattle.links.proofs.Row.eight_ordinary.Goals.{Start}
use Rattle.links.proofs.Row.eight_ordinary.Goals as goal

pub returns-then-c-lt3 : goal.returns-then-c-lt3
returns-then-c-lt3 c = λ e. absurd (true≢false (sym e))

pub all_delays-requires : goal.all_delays-requires
all_delays-requires c = (omega arith, (bounds c.args.self.now).delay, omega (arith, c.args.self.now.linked, c.if-self-c.false))

pub returns : goal.returns
returns c = λ e.
    let a = c.args in
    eight_never_bad a.self.now.settings a.self.now.checked a.self.now.links.now a.c c.if-c-lt3.false (omega (arith, a.self.now.wide, c.if-self-c.false)) (c.all_delays.ensures e)

pub overflow_sub-shortest : goal.overflow_sub-shortest
overflow_sub-shortest c = omega (arith, (bounds c.args.self.now).uncertainty)
