-- `first_link` meets its contract: each return is a case of the closed form. Assumes nothing.
use mathlib.Core.Path.{sym}
use native.Mathlib.Omega.{arith}
use Rattle.columns.proofs.Laws.Columns.{links_early, links_inner, links_late}
use Rattle.columns.proofs.first_link.Goals as goal

pub returns-then-c-le2 : goal.returns-then-c-le2
returns-then-c-le2 c = sym (links_early c.args.width c.requires.0 c.args.c c.if-c-le2.true)

pub returns-then-c-width : goal.returns-then-c-width
returns-then-c-width c = sym (links_inner c.args.width c.requires.0 c.args.c c.if-c-le2.false c.if-c-width.true)

pub returns : goal.returns
returns c = sym (links_late c.args.width c.requires.0 c.args.c c.if-c-width.false (omega arith))
