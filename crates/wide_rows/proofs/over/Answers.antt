-- `over` meets its contract. Assumes nothing.
use mathlib.Core.Path.{sym}
use Rattle.wide.specs.Wide.{wide_at}
use Rattle.wide.proofs.Laws.Seam.{not_over, is_over}
use native.Mathlib.Omega.{arith}
use Rattle.wide_rows.proofs.over.Goals as goal

pub returns-then-half_ticks-limit : goal.returns-then-half_ticks-limit
returns-then-half_ticks-limit c = let a = c.args in sym (not_over a.limit a.left a.right a.«half_ticks» c.if-half_ticks-limit.true)

pub returns : goal.returns
unfolding wide_at
returns c = let a = c.args in sym (is_over a.limit a.left a.right a.«half_ticks» (omega (arith, c.if-half_ticks-limit.false)))
