-- `seam_first` meets its contract. Assumes nothing.
use mathlib.Core.Path.{◌≡◌, sym, ◌∙◌, ap}
use Prim.Native.Nat.{◌-◌}
use lib.ListN.{get_or}
use native.Mathlib.Omega.{arith}
use Rattle.std.specs.Prelude.{Ok}
use Rattle.std.proofs.lemmas.Result.{err_from_is_err_and}
use Rattle.columns.specs.Marks.{mark_bytes}
use Rattle.wide.specs.Wide.{half_ticks, if_over, if_wide, seam_first}
use Rattle.wide.proofs.Laws.Seam.{half_ticks_is, narrow_none}
use Rattle.wide_rows.proofs.seam_first.Goals as goal

pub returns-then-narrow : goal.returns-then-narrow
unfolding seam_first
returns-then-narrow c = let a = c.args in
    sym (narrow_none a.limit (get_or a.times.now a.a 0) (get_or a.times.now a.b 0) _ _ _ _ (sym c.narrow.ensures ∙ c.if-narrow.true))

pub marked-left_faulty-requires : goal.marked-left_faulty-requires
unfolding mark_bytes
marked-left_faulty-requires c = omega (arith, c.requires.0)

pub marked-right_faulty-requires : goal.marked-right_faulty-requires
unfolding mark_bytes
marked-right_faulty-requires c = omega (arith, c.requires.0)

pub returns-in_err-join : goal.returns-in_err-join
unfolding if_wide seam_first
returns-in_err-join c = let p = err_from_is_err_and c.from_residual.result c.from_residual.ensures.1 in
    rw (p.1, p.2, ← c.marked-left_faulty.ensures, ← c.marked-right_faulty.ensures, ← c.in_err-join.ensures)

-- what is compared is the half gap
pub returns-in-Closed : goal.returns-in-Closed
unfolding if_wide seam_first
returns-in-Closed c = let a = c.args in
    let l = get_or a.times.now a.a 0 in
    let r = get_or a.times.now a.b 0 in
    let size : c.abs_diff-half_ticks.result ≡ half_ticks l r = omega (arith, c.abs_diff-half_ticks.ensures, half_ticks_is l r) in
    rw (← c.marked-left_faulty.ensures, ← c.marked-right_faulty.ensures, ← c.in_ok-join.ensures, c.in-Closed.is) (ap Ok (c.over.ensures ∙ ap (if_over a.limit a.a a.b) size))

pub returns-in-Open : goal.returns-in-Open
unfolding if_wide seam_first
returns-in-Open c = rw (← c.marked-left_faulty.ensures, ← c.marked-right_faulty.ensures, ← c.in_ok-join.ensures, c.in-Open.is)
