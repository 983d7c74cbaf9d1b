-- `within` meets its contract. Assumes nothing.
use mathlib.Core.Path.{sym, ◌∙◌}
use Prim.Native.Nat.{◌-◌, ◌≤◌}
use native.Mathlib.Omega.{arith}
use Rattle.settings.proofs.Laws.Settings.{limits}
use Rattle.reach.specs.Span.{last_within}
use Rattle.runs.specs.Reach.{reach_ticks}
use Rattle.reach.specs.Search.{range_of, range_within}
use Rattle.reach.proofs.Laws.Search.{Inside, in_wall}
use Rattle.reach.proofs.Laws.Span.{first_small}
use Rattle.reach.proofs.within.Goals.{Else-outside}
use Rattle.reach.proofs.within.Goals as goal

-- the question is about the wall
wall : (c : Else-outside) → let a = c.args in (6 ≤ a.settings.width) × Inside a.settings a.gap a.rows a.column
wall c = let a = c.args in
    ((limits a.settings c.requires).width.0, in_wall a.settings a.gap a.rows a.column (sym c.outside.ensures ∙ c.if-outside.false))

few : (c : Else-outside) → let a = c.args in (2 ≤ a.settings.width) × (a.rows ≤ 1024)
few c = let a = c.args in
    (omega (arith, (wall c).0), omega (arith, (wall c).1.rows, (limits a.settings c.requires).rows))

pub returns-then-outside : goal.returns-then-outside
unfolding range_within
returns-then-outside c = rw (sym c.outside.ensures ∙ c.if-outside.true)

pub overflow_sub-width : goal.overflow_sub-width
overflow_sub-width c = omega (arith, (wall c).0)

pub overflow_sub-width-2 : goal.overflow_sub-width-2
overflow_sub-width-2 c = omega (arith, (wall c).1.column)

pub first-from_end-requires : goal.first-from_end-requires
first-from_end-requires c = few c

pub overflow_mul-ticks : goal.overflow_mul-ticks
overflow_mul-ticks c = omega (arith, (wall (goal.at.overflow_mul-ticks c).Else-outside).1.gap)

pub overflow_mul-ticks-2 : goal.overflow_mul-ticks-2
overflow_mul-ticks-2 c = omega (arith, (limits c.args.settings c.requires).unit)

pub overflow_add-ticks : goal.overflow_add-ticks
overflow_add-ticks c = omega (arith, (wall (goal.at.overflow_add-ticks c).Else-outside).1.gap, (limits c.args.settings c.requires).unit)

pub overflow_sub-ticks : goal.overflow_sub-ticks
overflow_sub-ticks c = omega (arith, (wall (goal.at.overflow_sub-ticks c).Else-outside).1.some)

pub overflow_add-ticks-2 : goal.overflow_add-ticks-2
overflow_add-ticks-2 c = omega (arith, (few (goal.at.overflow_add-ticks-2 c).Else-outside).1, (wall (goal.at.overflow_add-ticks-2 c).Else-outside).1.gap, (limits c.args.settings c.requires).unit)

pub first-requires : goal.first-requires
first-requires c = few (goal.at.first-requires c).Else-outside

pub overflow_sub-result : goal.overflow_sub-result
overflow_sub-result c = omega (arith, (wall (goal.at.overflow_sub-result c).Else-outside).0)

pub overflow_sub-result-2 : goal.overflow_sub-result-2
overflow_sub-result-2 c = let a = c.args in
    omega (arith, c.first-from_end.ensures, first_small a.settings.width (a.settings.width - 1 - a.column) a.rows)

pub returns : goal.returns
unfolding range_within range_of reach_ticks last_within
returns c = rw (sym c.outside.ensures ∙ c.if-outside.false, c.first.ensures, c.first-from_end.ensures)
