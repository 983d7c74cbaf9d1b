-- `plan` meets its contract: the rooms are long enough. Assumes nothing.
use mathlib.Core.Path.{sym, ◌∙◌, ap}
use Prim.Native.Nat.{ℕ, ◌+◌, ◌*◌, ◌≤◌}
use lib.ListN.{length}
use lib.Seq.{length-take-le}
use native.Mathlib.Omega.{arith}
use Rattle.settings.proofs.Laws.Settings.{limits}
use Rattle.row_fields.proofs.plan.Goals.{After-tile_space-phases, Start}
use Rattle.row_fields.proofs.plan.Goals as goal

narrow : (s : Start) → length s.args.before.now ≤ 256
narrow s = omega (arith, (limits s.args.settings s.requires.0.pass).width, s.requires.0.before_long)

-- all three fit in their rooms
drifts_fit : (c : After-tile_space-phases) → length c.args.before.now ≤ length c.tile_space-drifts.result
drifts_fit c = omega (arith, (limits c.args.settings c.requires.0.pass).width, c.requires.0.before_long, c.tile_space-drifts.ensures)

phases_fit : (c : After-tile_space-phases) → length c.args.before.now ≤ length c.tile_space-phases.result
phases_fit c = omega (arith, (limits c.args.settings c.requires.0.pass).width, c.requires.0.before_long, c.tile_space-phases.ensures)

links_fit : (s : Start) → 3 * length s.args.before.now + 2 ≤ length s.args.links.now
links_fit s = omega (arith, narrow s, s.requires.1)

pub slice_bounds-drifts-end : goal.slice_bounds-drifts-end
slice_bounds-drifts-end c = drifts_fit c

pub slice_bounds-plan_in-end : goal.slice_bounds-plan_in-end
slice_bounds-plan_in-end c = sym (length-take-le _ c.tile_space-drifts.result (drifts_fit (goal.at.slice_bounds-plan_in-end c).After-tile_space-phases))

pub slice_bounds-phases-end : goal.slice_bounds-phases-end
slice_bounds-phases-end c = phases_fit (goal.at.slice_bounds-phases-end c).After-tile_space-phases

pub slice_bounds-plan_in-end-2 : goal.slice_bounds-plan_in-end-2
slice_bounds-plan_in-end-2 c = sym (length-take-le _ c.tile_space-phases.result (phases_fit (goal.at.slice_bounds-plan_in-end-2 c).After-tile_space-phases))

pub slice_bounds-plan_in-end-3 : goal.slice_bounds-plan_in-end-3
slice_bounds-plan_in-end-3 c = links_fit (goal.at.slice_bounds-plan_in-end-3 c).Start

pub slice_bounds-plan_in-end-4 : goal.slice_bounds-plan_in-end-4
slice_bounds-plan_in-end-4 c = sym (length-take-le _ c.args.links.now (links_fit (goal.at.slice_bounds-plan_in-end-4 c).Start))

pub plan_in-requires : goal.plan_in-requires
plan_in-requires c = let w = c.requires.0.before_long in record {
  plannable = c.requires.0;
  drifts_len = (
    length-take-le _ c.tile_space-drifts.result (drifts_fit (goal.at.plan_in-requires c).After-tile_space-phases) ∙ w,
    length-take-le _ c.tile_space-phases.result (phases_fit (goal.at.plan_in-requires c).After-tile_space-phases) ∙ w,
    length-take-le _ c.args.links.now (links_fit (goal.at.plan_in-requires c).Start) ∙ ap (λ (n : ℕ). 3 * n + 2) w,
  );
}
