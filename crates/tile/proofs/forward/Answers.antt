-- `forward` meets its contract: a tile that is not turned away is answered from its own stamps. Assumes nothing.
use mathlib.Core.Path.{sym, ◌∙◌}
use native.Mathlib.Omega.{arith}
use Rattle.settings.proofs.Laws.Refusal.{passed as was_passed, handed_on, accepted as is_answered}
use Rattle.tile.specs.Tile.{own_stamp, tile_cause, tile_refusal, forwarded}
use Rattle.settings.proofs.Laws.Settings.{limits}
use Rattle.rule.proofs.Laws.Stamp.{earliest_by, latest_by}
use Rattle.rule.proofs.Laws.Coded.{code_stamp, forwardable}
use Rattle.tile.proofs.Laws.{Accepted, accepted, place_on_time, stamped}
use Rattle.tile.proofs.forward.Goals.{In_ok-check}
use Rattle.tile.proofs.forward.Goals as goal

passed : (c : In_ok-check) → Accepted c.args.settings c.args.stamps
passed c = accepted _ _ (unfold tile_refusal in was_passed (tile_cause c.args.settings c.args.stamps) tt (sym c.check.ensures ∙ c.in_ok-check.was))

pub returns-in_err-check : goal.returns-in_err-check
unfolding forwarded
returns-in_err-check c = handed_on _ _ tt _ c.from_residual.ensures.1 (sym c.check.ensures ∙ c.in_err-check.was)

pub code-requires : goal.code-requires
code-requires c = (omega arith, place_on_time (passed c).readable 0 (omega arith))

pub least-requires : goal.least-requires
least-requires c = (passed (goal.at.least-requires c).In_ok-check).readable

pub most-requires : goal.most-requires
most-requires c = (passed (goal.at.most-requires c).In_ok-check).readable

pub answered-requires : goal.answered-requires
answered-requires c = let a = passed (goal.at.answered-requires c).In_ok-check in
    let t = stamped a in record {
      settings_value = a.settings;
      forwardable = rw (c.code.ensures, c.least.ensures, c.most.ensures)
          (forwardable (omega arith) (limits _ a.settings) t.heard_enough t.ordered t.own_by (earliest_by t.all_by) (latest_by t.all_by));
    }

pub returns : goal.returns
unfolding forwarded own_stamp
returns c = let t = stamped (passed (goal.at.returns c).In_ok-check) in
    rw (
      c.answered.ensures,
      c.code.ensures,
      c.least.ensures,
      c.most.ensures,
      code_stamp (omega arith) t.own_by,
      code_stamp (omega arith) (earliest_by t.all_by),
      code_stamp (omega arith) (latest_by t.all_by),
    )
    (sym (is_answered (tile_cause c.args.settings c.args.stamps) _ (was_passed _ tt (sym c.check.ensures ∙ c.in_ok-check.was))))
