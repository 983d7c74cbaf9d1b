-- `close_many` meets its contract. Assumes nothing.
use Rattle.std.proofs.Common.{sym, ◌∙◌}
use Rattle.board.specs.State.{at, answered, closed_many}
use Rattle.board.specs.Closing.{jumped}
use Rattle.board.proofs.Laws.State.{Runs, runs_is, many_over}
use Rattle.board.proofs.Laws.Closing.{jumps}
use Rattle.board.proofs.Board.close_many.Goals.{Else-not-runs}
use Rattle.board.proofs.Board.close_many.Goals as goal

running : (c : Else-not-runs) → Runs c.args.self
running c = runs_is _ (sym c.runs.ensures ∙ c.if-not-runs.false)

pub returns-then-not-runs : goal.returns-then-not-runs
unfolding closed_many answered
returns-then-not-runs c = let e = sym c.runs.ensures ∙ c.if-not-runs.true in
    rw (e, many_over c.args.n c.args.self e)

pub due-requires : goal.due-requires
due-requires c = let k = running (goal.at.due-requires c).Else-not-runs in (k.sound.checked, k.sound.fit)

pub closings-stand-requires : goal.closings-stand-requires
closings-stand-requires c = (running (goal.at.closings-stand-requires c).Else-not-runs).opened

pub returns : goal.returns
unfolding closed_many answered jumped at
returns c = let a = c.args in
    let e = sym c.runs.ensures ∙ c.if-not-runs.false in
    rw (jumps a.n a.self, e, c.told.ensures, c.closings-stand.ensures, c.due.ensures)
