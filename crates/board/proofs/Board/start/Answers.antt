-- `start` meets its contract. Assumes nothing.
use Rattle.std.proofs.Common.{sym}
use Rattle.settings.proofs.Laws.Refusal.{none_of, passed, refused_with}
use Rattle.board.specs.Stand.{stand}
use Rattle.board.specs.State.{start_cause, fresh, first_stage, started}
use Rattle.board.proofs.Board.start.Goals.{in-Ok, in-Err}
use Rattle.board.proofs.Board.start.Goals as goal

pub returns : goal.returns
unfolding started fresh stand first_stage
returns c = let a = c.args in
    let cause = start_cause a.settings a.count a.reading in
    elim c.match-check_start.branch [
      | in-Ok w ↦ rw (c.unheard_of.ensures, w.refusal-is, none_of cause (passed cause _ (sym w.in-Ok.ensures)))
      | in-Err w ↦ rw (c.unheard_of.ensures, w.refusal-is, refused_with cause _ (sym w.in-Err.ensures))
    ]
