-- `pulse` meets its contract. Assumes nothing.
use Rattle.std.proofs.Common.{◌≡◌, true, sym, ◌∙◌}
use Rattle.board.specs.State.{runs, hears}
use Rattle.board.proofs.Laws.Pulse.{ignored, turned_away, taken, placed}
use Rattle.board.proofs.Board.pulse.Goals.{Else-not-runs}
use Rattle.board.proofs.Board.pulse.Goals as goal

running : (c : Else-not-runs) → runs c.args.self ≡ true
running c = sym c.runs.ensures ∙ c.if-not-runs.false

pub returns-then-not-runs : goal.returns-then-not-runs
returns-then-not-runs c = sym (ignored _ _ (sym c.runs.ensures ∙ c.if-not-runs.true))

pub returns-then-self-sender : goal.returns-then-self-sender
returns-then-self-sender c = sym (turned_away _ _ (running (goal.at.returns-then-self-sender c).Else-not-runs) c.if-self-sender.true)

pub heard-requires : goal.heard-requires
heard-requires c = placed _ _ (running (goal.at.heard-requires c).Else-not-runs) c.if-self-sender.false

pub hear-requires : goal.hear-requires
hear-requires c = placed _ _ (running (goal.at.hear-requires c).Else-not-runs) c.if-self-sender.false

pub returns : goal.returns
unfolding hears
returns c = rw (c.heard.ensures, c.hear.ensures) (sym (taken _ _ (running (goal.at.returns c).Else-not-runs) c.if-self-sender.false))
