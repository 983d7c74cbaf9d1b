-- `placed` meets its contract. Assumes nothing.
use Rattle.window.proofs.Laws.Window.{moved, at_front}
use borrow.Author.Rules.{rules}
use Rattle.window.proofs.placed.Goals as goal

pub returns : goal.returns
returns c = let args = c.args in
    let pre = c.requires in
    moved args.window args.due _ _ pre.0 pre.1 (search rules) (at_front args.window args.input.now pre.0 c.copy_within.ensures.after)
