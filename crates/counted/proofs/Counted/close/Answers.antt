-- `close` meets its contract: it is one close of many. Assumes nothing.
use mathlib.Core.Path.{sym, ◌∙◌}
use Rattle.counted.proofs.Laws.Close.{one_close}
use Rattle.counted.proofs.Counted.close.Goals as goal

pub returns : goal.returns
returns c = c.close_many.ensures ∙ sym (one_close c.args.self)
