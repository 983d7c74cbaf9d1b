-- `columns` meets its contract. Assumes nothing.
use mathlib.Core.Path.{◌∙◌}
use lib.ListN.{length-take, length-drop}
use native.Mathlib.Omega.{arith}
use Rattle.tables.proofs.Laws.Table.{wrote_filled}
use Rattle.tables.proofs.columns.Goals as goal

pub returns : goal.returns
returns c =
    wrote_filled _ 256 256 912 1168 c.args.table.now _ (omega arith) (omega arith) (omega arith)
    (c.fill_by.auto.part ∙ simp (length-take, length-drop) (omega arith))
    (λ k i. c.fill_by.ensures k (simp (length-take, length-drop) (omega arith)))
