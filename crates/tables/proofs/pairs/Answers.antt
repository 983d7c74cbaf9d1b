-- `pairs` meets its contract. Assumes nothing.
use mathlib.Core.Path.{◌∙◌}
use Prim.Native.Nat.{ℕ, ◌-◌, ◌*◌, ◌+◌}
use lib.ListN.{length-take, length-drop}
use native.Mathlib.Omega.{arith}
use Rattle.tables.specs.Word.{pair}
use Rattle.tables.proofs.Laws.Table.{wrote_filled}
use Rattle.tables.proofs.pairs.Goals as goal

pub returns : goal.returns
returns c = let a = c.args in
    wrote_filled (λ (k : ℕ). pair a.base k * a.place) (a.base * a.base) (a.at + a.base * a.base - a.at) a.at (a.at + a.base * a.base) a.table.now _ (omega arith) (omega arith) (omega arith)
    (c.fill_by.auto.part ∙ simp (length-take, length-drop) (omega arith))
    (λ k i. c.fill_by.ensures k (simp (length-take, length-drop) (omega arith)))
