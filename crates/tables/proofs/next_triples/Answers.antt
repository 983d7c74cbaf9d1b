-- `next_triples` meets its contract. Assumes nothing.
use mathlib.Core.Path.{◌∙◌, ap}
use mathlib.Core.List.{List}
use Prim.Native.Nat.{ℕ, ◌*◌}
use lib.ListN.{length, get_or}
use native.Mathlib.Omega.{arith}
use Rattle.columns.proofs.Laws.Lists.{table_length, table_at}
use Rattle.tables.specs.Word.{triple}
use Rattle.tables.proofs.Laws.Table.{filled}
use Rattle.tables.proofs.next_triples.Goals as goal

pub fill_by-requires : goal.fill_by-requires
fill_by-requires c k i =
    let long = ap length c.requires.0 ∙ table_length triple 4096 0 in
    (omega arith, omega arith, ap (λ (l : List ℕ). get_or l k 0) c.requires.0 ∙ table_at triple 4096 0 k (omega arith) ∙ ap triple (omega arith))

pub returns : goal.returns
returns c = filled (λ (k : ℕ). triple k * 16777216) 4096 _ (c.fill_by.auto.part ∙ c.requires.1) (λ k i. c.fill_by.ensures k (omega arith))
