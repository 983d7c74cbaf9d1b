-- `first_triples` meets its contract. Assumes nothing.
use mathlib.Core.Path.{◌∙◌}
use Prim.Native.Nat.{ℕ, ◌*◌, ◌/◌}
use native.Mathlib.Omega.{arith}
use Rattle.tables.specs.Word.{pair, triple}
use Rattle.tables.proofs.Laws.Table.{filled, holds_first}
use Rattle.tables.proofs.first_triples.Goals as goal

pub fill_by-requires : goal.fill_by-requires
fill_by-requires c k i =
    let first = holds_first c.args.pairs.now 256 (λ (n : ℕ). pair 16 n * 1) c.requires.1 (k / 16) (omega arith) in
    (omega arith, omega arith, omega arith)

pub returns : goal.returns
returns c = filled triple 4096 _ (c.fill_by.auto.part ∙ c.requires.2) (λ k i. c.fill_by.ensures k (omega arith))
