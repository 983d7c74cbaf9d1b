-- `fill` meets its contract. Assumes nothing.
use mathlib.Core.Path.{refl}
use native.Mathlib.Omega.{arith}
use Rattle.tables.proofs.Laws.Table.{all_tables, first_pairs, holds_front}
use Rattle.tables.proofs.fill.Goals as goal

pub first_triples-requires : goal.first_triples-requires
first_triples-requires c =
    let pairs = first_pairs c.requires c.pairs.ensures c.pairs-2.ensures c.pairs-3.ensures c.pairs-4.ensures c.pairs-5.ensures c.pairs-6.ensures c.columns.ensures c.lengths.ensures in
    let split = c.split_at_mut-pairs.ensures in
    let long = split.front_len in (
      omega (arith, long, pairs.0),
      holds_front _ 256 _ _ split.value (omega (arith, long, pairs.0)) pairs.1,
      omega (arith, c.split_at_mut-first.ensures.front_len, split.back_len, pairs.0),
    )

pub returns : goal.returns
returns c =
    all_tables c.requires c.pairs.ensures c.pairs-2.ensures c.pairs-3.ensures c.pairs-4.ensures c.pairs-5.ensures c.pairs-6.ensures c.columns.ensures c.lengths.ensures
    _ _ _ _ c.split_at_mut-pairs.ensures.value (omega arith) c.first_triples.ensures c.next_triples.ensures refl
