-- The loop's invariant: the places passed hold their times.
use Prim.Native.Nat.{◌*◌}
use Rattle.columns.specs.Columns.{table_from}
use Rattle.columns.specs.Wrote.{Wrote}
use Rattle.fields.specs.Bytes.{big_endian}
use Rattle.contents.proofs.times.Given as goal

abbrev pub invariant-loop-c : goal.invariant-loop-c
invariant-loop-c l = Wrote l.initial.times 0 (table_from l.c 0 (λ k. big_endian 8 l.body (8 * k))) l.times l.c
