-- The loop's invariant: the drifts, phases and links of the tiles passed are written.
use Prim.Native.Nat.{◌+◌}
use Rattle.columns.specs.Columns.{table_from}
use Rattle.columns.specs.Wrote.{Wrote}
use Rattle.fields.specs.Bytes.{big_endian}
use Rattle.contents.specs.Contents.{tile_place, links_below}
use Rattle.contents.proofs.tiles.Given as goal

abbrev pub invariant-loop-c : goal.invariant-loop-c
invariant-loop-c l = record {
  drift : Wrote l.initial.drifts 0 (table_from l.c 0 (λ k. big_endian 2 l.body (tile_place l.width k))) l.drifts l.c;
  phase : Wrote l.initial.phases 0 (table_from l.c 0 (λ k. big_endian 4 l.body (tile_place l.width k + 2))) l.phases l.c;
  link : Wrote l.initial.links 0 (links_below l.width l.body l.c) l.links l.n;
}
