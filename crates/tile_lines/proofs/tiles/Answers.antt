-- `tiles` meets its contract. Assumes nothing.
use mathlib.Core.Path.{◌≡◌, refl, ◌∙◌, ap}
use mathlib.Core.Bool.{Bool}
use mathlib.Core.List.{List}
use Prim.Native.Nat.{ℕ}
use lib.ListN.{get_or}
use native.Mathlib.Omega.{arith}
use Rattle.columns.specs.Marks.{mark_bytes}
use Rattle.lines.specs.Row.{each_below, tile_text}
use Rattle.tile_lines.specs.Tile.{code, tile_after}
use Rattle.columns.proofs.Laws.Wrote.{wrote_none, wrote_more, wrote_then, wrote_as, table_none, table_more}
use Rattle.tile_lines.proofs.Laws.Row.{each_more, tiles_length, tile_known, tile_is}
use Rattle.tile_lines.proofs.Laws.Code.{coded_written}
use Rattle.tile_lines.proofs.tiles.Goals as goal

pub loop-c-init : goal.loop-c-init
loop-c-init c = let a = c.args in
    (c.none-near.ensures.0, unfold each_below in wrote_none a.out.now a.at, table_none _ a.codes.now 0)

pub marked-faulty-requires : goal.marked-faulty-requires
marked-faulty-requires c = unfold mark_bytes in omega arith

pub bounds-codes-c : goal.bounds-codes-c
bounds-codes-c c = omega (arith, c.loop-c.invariant.2.as_long)

pub tile-written-requires : goal.tile-written-requires
tile-written-requires c = let a = c.args in
    let i = c.loop-c.invariant in
    let long = tiles_length a.row a.marks.now a.times.now a.letters.now (omega arith) c.loop-c.c (omega arith) in
    (c.requires.tables.0, i.0, c.of-head.ensures.1, omega arith, omega (arith, long, i.1.goes, i.1.as_long))

pub loop-c-preserved : goal.loop-c-preserved
loop-c-preserved c = let a = c.args in
    let i = c.loop-c.invariant in
    let n = c.loop-c.c in
    let f = c.marked-faulty.result in
    let ms = a.marks.now in
    let ts = a.times.now in
    let ls = a.letters.now in
    let t = get_or ts n 0 in
    let x = get_or ls n 0 in
    let is = ap (λ (h : List ℕ). tile_after h n f t x) c.of-head.ensures.0 ∙ tile_is a.row n f t x ∙ tile_known a.row ms ts ls n f c.marked-faulty.ensures in
    let line = wrote_as c.tile-written.ensures.wrote is in
    let coded = c.code.ensures ∙ ap (λ (g : Bool). code g t) c.marked-faulty.ensures in (
      c.tile-written.ensures.right,
      wrote_as (wrote_then i.1 line) (each_more n (tile_text a.row ms ts ls)),
      wrote_more i.2 _ (omega (arith, c.loop-c-test.true, c.requires)) (table_more _ n coded) refl,
    )

pub returns : goal.returns
returns c = let a = c.args in
    let i = c.loop-c.invariant in
    let done : c.loop-c.c ≡ a.width = omega arith in
    let whole = ap (λ (n : ℕ). each_below n (tile_text a.row a.marks.now a.times.now a.letters.now)) done in
    record { wrote = wrote_as i.1 whole; coded = rw done at (coded_written _ a.marks.now a.times.now i.2) }
