-- The loop's invariant: the lines of the columns passed are written, and their codes.
use lib.ListN.{get_or}
use Rattle.columns.specs.Columns.{table_from}
use Rattle.columns.specs.Marks.{marked}
use Rattle.lines.specs.Row.{each_below, tile_text}
use Rattle.tile_lines.specs.Near.{Right}
use Rattle.tile_lines.specs.Tile.{code}
use Rattle.columns.specs.Wrote.{Wrote}
use Rattle.tile_lines.proofs.tiles.Given as goal

abbrev pub invariant-loop-c : goal.invariant-loop-c
invariant-loop-c l = Right l.near × Wrote l.initial.out l.at (each_below l.c (tile_text l.row l.marks l.times l.letters)) l.out l.end × Wrote l.initial.codes 0 (table_from l.c 0 (λ k. code (marked l.marks k) (get_or l.times k 0))) l.codes l.c
