-- `row_lines` meets its contract: the tiles leave room for the seams. Assumes nothing.
use native.Mathlib.Omega.{arith}
use Rattle.lines.specs.Row.{row_text, row_room}
use Rattle.columns.proofs.Laws.Wrote.{wrote_then}
use Rattle.tile_lines.proofs.Laws.Row.{tiles_length}
use Rattle.text.proofs.row_lines.Goals as goal

pub tiles-end-requires : goal.tiles-end-requires
tiles-end-requires c = record {
  tables = (c.requires.tables.0, c.requires.tables.2, c.requires.tables.3, c.requires.marks_len.0, c.requires.marks_len.1, c.requires.marks_len.2);
  width_in_bounds = (omega (arith, c.requires), unfold row_room in omega (arith, c.requires));
}

pub seams-requires : goal.seams-requires
seams-requires c = let a = c.args in let t = c.tiles-end.ensures in record {
  tables = (c.requires.tables.0, c.requires.tables.1, c.requires.tables.2, c.requires.tables.3, c.requires.marks_len.0, c.requires.marks_len.1);
  width_in_bounds = (omega (arith, c.requires), t.coded, unfold row_room in omega (arith, c.requires, t.wrote.goes, t.wrote.as_long, tiles_length a.row a.marks.now a.times.now a.letters.now (omega (arith, c.requires)) a.width (omega (arith, c.requires))));
}

pub returns : goal.returns
returns c = unfold row_text in wrote_then c.tiles-end.ensures.wrote c.seams.ensures
