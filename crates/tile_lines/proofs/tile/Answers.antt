-- `tile` meets its contract. Assumes nothing.
use mathlib.Core.Path.{sym}
use mathlib.Core.List.{[], ◌∷◌, ◌++◌, append_assoc}
use native.Mathlib.Omega.{arith}
use Rattle.tables.specs.Word.{bytes, spaced}
use Rattle.tile_lines.specs.Tile.{tile_after}
use Rattle.lines.specs.Number.{decimal}
use Rattle.lines.proofs.Laws.Number.{decimal_length}
use Rattle.columns.proofs.Laws.Wrote.{wrote_then, wrote_as}
use Rattle.tables.proofs.Laws.Word.{wrote_bytes}
use Rattle.words.proofs.Laws.Columns.{column_short, wrote_column}
use Rattle.tile_lines.proofs.Laws.Row.{lettered_is}
use Rattle.tile_lines.proofs.tile.Goals as goal

pub overflow_add-place-2 : goal.overflow_add-place-2
overflow_add-place-2 c = let a = c.args in
    let short = column_short c.requires.0 a.column (omega arith) in
    omega (arith, short)

pub word-end-requires : goal.word-end-requires
word-end-requires c = let a = c.args in
    let short = column_short c.requires.0 a.column (omega arith) in
    let one = c.put.ensures.as_long in
    let two = c.put-2.ensures.as_long in
    omega (arith, short, one, two)

pub returns-then-faulty : goal.returns-then-faulty
unfolding tile_after
returns-then-faulty c = let a = c.args in
    let one = c.put.ensures.as_long in
    let head = wrote_bytes a.head.word c.put.ensures (omega arith) a.head.length (omega arith) in
    let column = wrote_column c.requires.0 a.column (omega arith) c.put-2.ensures (omega (arith, one)) in
    let begun = wrote_then head column in
    let dash = append_assoc (bytes a.head.length a.head.word ++ spaced a.column) (45 ∷ []) (10 ∷ []) in
    record { wrote = rw c.if-faulty.true (wrote_as (wrote_then begun c.word-end.ensures) (sym dash)); right = c.requires.1 }

pub near_digits-digits-requires : goal.near_digits-digits-requires
near_digits-digits-requires c = let a = c.args in
    let short = column_short c.requires.0 a.column (omega arith) in
    let one = c.put.ensures.as_long in
    let two = c.put-2.ensures.as_long in
    (c.requires.0, c.to-served.ensures.1, omega (arith, short, one, two))

pub lettered-end-requires : goal.lettered-end-requires
lettered-end-requires c = let a = c.args in
    let short = column_short c.requires.0 a.column (omega arith) in
    let one = c.put.ensures.as_long in
    let two = c.put-2.ensures.as_long in
    let digits = c.near_digits-digits.ensures in
    omega (arith, short, one, two, digits.as_long, digits.goes, decimal_length a.time)

pub returns : goal.returns
unfolding tile_after
returns c = let a = c.args in
    let one = c.put.ensures.as_long in
    let head = wrote_bytes a.head.word c.put.ensures (omega arith) a.head.length (omega arith) in
    let column = wrote_column c.requires.0 a.column (omega arith) c.put-2.ensures (omega (arith, one)) in
    let begun = wrote_then head column in
    record {
      wrote = rw c.if-faulty.false (wrote_as (wrote_then (wrote_then begun c.near_digits-digits.ensures) c.lettered-end.ensures) (lettered_is (bytes a.head.length a.head.word ++ spaced a.column) (decimal a.time) a.letter));
      right = c.to-served.ensures.0;
    }
