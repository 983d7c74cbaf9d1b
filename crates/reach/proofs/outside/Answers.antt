-- `outside` meets its contract: at each `return` the tests passed and the one met. Assumes nothing.
use mathlib.Core.Path.{sym}
use Rattle.reach.proofs.Laws.Search.{no_row, past_rows, no_column, by_gap}
use Rattle.reach.proofs.outside.Goals as goal

pub returns-then-rows-eq0 : goal.returns-then-rows-eq0
returns-then-rows-eq0 c = sym (no_row c.args.settings c.args.gap c.args.rows c.args.column c.if-rows-eq0.true)

pub returns-then-settings-rows : goal.returns-then-settings-rows
returns-then-settings-rows c = sym (past_rows c.args.settings c.args.gap c.args.rows c.args.column c.if-rows-eq0.false c.if-settings-rows.true)

pub returns-then-settings-column : goal.returns-then-settings-column
returns-then-settings-column c = sym (no_column c.args.settings c.args.gap c.args.rows c.args.column c.if-rows-eq0.false c.if-settings-rows.false c.if-settings-column.true)

pub returns : goal.returns
returns c = sym (by_gap c.args.settings c.args.gap c.args.rows c.args.column c.if-rows-eq0.false c.if-settings-rows.false c.if-settings-column.false)
