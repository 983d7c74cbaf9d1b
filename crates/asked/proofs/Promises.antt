-- The proofs of what specs/Promises.antt states. Assumes nothing.
use mathlib.Core.List.{List, []}
use Prim.Native.Nat.{ℕ}
use Rattle.row.specs.Row.{pulses}
use Rattle.stages.specs.declared.Wall.TheVariants.{New}
use Rattle.file.specs.File.{wall_text}
use Rattle.range.specs.File.{search_text}
use Rattle.found.specs.Found.{wide_text}
use Rattle.stream.specs.Promises.{RunRight}
use Rattle.stream.proofs.Laws.Run as run
use Rattle.stream.proofs.Laws.Any.{any_file}
use Rattle.stream.proofs.Laws.Whole.{whole_right as told_whole}
use Rattle.asked.specs.Asked.{told_of, step_for}
use Rattle.asked.specs.Whole.{whole_text}
use Rattle.asked.specs.Promises.{TurnsRight, WholeRight, AnyRight}
use Rattle.asked.specs.declared.Asked.{Asked}
use Rattle.asked.specs.declared.Asked.TheVariants.{Lines, Range, Wide}
use Rattle.asked.proofs.Laws.Onward.{Tale, ahead, stands, fits, one}
use Rattle.asked.proofs.Laws.Lines.{lines_tale}
use Rattle.asked.proofs.Laws.Range.{range_tale}
use Rattle.asked.proofs.Laws.Wide.{wide_tale}

pub turns_right : TurnsRight
unfolding TurnsRight
turns_right a rows = run.turn_right (step_for a rows) 0 (ahead a rows)

-- what is told from the start on
by_tale : (a : Asked) (rows : List ℕ) (t : Tale (told_of a rows)) → RunRight (step_for a rows) 0 (t.from New 0 (pulses [] []))
by_tale a rows t = told_whole (step_for a rows) 0 t.from (stands a rows) (one a rows t) t.over

pub whole_right : WholeRight
unfolding WholeRight told_of whole_text wall_text search_text wide_text lines_tale range_tale wide_tale
whole_right Lines rows = by_tale Lines rows (lines_tale rows)
whole_right Range rows = by_tale Range rows (range_tale rows)
whole_right (Wide n) rows = by_tale (Wide n) rows (wide_tale n rows)

pub any_right : AnyRight
unfolding AnyRight
any_right a rows = any_file (step_for a rows) 0 (ahead a rows) (fits a rows)
