-- What runs hand over, whatever is asked. The statements are proved in proofs/Promises.antt, under their names in small letters.
-- Assumes nothing.
use Rattle.std.specs.Prelude.{List, ℕ}
use Rattle.stream.specs.Promises.{TurnRight, RunRight, AnyFile}
use Rattle.asked.specs.Asked.{step_for}
use Rattle.asked.specs.declared.Asked.{Asked}
use Rattle.asked.specs.Whole.{whole_text}

-- §16.4 what `ready` and `advance` ensure is one turn more
unfoldable pub TurnsRight : Type 0
TurnsRight = (a : Asked) (rows : List ℕ) → TurnRight (step_for a rows) 0

-- §16.4 a run that is done has handed over the lines of the file that was delivered (`wall_text`), its search range (`search_text`) or its
-- first wide seam (`wide_text`, §E7.4), whatever bytes follow unread
unfoldable pub WholeRight : Type 0
WholeRight = (a : Asked) (rows : List ℕ) → RunRight (step_for a rows) 0 (whole_text a rows)

-- §16.4 every file has such a run
unfoldable pub AnyRight : Type 0
AnyRight = (a : Asked) (rows : List ℕ) → AnyFile (step_for a rows) 0
