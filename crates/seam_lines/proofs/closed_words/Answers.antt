-- `closed_words` meets its contract: the digits of each half, with a space or the line's end after them. Assumes nothing.
use Rattle.columns.proofs.Laws.Wrote.{wrote_then, wrote_as}
use Rattle.seam_lines.proofs.Laws.Line.{halves_text}
use Rattle.seam_lines.proofs.closed_words.Goals as goal

pub returns : goal.returns
returns c = wrote_as (wrote_then c.sixteen_hexadecimal-next.ensures.wrote c.sixteen_hexadecimal.ensures.wrote) (halves_text c.args.halves)
