-- `open_words` meets its contract. Assumes nothing.
use Rattle.columns.proofs.Laws.Wrote.{wrote_then, wrote_as}
use Rattle.seam_lines.proofs.Laws.Line.{open_text}
use Rattle.seam_lines.proofs.open_words.Goals as goal

pub returns : goal.returns
returns c = let side = c.side_word-side.ensures in
    wrote_as (wrote_then c.put_first-next.ensures.wrote c.put_first.ensures.wrote) (open_text c.args.faulty side.0)
