-- `put` meets its contract. Assumes nothing.
use mathlib.Core.Path.{◌∙◌, ap}
use Prim.Native.Nat.{◌+◌, ◌-◌}
use lib.ListN.{length}
use native.Mathlib.Omega.{arith}
use Rattle.columns.proofs.Laws.Wrote.{wrote_as}
use Rattle.tables.proofs.Laws.Word.{wrote_part, bytes_shifted, bytes_length}
use Rattle.words.proofs.put.Goals as goal

pub returns : goal.returns
returns c = let a = c.args in
    let is = c.copy_from_slice.ensures.after ∙ c.to_le_bytes.ensures ∙ bytes_shifted a.word in
    let long = ap length is ∙ bytes_length 8 a.word in
    wrote_as (wrote_part (a.at + 8 - a.at) a.at (a.at + 8) a.out.now _ (omega (arith, long)) (omega (arith, long)) (omega arith)) is
