-- Each place has what the closure answers for it. Assumes nothing.
use Rattle.std.proofs.Common.{rules, arith}
use Rattle.row_inputs.proofs.InputsFromFaultyRow.from.Goals as goal

pub returns : goal.returns
returns c = (
  λ i h. let (p, q, e) = c.from_fn.ensures.items.at i 0 (omega (arith, c.from_fn.ensures.items.long, h)) in search rules,
  λ i h. let (p, q, e) = c.from_fn-2.ensures.items.at i 0 (omega (arith, c.from_fn-2.ensures.items.long, h)) in search rules,
)
