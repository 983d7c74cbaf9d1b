-- `bytes::eight` meets its contract. Assumes nothing.
use native.Mathlib.Omega.{arith}
use Rattle.fields.proofs.Laws.Bytes.{eight_bytes}
use Rattle.fields.proofs.bytes.eight.Goals as goal

pub returns : goal.returns
returns c = omega (arith, eight_bytes c.args.bytes.now c.args.at)
