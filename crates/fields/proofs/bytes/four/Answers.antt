-- `bytes::four` meets its contract. Assumes nothing.
use native.Mathlib.Omega.{arith}
use Rattle.fields.proofs.Laws.Bytes.{four_bytes}
use Rattle.fields.proofs.bytes.four.Goals as goal

pub returns-clause-number : goal.returns-clause-number
returns-clause-number c = omega (arith, four_bytes c.args.bytes.now c.args.at)
