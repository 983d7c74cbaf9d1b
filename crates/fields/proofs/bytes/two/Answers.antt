-- `bytes::two` meets its contract. Assumes nothing.
use native.Mathlib.Omega.{arith}
use Rattle.fields.proofs.Laws.Bytes.{two_bytes}
use Rattle.fields.proofs.bytes.two.Goals as goal

pub returns-clause-number : goal.returns-clause-number
returns-clause-number c = omega (arith, two_bytes c.args.bytes.now c.args.at)
