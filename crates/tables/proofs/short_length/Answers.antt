-- `short_length` meets its contract. Assumes nothing.
use native.Mathlib.Omega.{arith}
use Rattle.tables.proofs.Laws.Digits.{spaced_length}
use Rattle.tables.proofs.short_length.Goals as goal

pub returns-then-n-lt10 : goal.returns-then-n-lt10
returns-then-n-lt10 c = omega (arith, spaced_length c.args.n 0 (omega arith) (omega arith) (omega arith))

pub returns-then-n-lt100 : goal.returns-then-n-lt100
returns-then-n-lt100 c = omega (arith, spaced_length c.args.n 1 (omega arith) (omega arith) (omega arith))

pub returns-then-n-lt1000 : goal.returns-then-n-lt1000
returns-then-n-lt1000 c = omega (arith, spaced_length c.args.n 2 (omega arith) (omega arith) (omega arith))

pub returns : goal.returns
returns c = omega (arith, spaced_length c.args.n 3 (omega arith) (omega arith) (omega arith))
