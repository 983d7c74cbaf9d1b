-- `byte` meets its contract. Assumes nothing.
use mathlib.Core.Path.{refl}
use native.Mathlib.Omega.{arith}
use Rattle.columns.proofs.Laws.Wrote.{wrote_none, wrote_more}
use Rattle.lines.proofs.byte.Goals as goal

pub returns : goal.returns
returns c = wrote_more (wrote_none c.args.out.now c.args.at) c.args.b (omega (arith, c.requires)) refl refl
