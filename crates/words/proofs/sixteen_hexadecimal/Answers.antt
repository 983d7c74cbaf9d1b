-- `sixteen_hexadecimal` meets its contract: two words of eight digits, and a byte. Assumes nothing.
use mathlib.Core.Path.{refl}
use Rattle.words.proofs.Laws.Sixteen.{sixteen_long, wrote_sixteen}
use Rattle.words.proofs.sixteen_hexadecimal.Goals as goal

pub shape_of-out : goal.shape_of-out
shape_of-out c = sixteen_long c.put.ensures c.put-2.ensures c.args.after

pub returns : goal.returns
returns c = record {
  wrote = wrote_sixteen c.requires.1 c.put.ensures c.put-2.ensures c.args.bits c.args.after c.eight_hexadecimal.ensures c.last_eight.ensures;
  value = refl;
}
