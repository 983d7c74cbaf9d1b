-- `put_first` meets its contract: of what `put` writes it keeps the first bytes. Assumes nothing.
use mathlib.Core.Path.{refl}
use native.Mathlib.Omega.{arith}
use Rattle.tables.proofs.Laws.Word.{wrote_bytes}
use Rattle.words.proofs.put_first.Goals as goal

pub returns : goal.returns
returns c = record { wrote = wrote_bytes c.args.word c.put.ensures (omega (arith, c.requires.1)) c.args.count c.requires.0; value = refl }
