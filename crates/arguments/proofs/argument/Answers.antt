-- `argument` meets its contract. Assumes nothing.
use mathlib.Core.Path.{refl}
use mathlib.Core.List.{[]}
use Rattle.arguments.specs.Words.{word_of}
use Rattle.arguments.proofs.argument.Goals as goal

pub returns-in-Err : goal.returns-in-Err
unfolding word_of
returns-in-Err g c = record { word = []; is = refl }
