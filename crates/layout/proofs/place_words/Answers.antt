-- `place_words` meets its contract. Assumes nothing.
use mathlib.Core.Path.{refl}
use Rattle.layout.specs.Words.{place_words}
use Rattle.layout.proofs.place_words.Goals as goal

pub returns : goal.returns
unfolding place_words
returns c = refl
