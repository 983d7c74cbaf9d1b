-- `refused_words` meets its contract. Assumes nothing.
use Rattle.stages.specs.Fit.{place}
use Rattle.layout.specs.Words.{refused_words}
use Rattle.layout.proofs.refused_words.Goals as goal

pub returns : goal.returns
unfolding refused_words place
returns c = rw c.from.ensures at c.place_words.ensures
