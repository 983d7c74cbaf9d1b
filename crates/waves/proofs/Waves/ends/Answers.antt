-- `ends` meets its contract. Assumes nothing.
use Rattle.std.proofs.Common.{◌≡◌, ◌<◌, refl, arith, add-one, get_or, get_or-take}
use Rattle.waves.specs.State.{size, front}
use Rattle.waves.specs.Ends.{ends_of}
use Rattle.waves.proofs.Laws.Ends.{ends_more}
use Rattle.waves.proofs.Waves.ends.Goals as goal

pub loop-word-init : goal.loop-word-init
unfolding front ends_of
loop-word-init c = refl

pub loop-word-preserved : goal.loop-word-preserved
unfolding front
loop-word-preserved c = let words = c.args.self.words in
    let place = c.loop-word.word-index in
    let inside : place < get_or words 64 0 = omega arith in
    rw (add-one, ends_more (get_or words place 0) (front place words), ← c.loop-word.invariant) (rw get_or-take at c.with-ends.ensures)

pub returns : goal.returns
unfolding size
returns c = let all : c.loop-word.word-index ≡ size c.args.self = omega arith in
    rw all at c.loop-word.invariant
