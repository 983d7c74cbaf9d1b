-- The loop of `ends`: the ends are those of the places passed. Assumes nothing.
use Rattle.std.proofs.Common.{◌≡◌}
use Rattle.waves.specs.State.{front}
use Rattle.waves.specs.Ends.{ends_of}
use Rattle.waves.proofs.Waves.ends.Given as goal

abbrev pub invariant-loop-word : goal.invariant-loop-word
invariant-loop-word l = l.ends ≡ ends_of (front l.word-index l.fn.self.words)
