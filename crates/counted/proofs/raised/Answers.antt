-- `raised` meets its contract. Assumes nothing.
use Rattle.std.proofs.Common.{◌≡◌, get_or, arith}
use Rattle.counted.specs.State.{one_more, raised}
use Rattle.counted.proofs.raised.Goals as goal

pub returns : goal.returns
unfolding raised one_more
returns c = let more : c.min.result ≡ one_more (get_or c.args.counts c.args.place 0) = omega (arith, c.saturating_add.ensures, c.min.ensures) in
    rw more
