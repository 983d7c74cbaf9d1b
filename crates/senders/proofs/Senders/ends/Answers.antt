-- `ends` meets its contract: the smaller and the larger of the numbers are those of the earliest and the latest stamp. Assumes nothing.
use mathlib.Core.Path.{◌≡◌}
use native.Mathlib.Omega.{arith}
use Rattle.senders.specs.Senders.{code_at}
use Rattle.senders.proofs.Laws.Senders.{fit_is, of_two, of_three, least_two, most_two, least_three, most_three}
use Rattle.senders.proofs.Senders.ends.Goals as goal

pub returns-then-self-eq2 : goal.returns-then-self-eq2
unfolding code_at
returns-then-self-eq2 c = let x = c.args.self in
    let f = fit_is x c.requires in
    record {
      least = rw (of_two x c.if-self-eq2.true, c.min-least.ensures) (least_two f);
      most = rw (of_two x c.if-self-eq2.true, c.max-most.ensures) (most_two f);
    }

pub returns : goal.returns
unfolding code_at
returns c = let x = c.args.self in
    let f = fit_is x c.requires in
    let three : x.count ≡ 3 = omega (arith, f.least, f.most, c.if-self-eq2.false) in
    record {
      least = rw (of_three x three, c.min.ensures, c.min-least.ensures) (least_three f);
      most = rw (of_three x three, c.max.ensures, c.max-most.ensures) (most_three f);
    }
