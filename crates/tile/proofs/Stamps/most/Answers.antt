-- `Stamps::most` meets its contract: the larger of the codes is the code of the latest stamp. Assumes nothing.
use mathlib.Core.Path.{◌≡◌}
use native.Mathlib.Omega.{arith}
use Rattle.rule.proofs.Laws.Coded.{latest_two, latest_three}
use Rattle.tile.proofs.Laws.{place_on_time, place_by, two_neighbours, three_neighbours}
use Rattle.tile.proofs.Stamps.most.Goals as goal

pub code-requires : goal.code-requires
code-requires c = let r = c.requires in (omega arith, place_on_time r 1 (omega (arith, r.count_least)))

pub code-requires-2 : goal.code-requires-2
code-requires-2 c = let r = c.requires in (omega arith, place_on_time r 2 (omega (arith, r.count_least)))

pub returns-then-self-eq2 : goal.returns-then-self-eq2
returns-then-self-eq2 c = let r = c.requires in
    let k = r.count_least in
    rw (two_neighbours c.args.self c.if-self-eq2.true, c.max-two.ensures, c.code-2.ensures, c.code.ensures)
    (latest_two (omega arith) (place_by r 1 (omega arith)) (place_by r 2 k))

pub code-requires-3 : goal.code-requires-3
code-requires-3 c = let r = c.requires in
    (omega arith, place_on_time r 3 (omega (arith, r.count_least, c.if-self-eq2.false)))

pub returns : goal.returns
returns c = let r = c.requires in
    let three : c.args.self.count ≡ 3 = omega (arith, r.count_least, r.count_most, c.if-self-eq2.false) in
    rw (
      three_neighbours c.args.self three,
      c.max.ensures,
      c.code-3.ensures,
      c.max-two.ensures,
      c.code-2.ensures,
      c.code.ensures,
    )
    (latest_three (omega arith) (place_by r 1 (omega arith)) (place_by r 2 (omega arith)) (place_by r 3 (omega arith)))
