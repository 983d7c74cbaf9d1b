-- `late_start` meets its contract: the closure is the test of one column. Assumes nothing.
use Rattle.std.proofs.Common.{refl, ◌≡◌, true, false, ltb, rules, tests}
use Prim.Native.Nat.{◌*◌}
use native.Mathlib.Omega.{arith}
use Rattle.std.proofs.lemmas.Iterator.{cases_from_any, YieldsList-from_range}
use Rattle.fields.specs.Bytes.{big_endian}
use Rattle.contents.specs.Contents.{latest_start}
use Rattle.contents.proofs.Laws.Contents.{late_among}
use Rattle.contents.proofs.late_start.Goals as goal

pub returns : goal.returns
returns c = let w = c.args.width in
    let b = c.args.body.now in
    late_among w b c.any.result
    (cases_from_any _ _ _ (λ x. ltb latest_start (big_endian 8 b (8 * x)) ≡ true) (λ x. ltb latest_start (big_endian 8 b (8 * x)) ≡ false)
    c.any.ensures.ran (YieldsList-from_range 0 w w refl (omega arith)) (λ x q k. search (rules, tests)) (λ x q k. search (rules, tests)))
