-- `all_delays` meets its contract: each value adds its two numbers to the bits that are gathered. Assumes nothing.
use Rattle.std.proofs.Common.{◌≡◌, ◌+◌, ◌-◌, get_or, take, drop, length, arith, leb-true}
use Rattle.std.proofs.lemmas.Grind.{common_steps}
use Rattle.links.specs.Delays.{Delays}
use Rattle.links.proofs.Laws.Delays.{top_clear, gathered_more}
use Rattle.links.proofs.all_delays.Goals as goal

pub loop-value-init : goal.loop-value-init
loop-value-init c = λ k i j e. let never : ⊥ = omega arith in absurd never

pub loop-value-preserved : goal.loop-value-preserved
loop-value-preserved c = let a = c.args in
    let n = c.loop-value.value-index in
    let here : get_or (take (a.from + 24 - a.from) (drop a.from a.links.now)) n 0 ≡ get_or a.links.now (a.from + n) 0 = grind (arith, common_steps) in
    rw here
    (gathered_more a.shortest a.longest a.links.now a.from n c.loop-value.bits c.requires.0 (omega (arith, c.requires.1)) (c.type_inv.links (a.from + n)).fits c.loop-value.invariant)

pub returns : goal.returns
unfolding Delays
returns c = λ e k i j.
    let a = c.args in
    let all : length (take (a.from + 24 - a.from) (drop a.from a.links.now)) ≡ 24 = grind (arith, common_steps) in
    c.loop-value.invariant k i (omega (arith, all)) (leb-true c.loop-value.bits top_clear e)
