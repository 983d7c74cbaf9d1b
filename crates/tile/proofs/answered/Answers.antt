-- `answered` meets its contract: the rule's P and own less P, in i64, and the letter. Assumes nothing.
use mathlib.Core.Path.{◌≡◌, sym}
use Prim.Native.Nat.{◌^◌, ◌<◌}
use lib.IntN.{pos, ◌-ℤ◌}
use mir.Syntax.{w64}
use mir.ValLaws.{to_z_pos, to_z-of_z}
use native.Mathlib.Omega.{arith}
use Rattle.settings.specs.Settings.{step_of}
use Rattle.rule.specs.Stamp.{stamp_of}
use Rattle.rule.specs.Letter.{letter}
use Rattle.settings.proofs.Laws.Settings.{limits}
use Rattle.rule.proofs.Laws.Signed.{minus_fits}
use Rattle.rule.proofs.Laws.Coded.{stamp_silent, stamp_heard, stamps_ordered, P_small}
use Rattle.tile.proofs.Laws.{closed_of, answered_silent, answered_heard}
use Rattle.tile.proofs.answered.Goals.{After-adopted-fixed, Else-own-eq-SILENT}
use Rattle.tile.proofs.answered.Goals as goal

-- what the rule gives is P in closed form
adopted_is : (c : After-adopted-fixed) → let a = c.args in
    c.adopted-fixed.result.p ≡ closed_of a.settings (stamp_of a.own) (stamp_of a.least) (stamp_of a.most)
unfolding step_of
adopted_is c = rw c.step.ensures at c.adopted-fixed.ensures.p

letter_is : (c : After-adopted-fixed) → let a = c.args in
    c.adopted-fixed.result.letter ≡ letter a.settings.unit (step_of a.settings) (stamp_of a.own) (stamp_of a.least) (stamp_of a.most)
unfolding step_of
letter_is c = rw c.step.ensures at c.adopted-fixed.ensures.letter

p_fits : (c : After-adopted-fixed) → c.adopted-fixed.result.p < 2 ^ 63
p_fits c = rw (adopted_is c) (omega (arith, P_small c.requires.forwardable))

own_fits : (c : Else-own-eq-SILENT) → c.args.own < 2 ^ 63
own_fits c = omega (arith, c.requires.forwardable.own_heard c.if-own-eq-SILENT.false)

pub step-requires : goal.step-requires
step-requires c = let k = limits c.args.settings c.requires.settings_value in (k.unit.1, k.drift)

pub adopted-fixed-requires : goal.adopted-fixed-requires
unfolding step_of
adopted-fixed-requires c = rw c.step.ensures c.requires.forwardable

pub overflow_cast-p : goal.overflow_cast-p
overflow_cast-p c = record { sfits = p_fits (goal.at.overflow_cast-p c).After-adopted-fixed }

pub returns-then-own-eq-SILENT : goal.returns-then-own-eq-SILENT
returns-then-own-eq-SILENT c = let a = c.args in
    rw (to_z_pos w64 c.adopted-fixed.result.p (p_fits (goal.at.returns-then-own-eq-SILENT c).After-adopted-fixed), adopted_is (goal.at.returns-then-own-eq-SILENT c).After-adopted-fixed, letter_is (goal.at.returns-then-own-eq-SILENT c).After-adopted-fixed, stamp_silent a.own c.if-own-eq-SILENT.true)
    (sym (answered_silent a.settings c.requires.settings_value (stamps_ordered c.requires.forwardable)))

pub overflow_cast-correction : goal.overflow_cast-correction
overflow_cast-correction c = record { sfits = own_fits c }

pub overflow_sub-correction : goal.overflow_sub-correction
overflow_sub-correction c = let own = c.args.own in
    let p = c.adopted-fixed.result.p in
    rw (to_z_pos w64 own (own_fits c), to_z_pos w64 p (p_fits (goal.at.overflow_sub-correction c).After-adopted-fixed)) (minus_fits own p (own_fits c) (p_fits (goal.at.overflow_sub-correction c).After-adopted-fixed))

pub returns : goal.returns
returns c = let a = c.args in
    let p = c.adopted-fixed.result.p in
    rw (
      to_z_pos w64 a.own (own_fits c),
      to_z_pos w64 p (p_fits (goal.at.returns c).After-adopted-fixed),
      to_z-of_z w64 (pos a.own -ℤ pos p) (minus_fits a.own p (own_fits c) (p_fits (goal.at.returns c).After-adopted-fixed)),
      adopted_is (goal.at.returns c).After-adopted-fixed,
      letter_is (goal.at.returns c).After-adopted-fixed,
      stamp_heard a.own c.if-own-eq-SILENT.false,
    )
    (sym (answered_heard a.settings c.requires.settings_value (stamps_ordered c.requires.forwardable) a.own))
