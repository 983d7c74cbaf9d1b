-- `read` meets its contract. Assumes nothing.
use mathlib.Core.Path.{refl, sym, ◌∙◌}
use lib.ListN.{length-set}
use native.Mathlib.Omega.{arith}
use Rattle.arguments.proofs.Laws.Call.{none_read, all_read, missing, too_many, early_file, file, behind_file, other, help, late_help, version, late_version, number_more}
use Rattle.arguments.proofs.read.Goals as goal

pub loop-i-init : goal.loop-i-init
loop-i-init g c = (refl, none_read _ _ _ _)

pub loop-i-preserved : goal.loop-i-preserved
loop-i-preserved g c = (
  length-set c.loop-i.numbers _ _ ∙ c.loop-i.invariant.0,
  number_more _ _ _ _ _ _ c.loop-i.invariant.1 _ _ (sym c.in-Number.is ∙ c.argument.ensures.is) (omega (arith, c.loop-i.invariant.0, c.if-i-numbers.true)),
)

pub returns-then-i-count : goal.returns-then-i-count
returns-then-i-count g c = behind_file _ _ _ _ _ _ c.loop-i.invariant.1 _ (sym c.in-Name.is ∙ c.argument.ensures.is) c.if-needed-i.true

pub returns-in-Name : goal.returns-in-Name
returns-in-Name g c = file _ _ _ _ _ _ c.loop-i.invariant.1 _ (sym c.in-Name.is ∙ c.argument.ensures.is) c.if-needed-i.true

pub returns-in-Help : goal.returns-in-Help
returns-in-Help g c = help _ _ _ _ _ _ c.loop-i.invariant.1 _ (sym c.in-Help.is ∙ c.argument.ensures.is) c.if-i-eq1.true

pub returns-in-Version : goal.returns-in-Version
returns-in-Version g c = version _ _ _ _ _ _ c.loop-i.invariant.1 _ (sym c.in-Version.is ∙ c.argument.ensures.is) c.if-i-eq1-2.true

pub returns-in_default : goal.returns-in_default
returns-in_default g c = too_many _ _ _ _ _ _ c.loop-i.invariant.1 _ _ (sym c.in-Number.is ∙ c.argument.ensures.is) (omega (arith, c.loop-i.invariant.0, c.if-i-numbers.false))

pub returns-in_default-2 : goal.returns-in_default-2
returns-in_default-2 g c = early_file _ _ _ _ _ _ c.loop-i.invariant.1 _ (sym c.in-Name.is ∙ c.argument.ensures.is) (omega (arith, c.if-needed-i.false))

pub returns-in_default-3 : goal.returns-in_default-3
returns-in_default-3 g c = late_help _ _ _ _ _ _ c.loop-i.invariant.1 _ (sym c.in-Help.is ∙ c.argument.ensures.is) c.if-i-eq1.false

pub returns-in_default-4 : goal.returns-in_default-4
returns-in_default-4 g c = late_version _ _ _ _ _ _ c.loop-i.invariant.1 _ (sym c.in-Version.is ∙ c.argument.ensures.is) c.if-i-eq1-2.false

pub returns-in_default-5 : goal.returns-in_default-5
returns-in_default-5 g c = other _ _ _ _ _ _ c.loop-i.invariant.1 _ (sym c.in_default.is ∙ c.argument.ensures.is)

pub returns-then-count-needed : goal.returns-then-count-needed
returns-then-count-needed g c = missing _ _ _ _ _ _ c.loop-i.invariant.1 (omega (arith, c.max-count.ensures, c.if-count-needed.true))

pub returns : goal.returns
returns g c = all_read _ _ _ _ _ _ c.loop-i.invariant.1 (omega (arith, c.loop-i-test.false, c.if-count-needed.false))
