-- The number of each refusal, and what the definitions give at settings written out: the numbers 1 to 9 at and past each limit, c and J.
-- Each statement is proved in proofs/Cases.antt, under its name in small letters. Assumes nothing.
use Rattle.std.specs.Prelude.{◌≡◌, ℕ, Ok, Err}
use Rattle.settings.specs.Refusal.{number}
use Rattle.settings.specs.Settings.{settings, drift_cost, step, step_of, settings_refusal, checked}
use Rattle.settings.specs.declared.Settings.{Settings}
use Rattle.settings.specs.declared.refusal.Refusal.TheVariants.{Width, Rows, Delay, Uncertainty, Hold, Drift, Unit, UnitCost, UnitsHeld, Neighbours, Stamp, Silences, Lengths, StrayMark, LateTime, Crowded, TileDrift, Link, LateSide, Tag, Size, Short, GoesOn, LateStart, Waves, NoGap, Phase, Sender}

-- §13.1 the numbers as they are asked for: where a statement of another crate names a refusal, this is the number that it is
unfoldable pub RefusalNumbers : Type 0
RefusalNumbers =
    (number Width ≡ 1) × (number Rows ≡ 2) × (number Delay ≡ 3) × (number Uncertainty ≡ 4) × (number Hold ≡ 5) × (number Drift ≡ 6)
    × (number Unit ≡ 7) × (number UnitCost ≡ 8) × (number UnitsHeld ≡ 9)
    × (number Neighbours ≡ 11) × (number Stamp ≡ 12) × (number Silences ≡ 13)
    × (number Lengths ≡ 21) × (number StrayMark ≡ 22) × (number LateTime ≡ 23) × (number Crowded ≡ 24) × (number TileDrift ≡ 25) × (number Link ≡ 26)
    × (number LateSide ≡ 31)
    × (number Tag ≡ 41) × (number Size ≡ 42) × (number Short ≡ 43) × (number GoesOn ≡ 44) × (number LateStart ≡ 45)
    × (number Waves ≡ 51) × (number NoGap ≡ 52) × (number Phase ≡ 53) × (number Sender ≡ 54)

infix 50 ◌is◌
-- §2.5 W, R, d, u, A, r and h, in this order, are given this number, which is 0 where they pass
unfoldable pub ◌is◌ : Settings → (number : ℕ) → Type 0
s is n = settings_refusal s ≡ n

-- §14.3 at r 10,000 the unit must be 16, at r 0 and h 12 the hold must be 192
unfoldable pub SettingsCases : Type 0
SettingsCases =
    settings 6 1 100 10 400 10000 15 is 8
    × settings 6 1 100 10 400 10000 16 is 0
    × settings 6 1 100 10 191 0 12 is 9
    × settings 6 1 100 10 192 0 12 is 0
    × (checked (settings 6 1 100 10 400 10000 15) ≡ Err UnitCost)
    × (checked (settings 6 1 100 10 400 10000 16) ≡ Ok (settings 6 1 100 10 400 10000 16))

-- §2.1 all settings at their upper ends pass, and so do all at their lower ends; one past an end is that setting's number, 1 to 7.
-- A hold of 1 and a unit of 1 are in their ranges, and then 9 and 8.
unfoldable pub RangeEnds : Type 0
RangeEnds =
    settings 256 1024 1000000 51500 1000000 10000 62500 is 0
    × settings 6 1 1 0 32 0 2 is 0
    × settings 257 1024 1000000 51500 1000000 10000 62500 is 1
    × settings 5 1 1 0 32 0 2 is 1
    × settings 256 1025 1000000 51500 1000000 10000 62500 is 2
    × settings 6 0 1 0 32 0 2 is 2
    × settings 256 1024 1000001 51500 1000000 10000 62500 is 3
    × settings 6 1 0 0 32 0 2 is 3
    × settings 6 1 10 11 400 0 13 is 4
    × settings 6 1 10 10 400 0 13 is 0
    × settings 256 1024 1000000 51500 1000001 10000 62500 is 5
    × settings 6 1 1 0 0 0 2 is 5
    × settings 6 1 1 0 1 0 2 is 9
    × settings 256 1024 1000000 51500 1000000 10001 62500 is 6
    × settings 256 1024 1000000 51500 1000000 10000 62501 is 7
    × settings 6 1 1 0 32 0 0 is 7
    × settings 6 1 1 0 32 0 1 is 8

-- §2.2 8 from both sides: u + c + 2 is the unit, or one more than it, where c is 0 and where it is 9,901; and §2.3, 9: 16 units are the
-- hold, or one more than it, at the least and at the largest unit
unfoldable pub JointLimits : Type 0
JointLimits =
    settings 6 1 100 10 400 0 12 is 0
    × settings 6 1 100 11 400 0 12 is 8
    × settings 6 1 1000000 52597 1000000 10000 62500 is 0
    × settings 6 1 1000000 52598 1000000 10000 62500 is 8
    × settings 6 1 1 0 32 0 2 is 0
    × settings 6 1 1 0 31 0 2 is 9
    × settings 6 1 1 0 1000000 0 62500 is 0
    × settings 6 1 1 0 999999 0 62500 is 9

-- §13.1 all nine numbers apply, and then one setting after the other is mended: each time the lowest that is left
unfoldable pub SettingsOrder : Type 0
SettingsOrder =
    settings 5 0 0 70000 0 10001 62501 is 1
    × settings 6 0 0 70000 0 10001 62501 is 2
    × settings 6 1 0 70000 0 10001 62501 is 3
    × settings 6 1 1 70000 0 10001 62501 is 4
    × settings 6 1 70000 70000 0 10001 62501 is 5
    × settings 6 1 70000 70000 1 10001 62501 is 6
    × settings 6 1 70000 70000 1 10000 62501 is 7
    × settings 6 1 70000 70000 1 10000 62500 is 8
    × settings 6 1 70000 0 1 10000 62500 is 9
    × settings 6 1 70000 0 1000000 10000 62500 is 0

-- §2.2 c, of r and A: at r 10,000 a tick for every 101, rounded up
unfoldable pub CostCases : Type 0
CostCases =
    (drift_cost 0 400 ≡ 0)
    × (drift_cost 10000 400 ≡ 4)
    × (drift_cost 10000 101 ≡ 1)
    × (drift_cost 10000 102 ≡ 2)
    × (drift_cost 10000 1000000 ≡ 9901)

-- §2.4 J, of h and r: at r 10,000 a tick for every 50 units, rounded up; that of settings is of their unit and drift limit
unfoldable pub StepCases : Type 0
StepCases =
    (step 12 0 ≡ 24)
    × (step 12 10000 ≡ 25)
    × (step 50 10000 ≡ 101)
    × (step 51 10000 ≡ 104)
    × (step 62500 10000 ≡ 126250)
    × (step_of (settings 6 1 100 10 400 10000 16) ≡ 33)
