-- `own_first` meets its contract, by own's place. Assumes nothing.
use mathlib.Core.Path.{◌≡◌, refl}
use Prim.Native.Nat.{suc, ◌-◌}
use native.Mathlib.Omega.{arith}
use Rattle.pulse.specs.Arranged.{arranged}
use Rattle.pulse.proofs.own_first.Goals as goal

pub returns-in-0 : goal.returns-in-0
unfolding arranged
returns-in-0 c = rw c.in-0.is (refl, refl, refl)

pub returns-in-1 : goal.returns-in-1
unfolding arranged
returns-in-1 c = rw c.in-1.is (refl, refl, refl)

pub returns-in_default : goal.returns-in_default
unfolding arranged
returns-in_default c = let third : c.args.place ≡ suc (suc (c.args.place - 2)) = omega arith in rw third (refl, refl, refl)
