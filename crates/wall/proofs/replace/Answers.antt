-- `replace` meets its contract. Assumes nothing.
use mathlib.Core.Path.{◌≡◌, sym, ap}
use mathlib.Core.List.{List}
use Prim.Native.Nat.{ℕ}
use Rattle.row.specs.Row.{pulses}
use Rattle.wall.specs.Operation.{accepted_row}
use Rattle.wall.proofs.Laws.Replaced.{start_long, row_long}
use Rattle.wall.proofs.replace.Goals as goal

both : {ts us ls ms : List ℕ} → ts ≡ us → ls ≡ ms → pulses ts ls ≡ pulses us ms
both e d = rw (e, d)

pub copy_from_slice-requires : goal.copy_from_slice-requires
copy_from_slice-requires c = sym (start_long _ _ _ c.in-Start.is c.requires.0 c.requires.2).0

pub copy_from_slice-requires-in-Row : goal.copy_from_slice-requires-in-Row
copy_from_slice-requires-in-Row c = sym (row_long _ _ _ c.in-Row.is c.requires.0 c.requires.2).0

pub copy_from_slice-requires-in-Row-2 : goal.copy_from_slice-requires-in-Row-2
copy_from_slice-requires-in-Row-2 c = sym (row_long _ _ _ c.in-Row.is c.requires.1 c.requires.3).0

pub returns-in-New : goal.returns-in-New
unfolding accepted_row
returns-in-New c = rw c.in-New.is

pub returns-in-Start : goal.returns-in-Start
unfolding accepted_row
returns-in-Start c = rw c.in-Start.is (ap (λ (ts : List ℕ). pulses ts c.args.letters.now) c.copy_from_slice.ensures.after)

pub returns-in-Row : goal.returns-in-Row
unfolding accepted_row
returns-in-Row c = rw c.in-Row.is (both c.copy_from_slice-in-Row.ensures.after c.copy_from_slice-in-Row-2.ensures.after)

pub returns-in-End : goal.returns-in-End
unfolding accepted_row
returns-in-End c = rw c.in-End.is

pub returns-in-Over : goal.returns-in-Over
unfolding accepted_row
returns-in-Over c = rw c.in-Over.is
