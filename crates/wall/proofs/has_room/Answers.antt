-- `has_room` meets its contract. Assumes nothing.
use mathlib.Core.Path.{◌≡◌, sym, ◌∙◌}
use Prim.Native.Nat.{ℕ, ◌+◌, ◌-◌, ◌≤◌}
use lib.Dec.{leb}
use native.Mathlib.Omega.{arith}
use borrow.Author.Tests.{le-leb, lt-leb}
use Rattle.settings.proofs.Laws.Cases.{by_order}
use Rattle.wall.proofs.has_room.Goals as goal

moved : (at room k : ℕ) → k ≤ room → leb at (room - k) ≡ leb (at + k) room
moved at room k i =
    by_order (at + k) room
    (λ j. le-leb at (room - k) (omega (arith, i, j)) ∙ sym (le-leb (at + k) room j))
    (λ j. lt-leb at (room - k) (omega (arith, i, j)) ∙ sym (lt-leb (at + k) room j))

pub returns-then-room-lt-ROOM : goal.returns-then-room-lt-ROOM
returns-then-room-lt-ROOM c = let s = c.args in sym (lt-leb (s.at + 25152) s.room (omega arith))

pub returns : goal.returns
returns c = let s = c.args in moved s.at s.room 25152 (omega arith)
