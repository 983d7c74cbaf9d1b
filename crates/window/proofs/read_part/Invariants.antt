-- The window starts where it did and its bytes still stand there. The measure is what is still to be read. Assumes nothing.
use mathlib.Core.Path.{◌≡◌}
use Prim.Native.Nat.{◌≤◌}
use lib.ListN.{length, take}
use Rattle.window.specs.Window.{InBuffer}
use Rattle.window.proofs.Laws.Window.{to_read}
use Rattle.window.proofs.read_part.Given as goal

abbrev pub invariant-loop-from : goal.invariant-loop-from
invariant-loop-from g l =
    InBuffer l.window (length l.input) × (length l.input ≡ length l.fn.input) × (l.window.start ≡ l.fn.window.start) × (l.fn.window.end ≤ l.window.end) × (take l.fn.window.end l.input ≡ take l.fn.window.end l.fn.input)

abbrev pub decreases-loop-from : goal.decreases-loop-from
decreases-loop-from g l = to_read l.due l.window
