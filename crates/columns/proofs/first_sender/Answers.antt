-- `first_sender` meets its contract: its tests are the definition's. Assumes nothing.
use Prim.Native.Nat.{◌-◌}
use borrow.Author.Tests.{le-leb, lt-leb}
use Rattle.columns.specs.Window.{first_sender}
use Rattle.columns.proofs.first_sender.Goals as goal

pub returns-then-c-le2 : goal.returns-then-c-le2
unfolding first_sender
returns-then-c-le2 c = rw (le-leb c.args.c 2 c.if-c-le2.true)

pub returns-then-width-c : goal.returns-then-width-c
unfolding first_sender
returns-then-width-c c = let a = c.args in
    rw (lt-leb a.c 2 c.if-c-le2.false, le-leb (a.width - 2) a.c c.if-width-c.true)

pub returns : goal.returns
unfolding first_sender
returns c = let a = c.args in
    rw (lt-leb a.c 2 c.if-c-le2.false, lt-leb (a.width - 2) a.c c.if-width-c.false)
