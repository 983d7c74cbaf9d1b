-- `stretch` meets its contract: each column that is tested makes the stretch one tile longer. Assumes nothing.
use mathlib.Core.Path.{◌≡◌, sym, ◌∙◌}
use Prim.Native.Nat.{◌+◌, ◌≤◌}
use native.Mathlib.Omega.{arith}
use Rattle.columns.specs.Marks.{mark_bytes}
use Rattle.columns.proofs.Laws.Plain.{plain_more}
use Rattle.columns.proofs.stretch.Goals.{In-loop-n}
use Rattle.columns.proofs.stretch.Goals as goal

-- the next column is before the last two
inside : (c : In-loop-n) → let a = c.args in a.c + c.loop-n.n + 4 ≤ a.width
inside c = omega (arith, c.loop-n-test.true, c.to_next_byte-most.ensures)

pub to_next_byte-most-requires : goal.to_next_byte-most-requires
to_next_byte-most-requires c = let p = c.requires in (omega (arith, p.2.short), p.0)

pub loop-n-init : goal.loop-n-init
loop-n-init c = c.requires.2

pub overflow_add-c : goal.overflow_add-c
overflow_add-c c = omega (arith, inside c, c.requires.0)

pub overflow_add-c-in-loop-n : goal.overflow_add-c-in-loop-n
overflow_add-c-in-loop-n c = omega (arith, inside c, c.requires.0)

pub marked-requires : goal.marked-requires
unfolding mark_bytes
marked-requires c = omega (arith, inside c, c.requires.1)

pub returns-then-marked : goal.returns-then-marked
returns-then-marked c = c.loop-n.invariant

pub loop-n-preserved : goal.loop-n-preserved
loop-n-preserved c = let a = c.args in
    plain_more a.width a.marks.now c.loop-n.invariant (omega (arith, inside (goal.at.loop-n-preserved c).In-loop-n)) (sym c.marked.ensures ∙ c.if-marked.false)

pub returns : goal.returns
returns c = let all : c.loop-n.n ≡ c.to_next_byte-most.result = omega arith in rw all at c.loop-n.invariant
