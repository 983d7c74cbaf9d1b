-- `gathered` meets its contract: its digits are the marks of the window. Assumes nothing.
use mathlib.Core.Path.{◌≡◌, refl, sym, ◌∙◌}
use mathlib.Core.Bool.{Bool, true, false, cond}
use Prim.Native.Nat.{ℕ, ◌+◌, ◌≤◌, ◌<◌}
use mir.Val.{bool_byte}
use native.Mathlib.Omega.{arith}
use Rattle.columns.specs.Marks.{mark_bytes}
use Rattle.columns.proofs.Laws.Window.{sender_in, sender_in_four, gathered_three, gathered_four}
use Rattle.admission.proofs.gathered.Goals.{After-first_sender-k, Then-four_senders}
use Rattle.admission.proofs.gathered.Goals as goal

-- the window lies in the row
in_row : (c : After-first_sender-k) → c.first_sender-k.result + 2 < c.args.width
in_row c = omega (arith, c.first_sender-k.ensures, sender_in c.args.width c.args.c c.requires.0 c.requires.2)

in_row_four : (c : Then-four_senders) → c.first_sender-k.result + 3 < c.args.width
in_row_four c =
    omega (arith, c.first_sender-k.ensures, sender_in_four c.args.width c.args.c c.requires.0 (sym c.four_senders.ensures ∙ c.if-four_senders.true))

-- a mark as a number is its digit, and at most 1
as_digit : (b : Bool) → bool_byte b ≡ cond b 1 0
as_digit true = refl
as_digit false = refl

digit_of : {b m : Bool} {r : ℕ} → r ≡ bool_byte b → b ≡ m → r ≡ cond m 1 0
digit_of {b} e f = rw (← f) (e ∙ as_digit b)

at_most : (b : Bool) {r : ℕ} → r ≡ bool_byte b → r ≤ 1
at_most true e = omega (arith, e)
at_most false e = omega (arith, e)

pub marked-requires : goal.marked-requires
unfolding mark_bytes
marked-requires c = omega (arith, in_row c)

pub overflow_add-k : goal.overflow_add-k
overflow_add-k c = omega (arith, in_row (goal.at.overflow_add-k c).After-first_sender-k)

pub marked-requires-2 : goal.marked-requires-2
unfolding mark_bytes
marked-requires-2 c = omega (arith, in_row (goal.at.marked-requires-2 c).After-first_sender-k)

pub overflow_add-k-2 : goal.overflow_add-k-2
overflow_add-k-2 c = omega (arith, in_row (goal.at.overflow_add-k-2 c).After-first_sender-k)

pub marked-requires-3 : goal.marked-requires-3
unfolding mark_bytes
marked-requires-3 c = omega (arith, in_row (goal.at.marked-requires-3 c).After-first_sender-k)

pub overflow_mul-three : goal.overflow_mul-three
overflow_mul-three c = omega (arith, at_most _ c.from.ensures)

pub overflow_add-three : goal.overflow_add-three
overflow_add-three c = omega (arith, at_most _ c.from.ensures, at_most _ c.from-2.ensures)

pub overflow_mul-three-2 : goal.overflow_mul-three-2
overflow_mul-three-2 c = omega (arith, at_most _ c.from.ensures, at_most _ c.from-2.ensures)

pub overflow_add-three-2 : goal.overflow_add-three-2
overflow_add-three-2 c = omega (arith, at_most _ c.from.ensures, at_most _ c.from-2.ensures, at_most _ c.from-3.ensures)

pub overflow_mul-result : goal.overflow_mul-result
overflow_mul-result c = omega (arith, at_most _ c.from.ensures, at_most _ c.from-2.ensures, at_most _ c.from-3.ensures)

pub overflow_add-k-then-four_senders : goal.overflow_add-k-then-four_senders
overflow_add-k-then-four_senders c = omega (arith, in_row_four (goal.at.overflow_add-k-then-four_senders c).Then-four_senders)

pub marked-requires-then-four_senders : goal.marked-requires-then-four_senders
unfolding mark_bytes
marked-requires-then-four_senders c = omega (arith, in_row_four (goal.at.marked-requires-then-four_senders c).Then-four_senders)

pub overflow_add-result : goal.overflow_add-result
overflow_add-result c = omega (arith, at_most _ c.from.ensures, at_most _ c.from-2.ensures, at_most _ c.from-3.ensures, at_most _ c.from-then-four_senders.ensures)

pub returns-then-four_senders : goal.returns-then-four_senders
returns-then-four_senders c = let a = c.args in
    gathered_four a.marks.now a.width a.c c.first_sender-k.result c.requires.0 c.requires.2 c.first_sender-k.ensures
    c.from.result c.from-2.result c.from-3.result
    (digit_of c.from.ensures c.marked.ensures) (digit_of c.from-2.ensures c.marked-2.ensures) (digit_of c.from-3.ensures c.marked-3.ensures)
    c.from-then-four_senders.result (digit_of c.from-then-four_senders.ensures c.marked-then-four_senders.ensures) (sym c.four_senders.ensures ∙ c.if-four_senders.true)

pub returns-else-four_senders : goal.returns-else-four_senders
returns-else-four_senders c = let a = c.args in
    gathered_three a.marks.now a.width a.c c.first_sender-k.result c.requires.0 c.requires.2 c.first_sender-k.ensures
    c.from.result c.from-2.result c.from-3.result
    (digit_of c.from.ensures c.marked.ensures) (digit_of c.from-2.ensures c.marked-2.ensures) (digit_of c.from-3.ensures c.marked-3.ensures)
    (sym c.four_senders.ensures ∙ c.if-four_senders.false)
