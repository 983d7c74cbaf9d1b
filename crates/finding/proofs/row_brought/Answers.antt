-- `row_brought` meets its contract. Assumes nothing.
use mathlib.Core.Path.{◌≡◌, sym, ◌∙◌}
use mathlib.Core.Bool.{Bool, true, false, cond}
use mathlib.Core.List.{List}
use Prim.Native.Nat.{ℕ}
use borrow.Author.Tests.{eq-eqb, ne_eqb}
use Rattle.std.specs.Prelude.{Option, Some, None, Result}
use Rattle.std.specs.Bool.{then_some}
use Rattle.settings.specs.declared.refusal.Refusal.{Refusal}
use Rattle.stages.specs.declared.Place.{Place}
use Rattle.wide.specs.Wide.{first_wide}
use Rattle.wide.specs.declared.Wide.{Wide}
use Rattle.finding.specs.Brought.{first_brought, row_brought}
use Rattle.finding.specs.declared.Brought.{Brought}
use Rattle.finding.specs.declared.Brought.TheVariants.{No}
use Rattle.finding.proofs.row_brought.Goals as goal

-- row 0, and a row that is shown
module _ (n : ℕ) (p : Place) (last : Bool) (ms ts : List ℕ) where
  unshown : p.row ≡ 0 → row_brought n p last ms ts ≡ cond last (Some No) None
  unfolding row_brought first_brought
  unshown z = rw (eq-eqb p.row 0 z)

  shown : {r : Result (Option Wide) Refusal} → (p.row ≡ 0 → ⊥) → r ≡ first_wide p.settings ts ms n → row_brought n p last ms ts ≡ first_brought p.row last r
  unfolding row_brought
  shown k e = rw (ne_eqb p.row 0 k, ← e)

-- what is brought without a wide seam
without : {b : Option Brought} (last : Bool) → b ≡ then_some last No → b ≡ cond last (Some No) None
without true e = e
without false e = e

pub returns-then-place-eq0 : goal.returns-then-place-eq0
returns-then-place-eq0 c = let a = c.args in
    without a.last c.then_some-without.ensures ∙ sym (unshown a.limit a.place a.last a.marks.now a.row.now c.if-place-eq0.true)

pub returns-in-Ok-Some : goal.returns-in-Ok-Some
unfolding first_brought
returns-in-Ok-Some c = let a = c.args in
    sym (shown a.limit a.place a.last a.marks.now a.row.now c.if-place-eq0.false (rw c.in-Ok-Some.field-0-is at c.in-Ok-Some.ensures))

pub returns-in-Ok-None : goal.returns-in-Ok-None
unfolding first_brought
returns-in-Ok-None c = let a = c.args in
    without a.last c.then_some-without.ensures
    ∙ sym (shown a.limit a.place a.last a.marks.now a.row.now c.if-place-eq0.false (rw c.in-Ok-None.field-0-is at c.in-Ok-None.ensures))

pub returns-in-Err : goal.returns-in-Err
unfolding first_brought
returns-in-Err c = let a = c.args in
    without a.last c.then_some-without.ensures
    ∙ sym (shown a.limit a.place a.last a.marks.now a.row.now c.if-place-eq0.false c.in-Err.ensures)
