-- Bytes of marks that hold none: their tiles have at most one faulty predecessor. Assumes nothing.
use mathlib.Core.Path.{◌≡◌}
use mathlib.Core.Bool.{false}
use mathlib.Core.List.{List}
use Prim.Native.Nat.{ℕ, ◌+◌, ◌-◌, ◌≤◌, ◌<◌}
use native.Mathlib.Omega.{arith}
use borrow.Author.Tests.{le-ltb}
use Rattle.settings.proofs.Laws.Cases.{by_order}
use Rattle.columns.specs.Columns.{predecessors}
use Rattle.columns.specs.Marks.{marked, faulty_among}
use Rattle.columns.specs.Plain.{Quiet}
use Rattle.admission.specs.Refusal.{crowded}
use Rattle.columns.specs.Window.{four_senders}
use Rattle.columns.proofs.Laws.Columns.{four_no}
use Rattle.columns.proofs.Laws.Lists.{by_test}
use Rattle.columns.proofs.Laws.Plain.{quiet_column}
use Rattle.columns.proofs.Laws.Window.{digit, digit_most, sender_low, sender_inner, faulty_three, faulty_four}

module _ (w : ℕ) (ms : List ℕ) {c : ℕ} (q : Quiet w ms c) where
  blank : (k : ℕ) → c ≤ k → k < c + 8 → digit ms k ≡ 0
  blank k i j = rw (quiet_column w ms q k i j)

  -- the first three tiles hear the first four columns at most
  early : (k : ℕ) → c ≤ k → k ≤ 2 → faulty_among ms (predecessors w k) ≤ 1
  early k i j =
      let low = sender_low w k j in
      let zero : c ≡ 0 = omega (arith, q.starts) in
      by_test (four_senders w k)
      (λ f. omega (arith, faulty_four ms w k 0 (omega (arith, q.inside)) (omega (arith, q.inside)) (omega (arith, low)) f, blank 0 (omega arith) (omega arith), blank 1 (omega arith) (omega arith), blank 2 (omega arith) (omega arith), blank 3 (omega arith) (omega arith)))
      (λ f. omega (arith, faulty_three ms w k 0 (omega (arith, q.inside)) (omega (arith, q.inside)) (omega (arith, low)) f, blank 0 (omega arith) (omega arith), blank 1 (omega arith) (omega arith), blank 2 (omega arith) (omega arith)))

  -- another hears its neighbours, of which one at most is outside the byte
  later : (j : ℕ) → c ≤ j + 1 → j + 1 < c + 8 → 2 < j + 1 → faulty_among ms (predecessors w (j + 1)) ≤ 1
  later j i l m =
      let first = sender_inner w (j + 1) m (omega (arith, q.inside)) in
      let four = four_no w (j + 1) (omega (arith, q.inside)) (omega (arith, q.inside)) (omega arith) (omega (arith, q.inside)) in
      let sum = faulty_three ms w (j + 1) j (omega (arith, q.inside)) (omega (arith, q.inside)) (omega (arith, first)) four in
      by_order (c + 7) (j + 1)
      (λ o. omega (arith, sum, blank j (omega arith) (omega arith), blank (j + 1) i l, digit_most (marked ms (j + 2))))
      (λ o. omega (arith, sum, blank (j + 1) i l, blank (j + 2) (omega arith) (omega arith), digit_most (marked ms j)))

  pub quiet_tile : (k : ℕ) → c ≤ k → k < c + 8 → crowded w ms k ≡ false
  unfolding crowded
  quiet_tile k i j =
      le-ltb 1 (faulty_among ms (predecessors w k))
      (by_order k 2
      (λ l. early k i l)
      (λ l. let before : k ≡ (k - 1) + 1 = omega arith in rw before (later (k - 1) (omega arith) (omega arith) (omega arith))))
