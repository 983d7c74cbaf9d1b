-- The proofs of what specs/Promises.antt states. Assumes nothing.
use mathlib.Core.Path.{◌≡◌, refl, sym, ◌∙◌, ap}
use mathlib.Core.Bool.{Bool, false, ◌&&◌}
use Prim.Native.Nat.{ℕ, ◌≤◌}
use lib.Dec.{ltb}
use native.Mathlib.Omega.{arith}
use borrow.Author.Tests.{ltb-false, le-ltb}
use Rattle.std.specs.Prelude.{Option, Some, None}
use Rattle.settings.specs.Refusal.{outside}
use Rattle.settings.specs.Settings.{settings_cause, settings_refusal}
use Rattle.settings.specs.Limits.{Limits, SettingsPlain}
use Rattle.settings.specs.declared.Settings.{Settings}
use Rattle.settings.proofs.Limits.{settings_plain}
use Rattle.settings.specs.declared.refusal.Refusal.{Refusal}
use Rattle.settings.specs.declared.refusal.Refusal.TheVariants.{Neighbours, Stamp, Sender}
use Rattle.settings.proofs.Laws.Refusal.{no_number, skip, end, skip_given, unhit, unhit_given, within, inside}
use Rattle.rule.specs.Stamp.{latest_stamp}
use Rattle.board.specs.Stand.{stand, is_running}
use Rattle.board.specs.State.{fits, runs, start_tests, start_cause, fresh, first_stage, started, pulsed, shut_many, answered, closed, closed_many}
use Rattle.board.specs.Promises.{StartPlain, RefusedOver, WrongKept, OverIgnores, ClosingsRight, OneClose}
use Rattle.board.specs.declared.Board.{Board}
use Rattle.board.specs.declared.Heard.{Heard}
use Rattle.board.proofs.Laws.State.{many_over}
use Rattle.board.proofs.Laws.Pulse.{ignored, turned_away, taken, by_way}
use Rattle.board.proofs.Laws.Closing.{jumps}

-- why a start is turned away
module _ (s : Settings) (n v : ℕ) where
  accepted : Limits s → 2 ≤ n → n ≤ 3 → v ≤ latest_stamp → start_cause s n v ≡ None
  unfolding start_cause start_tests SettingsPlain settings_refusal
  accepted l i k m =
      skip_given (settings_cause s) _ ((settings_plain s).0 l) ∙ skip Neighbours _ (within 2 3 n i k) ∙ end Stamp (le-ltb latest_stamp v m)

  keeps : start_cause s n v ≡ None → Limits s × (2 ≤ n) × (n ≤ 3) × (v ≤ latest_stamp)
  unfolding start_cause start_tests SettingsPlain settings_refusal
  keeps e =
      let t1 = unhit_given (settings_cause s) _ (no_number _ e) in
      let t2 = unhit Neighbours (outside 2 3 n) _ t1.1 in
      let t3 = unhit Stamp (ltb latest_stamp v) _ t2.1 in
      let k = inside 2 3 n t2.0 in
      ((settings_plain s).1 t1.0, k.0, k.1, ltb-false latest_stamp v t3.0)

pub start_plain : StartPlain
unfolding StartPlain started
start_plain s n v = (λ l. accepted s n v l.0 l.1 l.2 l.3, keeps s n v)

pub refused_over : RefusedOver
unfolding RefusedOver started runs fresh first_stage stand is_running
refused_over s n v k = ended (start_cause s n v) k
  where
    ended : (c : Option Refusal) → (c ≡ None → ⊥) → is_running (first_stage c) && fits (fresh s n (stand v (first_stage c))) ≡ false
    ended None k = absurd (k refl)
    ended (Some r) k = refl

pub wrong_kept : WrongKept
unfolding WrongKept
wrong_kept b k e = by_way b k (λ o. other (ignored b k o)) (turned_away b k) (λ r i. other (taken b k r i))
  where
    other : {p : Bool} {c : Board} {C : Type 0} → pulsed b k ≡ record { refusal = None; repeat = p; board = c } → C
    other f = let never : Some Sender ≡ None = sym e ∙ ap (λ (r : Heard). r.refusal) f in absurd (cc)

pub over_ignores : OverIgnores
unfolding OverIgnores closed_many answered
over_ignores b e = (λ k. ignored b k e, λ n. rw (e, many_over n b e))

pub closings_right : ClosingsRight
unfolding ClosingsRight
closings_right = jumps

pub one_close : OneClose
unfolding OneClose closed closed_many shut_many
one_close b = refl
