-- The three ways of a pulse: ignored, turned away, taken. Assumes nothing.
use mathlib.Core.Path.{◌≡◌, refl, sym, ◌∙◌, ap}
use mathlib.Core.Bool.{Bool, true, false, true≢false}
use Prim.Native.Nat.{ℕ, ◌≤◌, ◌<◌}
use native.Mathlib.Omega.{arith}
use borrow.Author.Tests.{lt-ltb, le-ltb}
use Rattle.std.specs.Prelude.{Option, Some, None}
use Rattle.settings.specs.declared.refusal.Refusal.{Refusal}
use Rattle.settings.specs.declared.refusal.Refusal.TheVariants.{Sender}
use Rattle.settings.proofs.Laws.Cases.{by_order}
use Rattle.senders.specs.Senders.{is_heard}
use Rattle.senders.proofs.Laws.Senders.{fit_is}
use Rattle.board.specs.State.{runs, hears, pulsed}
use Rattle.board.specs.declared.Board.{Board}
use Rattle.board.specs.declared.Heard.{Heard}
use Rattle.board.proofs.Laws.State.{runs_is}

module _ (b : Board) (k : ℕ) where
  pub ignored : runs b ≡ false → pulsed b k ≡ record { refusal = None; repeat = false; board = b }
  unfolding pulsed
  ignored e = rw e

  pub turned_away : runs b ≡ true → b.senders.count < k → pulsed b k ≡ record { refusal = Some Sender; repeat = false; board = b }
  unfolding pulsed
  turned_away e i = rw (e, lt-ltb b.senders.count k i)

  pub taken : runs b ≡ true → k ≤ b.senders.count → pulsed b k ≡ record { refusal = None; repeat = is_heard b.senders k; board = hears b k }
  unfolding pulsed
  taken e i = rw (e, le-ltb b.senders.count k i)

  -- a claim by each
  pub by_way {ℓ} : {C : Type ℓ} → (runs b ≡ false → C) → (runs b ≡ true → b.senders.count < k → C) → (runs b ≡ true → k ≤ b.senders.count → C) → C
  by_way {C = C} f g h = pick (runs b) refl
    where
      pick : (p : Bool) → runs b ≡ p → C
      pick true e = by_order k b.senders.count (h e) (g e)
      pick false e = f e

  -- a sender that is taken has a place
  pub placed : runs b ≡ true → k ≤ b.senders.count → k < 4
  placed e i = omega (arith, (fit_is b.senders (runs_is b e).sound.fit).most)

  -- and so has one that repeats
  pub repeat_placed : (pulsed b k).repeat ≡ true → k < 4
  repeat_placed e = by_way (λ o. none (ignored o)) (λ r i. none (turned_away r i)) placed
    where
      none : {o : Option Refusal} → pulsed b k ≡ record { refusal = o; repeat = false; board = b } → k < 4
      none f = absurd (true≢false (sym e ∙ ap (λ (r : Heard). r.repeat) f))
