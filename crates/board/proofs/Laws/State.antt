-- What is known of a tile that runs, and that one whose run is over stays as it is. Assumes nothing.
use mathlib.Core.Path.{◌≡◌, refl, sym, ap}
use mathlib.Core.Bool.{true, false, ◌&&◌, and-eq-true_iff, true≢false}
use Prim.Native.Nat.{ℕ, zero, suc, ◌≤◌}
use lib.Dec.{eqb, leb}
use borrow.Author.Tests.{eqb-true, eq-eqb, ne_eqb, leb-true, le-leb}
use Rattle.std.specs.Prelude.{Option, Some, None, is_ok}
use Rattle.settings.specs.Refusal.{refused, answer}
use Rattle.settings.specs.Settings.{settings_refusal}
use Rattle.settings.specs.declared.refusal.Refusal.{Refusal}
use Rattle.settings.proofs.Laws.Refusal.{numbered}
use Rattle.senders.specs.Senders.{last, fit}
use Rattle.senders.proofs.Laws.Due.{Sound}
use Rattle.board.specs.Stand.{stand, is_running}
use Rattle.board.specs.State.{fits, runs, at, shut, shut_many}
use Rattle.board.specs.declared.Board.{Board}
use Rattle.board.specs.declared.stand.Stage.{Stage}
use Rattle.board.specs.declared.stand.Stage.TheVariants.{Running, Pulsed, Ended}

-- settings pass their check where they have no number
pub checked : (c : Option Refusal) → is_ok (answer {A = Unit {0}} c tt) ≡ eqb (refused c) 0
unfolding answer
checked None = refl
checked (Some r) = sym (ne_eqb (refused (Some r)) 0 (numbered r))

pub record Runs (b : Board) : Type 0 where
  pub running : b.stand.stage ≡ Running
  pub sound : Sound b.settings b.senders
  pub opened : b.stand.reading ≤ last

stage_running : (s : Stage) → is_running s ≡ true → s ≡ Running
unfolding is_running
stage_running Running e = refl
stage_running Pulsed e = absurd (true≢false (sym e))
stage_running Ended e = absurd (true≢false (sym e))

pub runs_is : (b : Board) → runs b ≡ true → Runs b
unfolding runs fits
runs_is b e =
    let c = eqb (settings_refusal b.settings) 0 in
    let t = (and-eq-true_iff (is_running b.stand.stage) (fits b)).0 e in
    let u = (and-eq-true_iff (c && fit b.senders) (leb b.stand.reading last)).0 t.1 in
    let v = (and-eq-true_iff c (fit b.senders)).0 u.0 in
    record {
      running = stage_running b.stand.stage t.0;
      sound = record { checked = eqb-true (settings_refusal b.settings) 0 v.0; fit = v.1 };
      opened = leb-true b.stand.reading last u.1;
    }

-- what runs is what fits
pub runs_fits : (b : Board) → b.stand.stage ≡ Running → runs b ≡ fits b
unfolding runs is_running
runs_fits b e = ap (λ (s : Stage). is_running s && fits b) e

-- at an open reading it runs
pub runs_at : (b : Board) (v : ℕ) → Sound b.settings b.senders → v ≤ last → runs (at b (stand v Running)) ≡ true
unfolding runs fits at stand is_running
runs_at b v s i = rw (eq-eqb (settings_refusal b.settings) 0 s.checked, s.fit, le-leb v last i)

-- one that does not run stays
module _ (b : Board) (e : runs b ≡ false) where
  pub shut_over : shut b ≡ b
  unfolding shut
  shut_over = rw e

pub many_over : (n : ℕ) (b : Board) → runs b ≡ false → shut_many n b ≡ b
unfolding shut_many
many_over zero b e = refl
many_over (suc n) b e = rw (shut_over b e) (many_over n b e)
