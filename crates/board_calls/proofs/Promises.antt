-- The proofs of what specs/Promises.antt states. Assumes nothing.
use mathlib.Core.Path.{◌≡◌, refl, ◌∙◌, ap}
use mathlib.Core.Bool.{Bool, true, false, cond}
use Prim.Native.Nat.{ℕ}
use native.Mathlib.Omega.{arith}
use Rattle.std.specs.Prelude.{Option, Some, None}
use Rattle.settings.specs.Refusal.{refused}
use Rattle.settings.specs.declared.refusal.Refusal.{Refusal}
use Rattle.settings.specs.declared.refusal.Refusal.TheVariants as why
use Rattle.settings.specs.Settings.{settings}
use Rattle.layout.specs.Words.{settings_from, unfit}
use Rattle.board.specs.Stand.{stand}
use Rattle.board.specs.declared.stand.Stage.TheVariants.{Running, Pulsed, Ended}
use Rattle.counted.specs.State.{counted, pulsed}
use Rattle.counted.specs.Promises.{WrongKept}
use Rattle.counted.specs.declared.Counted.{Counted}
use Rattle.counted.proofs.Promises.{wrong_kept}
use Rattle.board_calls.specs.Words.{stage_in, stage_word, senders_in, tile_in, tile_words, fits_in}
use Rattle.board_calls.specs.Answers.{pulse_number, pulse_left}
use Rattle.board_calls.specs.Promises.{places, state, ReadBack, WrongLeft}

pub read_back : ReadBack
unfolding ReadBack places state counted stand senders_in tile_in tile_words settings_from settings stage_in stage_word
read_back s n f g v Running = refl
read_back s n f g v Pulsed = refl
read_back s n f g v Ended = refl

-- 54 is the number of one refusal
only_sender : (o : Option Refusal) → refused o ≡ 54 → o ≡ Some why.Sender
only_sender None e = absurd (omega (arith, e))
only_sender (Some why.Width) e = absurd (omega (arith, e))
only_sender (Some why.Rows) e = absurd (omega (arith, e))
only_sender (Some why.Delay) e = absurd (omega (arith, e))
only_sender (Some why.Uncertainty) e = absurd (omega (arith, e))
only_sender (Some why.Hold) e = absurd (omega (arith, e))
only_sender (Some why.Drift) e = absurd (omega (arith, e))
only_sender (Some why.Unit) e = absurd (omega (arith, e))
only_sender (Some why.UnitCost) e = absurd (omega (arith, e))
only_sender (Some why.UnitsHeld) e = absurd (omega (arith, e))
only_sender (Some why.Neighbours) e = absurd (omega (arith, e))
only_sender (Some why.Stamp) e = absurd (omega (arith, e))
only_sender (Some why.Silences) e = absurd (omega (arith, e))
only_sender (Some why.Lengths) e = absurd (omega (arith, e))
only_sender (Some why.StrayMark) e = absurd (omega (arith, e))
only_sender (Some why.LateTime) e = absurd (omega (arith, e))
only_sender (Some why.Crowded) e = absurd (omega (arith, e))
only_sender (Some why.TileDrift) e = absurd (omega (arith, e))
only_sender (Some why.Link) e = absurd (omega (arith, e))
only_sender (Some why.LateSide) e = absurd (omega (arith, e))
only_sender (Some why.Tag) e = absurd (omega (arith, e))
only_sender (Some why.Size) e = absurd (omega (arith, e))
only_sender (Some why.Short) e = absurd (omega (arith, e))
only_sender (Some why.GoesOn) e = absurd (omega (arith, e))
only_sender (Some why.LateStart) e = absurd (omega (arith, e))
only_sender (Some why.Waves) e = absurd (omega (arith, e))
only_sender (Some why.NoGap) e = absurd (omega (arith, e))
only_sender (Some why.Phase) e = absurd (omega (arith, e))
only_sender (Some why.Sender) e = refl

-- 54 keeps the state, and so its words
kept : (t : Counted) (k : ℕ) → refused (pulsed t k).refusal ≡ 54 → (pulsed t k).tile ≡ t
unfolding WrongKept
kept t k e = wrong_kept t k (only_sender (pulsed t k).refusal e)

pub wrong_left : WrongLeft
unfolding WrongLeft pulse_number pulse_left ReadBack
wrong_left s n f g v x k e = pick (fits_in (tile_words (state s n f g v x))) e
  where
    pick : (p : Bool) → let ws = tile_words (state s n f g v x) in
        cond p (refused (pulsed (tile_in ws) k).refusal) unfit ≡ 54 → cond p (tile_words (pulsed (tile_in ws) k).tile) ws ≡ ws
    pick true e = ap tile_words (kept _ k e ∙ read_back s n f g v x)
    pick false e = refl
