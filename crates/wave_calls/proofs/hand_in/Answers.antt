-- `hand_in` meets its contract. Assumes nothing.
use mathlib.Core.Path.{◌≡◌, sym, ◌∙◌, ap}
use mathlib.Core.Bool.{false}
use mathlib.Core.List.{List}
use Prim.Native.Nat.{ℕ}
use Rattle.waves.specs.Wave.{Wave, wave, answer}
use Rattle.waves.specs.State.{fits, handed}
use Rattle.waves.specs.Promises.{UnfitKept}
use Rattle.waves.specs.declared.Waves.{Waves}
use Rattle.waves.proofs.Promises.{unfit_kept}
use Rattle.wave_calls.specs.Answers.{waves_in, wave_number, wave_left, wave_side, wave_halves}
use Rattle.wave_calls.proofs.hand_in.Goals as goal

-- a state that does not fit stays
stays : (ws : List ℕ) (w : Wave) → fits (waves_in ws) ≡ false → wave_left ws w ≡ ws
unfolding wave_left waves_in UnfitKept
stays ws w e = ap (λ (s : Waves). s.words) ((unfit_kept (waves_in ws) e).0 w).0

pub returns-then-fits : goal.returns-then-fits
unfolding handed waves_in wave_number wave_left wave_side wave_halves
returns-then-fits c = let fit = sym c.fits.ensures ∙ c.if-fits.true in
    let a = c.args in
    let e = c.hand_in-handed.ensures in
    let seam : c.hand_in-handed.result.seam ≡ answer (wave a.left a.left_faulty a.right a.right_faulty) = rw e in
    let n = c.seam_left.ensures in
    record {
      number = rw (fit, ← seam) n.number;
      words = rw e;
      side = rw (fit, ← seam) n.side;
      halves = rw (fit, ← seam) n.halves;
    }

pub returns : goal.returns
unfolding waves_in wave_number wave_left wave_side wave_halves
returns c = let unfit_state = sym c.fits.ensures ∙ c.if-fits.false in
    record {
      number = sym (rw unfit_state);
      words = sym (stays _ _ unfit_state);
      side = sym (rw unfit_state);
      halves = sym (rw unfit_state);
    }
