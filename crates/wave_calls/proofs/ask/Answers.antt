-- `ask` meets its contract. Assumes nothing.
use mathlib.Core.Path.{◌≡◌, sym, ◌∙◌}
use mathlib.Core.Bool.{false}
use Rattle.std.specs.Prelude.{Err}
use Rattle.settings.specs.declared.refusal.Refusal.TheVariants.{NoGap}
use Rattle.waves.specs.State.{fits, asked}
use Rattle.waves.specs.Promises.{UnfitKept}
use Rattle.waves.specs.declared.Waves.{Waves}
use Rattle.waves.proofs.Promises.{unfit_kept}
use Rattle.calls.specs.Answers.{left}
use Rattle.wave_calls.specs.Answers.{waves_in, ask_number, extremes_half_ticks, extremes_ticks, half_ticks_left, ticks_left}
use Rattle.wave_calls.proofs.ask.Goals as goal

-- a state that does not fit holds no wave
nothing : (s : Waves) → fits s ≡ false → asked s ≡ Err NoGap
unfolding UnfitKept
nothing s e = (unfit_kept s e).1

pub returns-then-fits : goal.returns-then-fits
unfolding waves_in ask_number half_ticks_left ticks_left
returns-then-fits c = let fit = sym c.fits.ensures ∙ c.if-fits.true in
    let n = c.extremes_left.ensures in
    record {
      number = rw (fit, ← c.ask.ensures) n.number;
      half_ticks = rw (← c.ask.ensures) n.half_ticks;
      ticks = rw (← c.ask.ensures) n.ticks;
    }

pub returns : goal.returns
unfolding waves_in ask_number half_ticks_left ticks_left extremes_half_ticks extremes_ticks left
returns c = let unfit_state = sym c.fits.ensures ∙ c.if-fits.false in
    record {
      number = sym (rw unfit_state);
      half_ticks = sym (rw (nothing _ unfit_state));
      ticks = sym (rw (nothing _ unfit_state));
    }
