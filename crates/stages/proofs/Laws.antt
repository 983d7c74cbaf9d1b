-- What fits a wall, test by test, and what is known where it fits. Assumes nothing.
use mathlib.Core.Path.{◌≡◌, refl, sym, ◌∙◌, ap}
use mathlib.Core.Bool.{true, cond, and-eq-true_iff}
use Prim.Native.Nat.{ℕ, ◌≤◌}
use lib.Dec.{eqb, leb}
use borrow.Author.Tests.{eq-eqb, ne_eqb, eqb-true, leb-true}
use Rattle.std.specs.Prelude.{Option, Some, None, is_ok}
use Rattle.settings.specs.Refusal.{number, refused, answer}
use Rattle.settings.specs.declared.refusal.Refusal.{Refusal}
use Rattle.settings.specs.Settings.{settings_cause, settings_refusal}
use Rattle.settings.proofs.Laws.Refusal.{numbered}
use Rattle.settings.proofs.Laws.Settings.{limits}
use Rattle.stages.specs.Fit.{due_size, passes, due_of, width_of, place_fits, wall_fits}
use Rattle.stages.specs.declared.Place.{Place}
use Rattle.stages.specs.declared.Wall.{Wall}
use Rattle.stages.specs.declared.Wall.TheVariants.{New, Start, Row, End, Over}

-- the settings pass where their check answers that they do
pub checked_again : (p : Place) → is_ok (answer (settings_cause p.settings) (tt {0})) ≡ passes p
unfolding passes settings_refusal
checked_again p = go (settings_cause p.settings)
  where
    go : (c : Option Refusal) → is_ok (answer c (tt {0})) ≡ eqb (refused c) 0
    go None = unfold answer in refl
    go (Some why) = unfold answer in sym (ne_eqb (number why) 0 (numbered why))

-- settings that pass are narrow
pub narrow : (p : Place) → passes p ≡ true → p.settings.width ≤ 256
unfolding passes
narrow p e = (limits p.settings (eqb-true (settings_refusal p.settings) 0 e)).width.1

-- a place that fits
pub record Fit (p : Place) (n : ℕ) : Type 0 where
  pub pass : settings_refusal p.settings ≡ 0
  pub long : n ≡ p.settings.width
  pub row : p.row ≤ p.settings.rows
  pub offset : p.offset ≤ 4294967295

pub fit_of : (p : Place) (n : ℕ) → place_fits p n ≡ true → Fit p n
unfolding place_fits passes
fit_of p n e =
    let a = (and-eq-true_iff (eqb (settings_refusal p.settings) 0) _).0 e in
    let b = (and-eq-true_iff (eqb n p.settings.width) _).0 a.1 in
    let c = (and-eq-true_iff (leb p.row p.settings.rows) _).0 b.1 in
    record {
      pass = eqb-true (settings_refusal p.settings) 0 a.0;
      long = eqb-true n p.settings.width b.0;
      row = leb-true p.row p.settings.rows c.0;
      offset = leb-true p.offset 4294967295 c.1;
    }

-- a wall that fits a call is given what the definition of a step takes
pub fits_due : (x : Wall) (n : ℕ) → wall_fits x n ≡ true → due_of x ≡ due_size x
unfolding due_of wall_fits passes
fits_due New n e = refl
fits_due (Start p) n e = rw (eq-eqb _ _ (fit_of p n e).pass)
fits_due (Row p) n e = rw (eq-eqb _ _ (fit_of p n e).pass)
fits_due (End p) n e = refl
fits_due Over n e = refl

-- a row of W fits where any row does
place_width : (p : Place) (n : ℕ) → place_fits p n ≡ true → place_fits p (cond (passes p) p.settings.width 0) ≡ true
unfolding passes
place_width p n e =
    let f = fit_of p n e in
    rw (eq-eqb (settings_refusal p.settings) 0 f.pass) (sym (ap (place_fits p) f.long) ∙ e)

pub fits_width : (x : Wall) (n : ℕ) → wall_fits x n ≡ true → wall_fits x (width_of x) ≡ true
unfolding wall_fits width_of
fits_width New n e = refl
fits_width (Start p) n e = place_width p n e
fits_width (Row p) n e = place_width p n e
fits_width (End p) n e = place_width p n e
fits_width Over n e = refl
