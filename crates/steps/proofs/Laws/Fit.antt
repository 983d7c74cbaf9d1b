-- Rows that fit together, and a row that does not. Assumes nothing.
use mathlib.Core.Path.{◌≡◌, refl, sym, ◌∙◌}
use mathlib.Core.Bool.{Bool, true, false, ◌&&◌, true≢false, and-eq-true_iff}
use Prim.Native.Nat.{ℕ}
use lib.ListN.{length}
use Rattle.row.specs.Row.{Pulses}
use Rattle.stages.specs.Fit.{width_of, wall_fits}
use Rattle.steps.specs.Take.{all_fit}
use Rattle.stages.specs.declared.Wall.{Wall}
use Rattle.stages.proofs.Laws.{fits_width}

-- rows that fit together, and a row that does not
module _ (x : Wall) (n : ℕ) (held : Pulses) where
  pub fit_all : all_fit x n held ≡ true → (wall_fits x n ≡ true) × (wall_fits x (length held.times) ≡ true) × (wall_fits x (length held.letters) ≡ true)
  unfolding all_fit
  fit_all e =
      let t = wall_fits x (length held.times) in
      let l = wall_fits x (length held.letters) in
      let a = (and-eq-true_iff (wall_fits x n) (t && l)).0 e in
      let b = (and-eq-true_iff t l).0 a.1 in
      (a.0, b.0, b.1)

  pub fit_none : length held.times ≡ width_of x → length held.letters ≡ width_of x → all_fit x n held ≡ false → wall_fits x n ≡ false
  unfolding all_fit
  fit_none w v e = go (wall_fits x n) refl
    where
      go : (b : Bool) → wall_fits x n ≡ b → wall_fits x n ≡ false
      go false f = f
      go true f = absurd (true≢false (sym (rw (f, w, v, fits_width x n f)) ∙ e))
