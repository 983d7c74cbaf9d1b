-- Steps leave walls that fit, with fewer steps to come. Assumes nothing.
use mathlib.Core.Path.{◌≡◌, refl}
use mathlib.Core.Bool.{Bool, true, false, cond}
use mathlib.Core.List.{List}
use Prim.Native.Nat.{ℕ, suc, ◌+◌, ◌*◌, ◌-◌, ◌≤◌, ◌<◌}
use native.Mathlib.Omega.{arith}
use borrow.Author.Tests.{eq-eqb, ltb-true, le-leb}
use lib.Dec.{eqb, ltb}
use lib.ListN.{length}
use Rattle.std.specs.Prelude.{Option, Some, None}
use Rattle.settings.specs.declared.refusal.Refusal.{Refusal}
use Rattle.settings.specs.Settings.{settings_cause, settings_refusal}
use Rattle.settings.proofs.Laws.Refusal.{no_number, unhit_given}
use Rattle.settings.specs.declared.Settings.{Settings}
use Rattle.settings.proofs.Laws.Settings.{limits}
use Rattle.fields.specs.Field.{field_cause, body}
use Rattle.contents.specs.Contents.{settings_size, settings_in, row_size}
use Rattle.steps.specs.Number.{settings_field_cause, start_cause, row_fields_cause}
use Rattle.row.specs.Row.{Pulses}
use Rattle.stages.specs.Fit.{place, due_size, passes, due_of, width_of, place_fits, wall_fits}
use Rattle.steps.specs.Step.{stepped, away, unless, settings_step, start_step, after_row, row_step, end_step, step_of}
use Rattle.stages.specs.declared.Place.{Place}
use Rattle.stages.specs.declared.Wall.{Wall}
use Rattle.stages.specs.declared.Wall.TheVariants.{New, Start, Row, End, Over}
use Rattle.contents.proofs.Laws.Contents.{row_small}
use Rattle.stages.proofs.Laws.{fits_due}
use Rattle.file.specs.Stands.{Stood, Stands, steps_left}

-- a step to x: it stands, and fewer than n steps are left
pub record Ahead (x : Wall) (n : ℕ) : Type 0 where
  pub stands : Stands x
  pub less : steps_left x < n

over_ahead : (n : ℕ) → 0 < n → Ahead Over n
unfolding Stands steps_left
over_ahead n i = record { stands = tt; less = i }

module _ (s : Settings) (pass : settings_refusal s ≡ 0) where
  -- row l + 1 is accepted
  row_ahead : (l at : ℕ) (b : Bool) → ltb (suc l) s.rows ≡ b → l < s.rows → at ≤ 2078 + 7734 * suc l →
      Ahead (after_row s (suc l) at) (s.rows - l + 1)
  unfolding after_row place Stands steps_left
  row_ahead l at true e i j =
      let more = ltb-true (suc l) s.rows e in
      rw e (record { stands = (record { pass = pass; row = omega arith; offset = j }, more); less = omega arith })
  row_ahead l at false e i j = rw e (record { stands = record { pass = pass; row = omega arith; offset = j }; less = omega arith })

  row_step_ahead : (l at : ℕ) (r : Pulses) (bs : List ℕ) (c : Option Refusal) → row_fields_cause s r.times bs ≡ c → l < s.rows → at ≤ 2078 + 7734 * l →
      Ahead (row_step s l at r bs).next (s.rows - l + 1)
  unfolding row_step unless stepped away
  row_step_ahead l at r bs None e i j =
      let size = row_small s.width (limits s pass).width.1 in
      rw e (row_ahead l (at + row_size s.width) (ltb (suc l) s.rows) refl i (omega arith))
  row_step_ahead l at r bs (Some why) e i j = rw e (over_ahead _ (omega arith))

  start_step_ahead : (at : ℕ) (r : Pulses) (bs : List ℕ) (c : Option Refusal) → start_cause s bs ≡ c → at ≤ 27 →
      Ahead (start_step s at r bs).next (s.rows + 2)
  unfolding start_step unless stepped away place Stands steps_left
  start_step_ahead at r bs None e i =
      let l = limits s pass in
      let some = l.rows.0 in
      let narrow = l.width.1 in
      rw e (record { stands = (record { pass = pass; row = omega arith; offset = omega arith }, some); less = omega arith })
  start_step_ahead at r bs (Some why) e i = rw e (over_ahead _ (omega arith))

  end_step_ahead : (l at : ℕ) (r : Pulses) (bs : List ℕ) (b : Bool) → eqb (length bs) 0 ≡ b → Ahead (end_step s l at r bs).next 1
  unfolding end_step stepped away
  end_step_ahead l at r bs true e = rw e (over_ahead 1 (omega arith))
  end_step_ahead l at r bs false e = rw e (over_ahead 1 (omega arith))

settings_step_ahead : (r : Pulses) (bs : List ℕ) (c : Option Refusal) → settings_field_cause bs ≡ c → Ahead (settings_step r bs).next (steps_left New)
unfolding settings_step unless stepped away place Stands steps_left settings_field_cause settings_refusal
settings_step_ahead r bs None e =
    let made = settings_in (body settings_size bs) in
    let number = unhit_given (field_cause 1 settings_size bs) (settings_cause made) (no_number _ e) in
    let few = (limits made number.1).rows.1 in
    rw e (record { stands = (record { pass = number.1; row = omega arith; offset = omega arith }, omega arith); less = omega arith })
settings_step_ahead r bs (Some why) e = rw e (over_ahead (steps_left New) (omega arith))

-- a step on a wall that stands, with something due
pub step_ahead : (x : Wall) (r : Pulses) (bs : List ℕ) → Stands x → (due_of x ≡ 0 → ⊥) → Ahead (step_of x r bs).next (steps_left x)
unfolding step_of Stands steps_left due_of due_size
step_ahead New r bs i k = settings_step_ahead r bs (settings_field_cause bs) refl
step_ahead (Start p) r bs i k = start_step_ahead p.settings i.0.pass p.offset r bs (start_cause p.settings bs) refl i.1
step_ahead (Row p) r bs i k = row_step_ahead p.settings i.0.pass p.row p.offset r bs (row_fields_cause p.settings r.times bs) refl i.1 i.0.offset
step_ahead (End p) r bs i k = end_step_ahead p.settings i.pass p.row p.offset r bs (eqb (length bs) 0) refl
step_ahead Over r bs i k = absurd (k refl)

pub step_stands : (x : Wall) (r : Pulses) (bs : List ℕ) → Stands x → Stands (step_of x r bs).next
unfolding step_of stepped Stands
step_stands New r bs i = (settings_step_ahead r bs (settings_field_cause bs) refl).stands
step_stands (Start p) r bs i = (start_step_ahead p.settings i.0.pass p.offset r bs (start_cause p.settings bs) refl i.1).stands
step_stands (Row p) r bs i =
    (row_step_ahead p.settings i.0.pass p.row p.offset r bs (row_fields_cause p.settings r.times bs) refl i.1 i.0.offset).stands
step_stands (End p) r bs i = (end_step_ahead p.settings i.pass p.row p.offset r bs (eqb (length bs) 0) refl).stands
step_stands Over r bs i = tt

-- a wall that stands fits a row of its width, and what is due of it is what the definition of a step takes
place_fit : (p : Place) → Stood p → place_fits p (cond (passes p) p.settings.width 0) ≡ true
unfolding place_fits passes
place_fit p i =
    let l = (limits p.settings i.pass).rows.1 in
    let near : p.offset ≤ 4294967295 = omega (arith, i.offset, i.row) in
    rw (eq-eqb (settings_refusal p.settings) 0 i.pass, eq-eqb p.settings.width p.settings.width refl, le-leb p.row p.settings.rows i.row, le-leb p.offset 4294967295 near)

pub stands_fits : (x : Wall) → Stands x → wall_fits x (width_of x) ≡ true
unfolding Stands wall_fits width_of
stands_fits New i = refl
stands_fits (Start p) i = place_fit p i.0
stands_fits (Row p) i = place_fit p i.0
stands_fits (End p) i = place_fit p i
stands_fits Over i = refl

pub due_right : (x : Wall) → Stands x → due_of x ≡ due_size x
due_right x i = fits_due x (width_of x) (stands_fits x i)

-- nothing is due of a wall only where it is over
pub none_due : (x : Wall) → Stands x → due_of x ≡ 0 → x ≡ Over
unfolding Stands due_of due_size passes row_size
none_due New i e = let z : ⊥ = omega arith in absurd z
none_due (Start p) i e = let z : ⊥ = omega (arith, rw (eq-eqb (settings_refusal p.settings) 0 i.0.pass) at e) in absurd z
none_due (Row p) i e = let z : ⊥ = omega (arith, rw (eq-eqb (settings_refusal p.settings) 0 i.0.pass) at e) in absurd z
none_due (End p) i e = let z : ⊥ = omega arith in absurd z
none_due Over i e = refl
