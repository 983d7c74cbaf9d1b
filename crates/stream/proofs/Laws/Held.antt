-- What is held between two steps of a run: the wall's row, and the bytes that are read. Assumes nothing.
use mathlib.Core.Path.{◌≡◌, refl, sym, ap}
use mathlib.Core.Bool.{Bool, true, false, true≢false}
use mathlib.Core.Logic.{◌⊎◌, inl, inr}
use mathlib.Core.List.{List, [], ◌++◌, append-nil}
use Prim.Native.Nat.{ℕ, suc, ◌-◌, ◌<◌}
use native.Mathlib.Omega.{arith}
use borrow.Author.Tests.{ltb-true, ltb-false}
use lib.Dec.{eqb, ltb}
use lib.ListN.{length, take, drop, length-take, length-drop}
use lib.Seq.{take-append-le, drop-append-le}
use Rattle.std.specs.Prelude.{Option, Some, None}
use Rattle.settings.specs.declared.refusal.Refusal.{Refusal}
use Rattle.row.specs.Row.{Pulses, cut}
use Rattle.steps.specs.Number.{settings_field_cause, start_cause, row_fields_cause}
use Rattle.stages.specs.Fit.{place, passes, width_of}
use Rattle.steps.specs.Step.{stepped, away, unless, settings_step, start_step, after_row, row_step, end_step, step_of}
use Rattle.stages.specs.declared.Place.{Place}
use Rattle.stages.specs.declared.Wall.{Wall}
use Rattle.stages.specs.declared.Wall.TheVariants.{New, Start, Row, End, Over}
use Rattle.window.specs.Window.{InBuffer, bytes_in, lacking}
use Rattle.window.specs.declared.Window.{Window}

-- a step keeps the wall's width, or the wall is over
abbrev Kept : Wall → (row : Pulses) → (part : List ℕ) → Type 0
Kept x ts bs = (width_of (step_of x ts bs).next ≡ width_of x) ⊎ ((step_of x ts bs).next ≡ Over)

kept_start : (p : Place) (ts : Pulses) (bs : List ℕ) (o : Option Refusal) → start_cause p.settings bs ≡ o → Kept (Start p) ts bs
unfolding step_of start_step unless stepped away place width_of passes
kept_start p ts bs None e = rw e (inl refl)
kept_start p ts bs (Some why) e = rw e (inr refl)

kept_row : (p : Place) (ts : Pulses) (bs : List ℕ) (o : Option Refusal) (m : Bool) → row_fields_cause p.settings ts.times bs ≡ o →
    ltb (suc p.row) p.settings.rows ≡ m → Kept (Row p) ts bs
unfolding step_of row_step after_row unless stepped away place width_of passes
kept_row p ts bs None true e f = rw (e, f) (inl refl)
kept_row p ts bs None false e f = rw (e, f) (inl refl)
kept_row p ts bs (Some why) m e f = rw e (inr refl)

kept_end : (p : Place) (ts : Pulses) (bs : List ℕ) (b : Bool) → eqb (length bs) 0 ≡ b → Kept (End p) ts bs
unfolding step_of end_step stepped away
kept_end p ts bs true e = rw e (inr refl)
kept_end p ts bs false e = rw e (inr refl)

kept_over : (ts : Pulses) (bs : List ℕ) → Kept Over ts bs
unfolding step_of stepped
kept_over ts bs = inr refl

-- What is made of a wall and its row, and of the row only where one was written, is the same of the row in a buffer as of the row that the
-- step left.
module _ (P : Wall → (row : Pulses) → List ℕ) (start : (p : Place) (us vs : Pulses) → P (Start p) us ≡ P (Start p) vs)
    (over : (us vs : Pulses) → P Over us ≡ P Over vs) where
  unless_over : (y : Wall) (us vs : Pulses) → ((y ≡ Over → ⊥) → us ≡ vs) → P y us ≡ P y vs
  unless_over New us vs h = ap (P New) (h (λ e. let z : ◌≡◌ {A = ℕ} 0 1 = cc in omega (arith, z)))
  unless_over (Start p) us vs h = start p us vs
  unless_over (Row p) us vs h = ap (P (Row p)) (h (λ e. let z : ◌≡◌ {A = ℕ} 0 1 = cc in omega (arith, z)))
  unless_over (End p) us vs h = ap (P (End p)) (h (λ e. let z : ◌≡◌ {A = ℕ} 0 1 = cc in omega (arith, z)))
  unless_over Over us vs h = over us vs

  by_kept : (x : Wall) (ts : Pulses) (bs : List ℕ) (us row : Pulses) → Kept x ts bs → (((step_of x ts bs).next ≡ Over → ⊥) → cut (width_of x) us ≡ row) →
      P (step_of x ts bs).next (cut (width_of (step_of x ts bs).next) us) ≡ P (step_of x ts bs).next row
  by_kept x ts bs us row (inl e) h = rw e (unless_over (step_of x ts bs).next (cut (width_of x) us) row h)
  by_kept x ts bs us row (inr e) h = rw e (over (cut (width_of Over) us) row)

  new_any : (ts : Pulses) (bs : List ℕ) (us vs : Pulses) (o : Option Refusal) → settings_field_cause bs ≡ o →
      P (step_of New ts bs).next us ≡ P (step_of New ts bs).next vs
  unfolding step_of settings_step unless stepped away
  new_any ts bs us vs None e = rw e (start _ us vs)
  new_any ts bs us vs (Some why) e = rw e (over us vs)

  pub row_kept : (x : Wall) (ts : Pulses) (bs : List ℕ) (us row : Pulses) → (((step_of x ts bs).next ≡ Over → ⊥) → cut (width_of x) us ≡ row) →
      P (step_of x ts bs).next (cut (width_of (step_of x ts bs).next) us) ≡ P (step_of x ts bs).next row
  row_kept New ts bs us row h = new_any ts bs (cut (width_of (step_of New ts bs).next) us) row (settings_field_cause bs) refl
  row_kept (Start p) ts bs us row h = by_kept (Start p) ts bs us row (kept_start p ts bs (start_cause p.settings bs) refl) h
  row_kept (Row p) ts bs us row h =
      by_kept (Row p) ts bs us row (kept_row p ts bs (row_fields_cause p.settings ts.times bs) (ltb (suc p.row) p.settings.rows) refl refl) h
  row_kept (End p) ts bs us row h = by_kept (End p) ts bs us row (kept_end p ts bs (eqb (length bs) 0) refl) h
  row_kept Over ts bs us row h = by_kept Over ts bs us row (kept_over ts bs) h

-- the due part of what is held, where the rest adds nothing to it
pub held_part : (k : ℕ) (bs cs : List ℕ) (b : Bool) → ltb (length bs) k ≡ b → (length bs < k → cs ≡ []) →
    (take k (bs ++ cs) ≡ take k bs) × (drop k (bs ++ cs) ≡ drop k bs ++ cs)
held_part k bs cs true e short =
    let none = short (ltb-true (length bs) k e) in
    (rw (none, append-nil bs), rw (none, append-nil bs, append-nil (drop k bs)))
held_part k bs cs false e short =
    let enough = ltb-false (length bs) k e in
    (take-append-le k bs cs enough, drop-append-le k bs cs enough)

-- where something is lacking, the due part is not held; where nothing is, it is, or the input has ended
size_of : (w : Window) (xs : List ℕ) → InBuffer w (length xs) → length (bytes_in w xs) ≡ w.end - w.start
unfolding bytes_in
size_of w xs i = simp (length-take, length-drop) (omega (arith, i.ordered, i.inside))

pub lack_held : (w : Window) (due : ℕ) (xs : List ℕ) (b : Bool) → w.ended ≡ b → InBuffer w (length xs) → lacking w due ≡ true →
    (w.ended ≡ false) × (length (bytes_in w xs) < due)
unfolding lacking
lack_held w due xs true f i e = absurd (true≢false (sym (rw f at e)))
lack_held w due xs false f i e = (f, omega (arith, size_of w xs i, ltb-true (w.end - w.start) due (rw f at e)))

pub enough_held : (w : Window) (due : ℕ) (xs : List ℕ) (b : Bool) → w.ended ≡ b → InBuffer w (length xs) → lacking w due ≡ false →
    length (bytes_in w xs) < due → w.ended ≡ true
unfolding lacking
enough_held w due xs true f i e l = f
enough_held w due xs false f i e l =
    let z : ⊥ = omega (arith, size_of w xs i, ltb-false (w.end - w.start) due (rw f at e)) in
    absurd z
