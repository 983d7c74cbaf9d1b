-- A step by the number of its part: what it leaves where the part is accepted, and where it is turned away. Assumes nothing.
use mathlib.Core.Path.{◌≡◌, refl, sym, ◌∙◌, ap}
use mathlib.Core.List.{List}
use Prim.Native.Nat.{ℕ}
use lib.ListN.{length}
use native.Mathlib.Omega.{arith}
use borrow.Author.Tests.{eq-eqb, ne_eqb}
use Rattle.std.specs.Prelude.{Some, Ok, Err, Result}
use Rattle.settings.specs.declared.refusal.Refusal.{Refusal}
use Rattle.settings.proofs.Laws.Cases.{by_equal}
use Rattle.settings.proofs.Laws.Refusal.{a_number}
use Rattle.row.specs.Row.{Pulses, pulses}
use Rattle.stages.specs.declared.Wall.{Wall}
use Rattle.stages.specs.declared.Wall.TheVariants.{New, Start, Row, End, Over}
use Rattle.steps.specs.Answer.{cause_due, number_due, offset_due, wall_then, row_then, shown_then}
use Rattle.steps.specs.Number.{settings_number, start_number, row_number}
use Rattle.steps.specs.Shown.{no_marks, number_shown, offset_shown}
use Rattle.contents.specs.Contents.{marks_in}
use Rattle.steps.specs.Step.{stepped, away, step_of}
use Rattle.steps.specs.Take.{refused_at, taken, taken_of, row_left, step_from, next_row}
use Rattle.steps.specs.declared.RefusedAt.{RefusedAt}
use Rattle.steps.proofs.Laws.Taken.{settings_away, settings_goes, start_away, start_goes, row_away, row_goes, end_away, end_goes, no_number, row_taken, none_taken, taken_away, left_away, taken_on, left_on, by_cause}

-- the refusal of a part that has a number
pub cause_of : (x : Wall) (ts bs : List ℕ) → (number_due x ts bs ≡ 0 → ⊥) → (why : Refusal) × (cause_due x ts bs ≡ Some why)
unfolding number_due
cause_of x ts bs k = by_cause (cause_due x ts bs) (λ e. absurd (k e)) (λ why e. (why, e))

module _ (row : Pulses) (bs : List ℕ) where
  pub step_goes : (x : Wall) → number_due x row.times bs ≡ 0 → step_of x row bs ≡ stepped (wall_then x bs) (row_then x row.times bs row) (shown_then x row bs)
  unfolding step_of number_due cause_due settings_number start_number row_number wall_then row_then shown_then
  step_goes New e = settings_goes row bs e
  step_goes (Start p) e = start_goes row bs p.settings p.offset e
  step_goes (Row p) e = row_goes row bs p.settings p.offset p.row e
  step_goes (End p) e =
      by_equal (length bs) 0
      (λ z. end_goes row bs p.settings p.offset p.row z)
      (λ k. let never : ⊥ = omega (arith, rw (ne_eqb (length bs) 0 k) at e) in absurd never)
  step_goes Over e = refl

  pub step_away : (x : Wall) {why : Refusal} → cause_due x row.times bs ≡ Some why → step_of x row bs ≡ away row why (offset_due x bs)
  unfolding step_of cause_due offset_due
  step_away New e = settings_away row bs e
  step_away (Start p) e = start_away row bs p.settings p.offset e
  step_away (Row p) e = row_away row bs p.settings p.offset p.row e
  step_away (End p) e =
      by_equal (length bs) 0
      (λ z. absurd (cc (rw (eq-eqb (length bs) 0 z) at e)))
      (λ n. let f = rw (ne_eqb (length bs) 0 n) at e in rw (end_away row bs p.settings p.offset p.row n) cc)
  step_away Over e = cc e

  -- what is shown of an accepted part is no refusal
  pub no_refusal : (x : Wall) → (number_shown (shown_then x row bs) ≡ 0) × (offset_shown (shown_then x row bs) ≡ 0)
  unfolding shown_then number_shown offset_shown
  no_refusal New = (refl, refl)
  no_refusal (Start p) = (refl, refl)
  no_refusal (Row p) = no_number p.settings p.row (marks_in p.settings.width bs) row
  no_refusal (End p) = no_number p.settings p.row (no_marks p.settings.width) row
  no_refusal Over = (refl, refl)

  no_refusal_taken : (x y : Wall) → taken y (shown_then x row bs) ≡ Ok y
  unfolding shown_then
  no_refusal_taken New y = none_taken y
  no_refusal_taken (Start p) y = none_taken y
  no_refusal_taken (Row p) y = row_taken y p.settings p.row (marks_in p.settings.width bs) row
  no_refusal_taken (End p) y = row_taken y p.settings p.row (no_marks p.settings.width) row
  no_refusal_taken Over y = none_taken y

  -- the answer's values
  pub taken_goes : (x : Wall) → number_due x row.times bs ≡ 0 → taken_of (step_of x row bs) ≡ Ok (wall_then x bs)
  taken_goes x e = ap taken_of (step_goes x e) ∙ taken_on _ row (wall_then x bs) (shown_then x row bs) (no_refusal_taken x (wall_then x bs))

  pub taken_gone : (x : Wall) {why : Refusal} → cause_due x row.times bs ≡ Some why → taken_of (step_of x row bs) ≡ Err (refused_at why (offset_due x bs))
  taken_gone x {why} e = ap taken_of (step_away x e) ∙ taken_away row row why _

-- and the row that is written
module _ (ts bs : List ℕ) (held : Pulses) where
  abbrev from : Pulses
  from = pulses ts held.letters

  left_goes : (x : Wall) → number_due x ts bs ≡ 0 → row_left (step_of x from bs) held ≡ row_then x ts bs from
  left_goes x e = ap (λ o. row_left o held) (step_goes from bs x e) ∙ left_on _ held (wall_then x bs) (shown_then x from bs) (no_refusal from bs x).0

  left_gone : (x : Wall) → (number_due x ts bs ≡ 0 → ⊥) → row_left (step_of x from bs) held ≡ held
  left_gone x k =
      let c = cause_of x ts bs k in
      ap (λ o. row_left o held) (step_away from bs x c.1) ∙ left_away from held c.0 _

  pub row_goes_on : (x : Wall) → number_due x ts bs ≡ 0 → next_row x ts bs held ≡ row_then x ts bs held
  unfolding next_row step_from row_then
  row_goes_on New e = refl
  row_goes_on (Start p) e = left_goes (Start p) e
  row_goes_on (Row p) e = left_goes (Row p) e
  row_goes_on (End p) e = refl
  row_goes_on Over e = refl

  pub row_stays : (x : Wall) → (number_due x ts bs ≡ 0 → ⊥) → next_row x ts bs held ≡ held
  unfolding next_row step_from
  row_stays New k = refl
  row_stays (Start p) k = left_gone (Start p) k
  row_stays (Row p) k = left_gone (Row p) k
  row_stays (End p) k = refl
  row_stays Over k = refl

-- neither the answer, nor the wall and the times that a step leaves, depend on the letters
module _ (x : Wall) (ts bs ls ms : List ℕ) where
  pub taken_same : taken_of (step_of x (pulses ts ls) bs) ≡ taken_of (step_of x (pulses ts ms) bs)
  unfolding number_due
  taken_same =
      by_cause (cause_due x ts bs)
      (λ e. taken_goes (pulses ts ls) bs x e ∙ sym (taken_goes (pulses ts ms) bs x e))
      (λ why e. taken_gone (pulses ts ls) bs x e ∙ sym (taken_gone (pulses ts ms) bs x e))

  pub next_same : (step_of x (pulses ts ls) bs).next ≡ (step_of x (pulses ts ms) bs).next
  unfolding stepped away number_due
  next_same =
      by_cause (cause_due x ts bs)
      (λ e. rw (step_goes (pulses ts ls) bs x e, step_goes (pulses ts ms) bs x e))
      (λ why e. rw (step_away (pulses ts ls) bs x e, step_away (pulses ts ms) bs x e))

  pub times_same : (step_of x (pulses ts ls) bs).row.times ≡ (step_of x (pulses ts ms) bs).row.times
  unfolding stepped away number_due
  times_same =
      by_cause (cause_due x ts bs)
      (λ e. rw (step_goes (pulses ts ls) bs x e, step_goes (pulses ts ms) bs x e) (then_times x))
      (λ why e. rw (step_away (pulses ts ls) bs x e, step_away (pulses ts ms) bs x e))
    where
      then_times : (x : Wall) → (row_then x ts bs (pulses ts ls)).times ≡ (row_then x ts bs (pulses ts ms)).times
      then_times New = unfold row_then in refl
      then_times (Start p) = unfold row_then in refl
      then_times (Row p) = unfold row_then in refl
      then_times (End p) = unfold row_then in refl
      then_times Over = unfold row_then in refl
