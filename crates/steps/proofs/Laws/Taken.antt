-- The steps by their refusals, and what is answered of a step. Assumes nothing.
use mathlib.Core.Path.{◌≡◌, refl, sym, ◌∙◌, ap}
use mathlib.Core.Bool.{Bool, true, false, cond}
use mathlib.Core.List.{List, []}
use Prim.Native.Nat.{ℕ, zero, suc, ◌+◌}
use lib.ListN.{length}
use borrow.Author.Tests.{eq-eqb, ne_eqb}
use Rattle.std.specs.Prelude.{Option, Some, None, Result, Ok, Err}
use Rattle.settings.specs.Refusal.{number, refused, or_else}
use Rattle.settings.specs.declared.Settings.{Settings}
use Rattle.settings.specs.declared.refusal.Refusal.{Refusal}
use Rattle.settings.specs.declared.refusal.Refusal.TheVariants.{GoesOn}
use Rattle.settings.proofs.Laws.Cases.{by_equal}
use Rattle.settings.proofs.Laws.Refusal.{numbered, none_of}
use Rattle.row.specs.Row.{Pulses, pulses, next_pulses}
use Rattle.columns.specs.Marks.{mark_bytes}
use Rattle.fields.specs.Field.{field_cause, field_refusal, body}
use Rattle.contents.specs.Contents.{settings_size, settings_in, start_size, times_in, marks_field, row_size, marks_in, call_in}
use Rattle.steps.specs.Shown.{Shown, row_shown, no_marks, number_shown, offset_shown}
use Rattle.steps.specs.Number.{settings_field_cause, settings_number, start_cause, start_number, row_fields_cause, row_number, row_offset}
use Rattle.stages.specs.Fit.{place}
use Rattle.steps.specs.Step.{stepped, away, unless, settings_step, start_step, after_row, row_step, end_step}
use Rattle.steps.specs.Take.{refused_at, taken, taken_of, row_left, step_from, next_row, all_fit, answer_of, row_after, Takes, StepTaken}
use Rattle.stages.specs.declared.Wall.{Wall}
use Rattle.stages.specs.declared.Wall.TheVariants.{Start, Row, Over}
use Rattle.steps.specs.declared.RefusedAt.{RefusedAt}

module _ (row : Pulses) (bs : List ℕ) where
  pub settings_away : {why : Refusal} → settings_field_cause bs ≡ Some why → settings_step row bs ≡ away row why 0
  unfolding settings_step unless
  settings_away e = rw e

  pub settings_goes : settings_number bs ≡ 0 →
      settings_step row bs ≡ stepped (Start (place (settings_in (body settings_size bs)) 0 27)) row []
  unfolding settings_step unless settings_number
  settings_goes e = rw (none_of (settings_field_cause bs) e)

  module _ (s : Settings) (at : ℕ) where
    pub start_away : {why : Refusal} → start_cause s bs ≡ Some why → start_step s at row bs ≡ away row why at
    unfolding start_step unless
    start_away e = rw e

    pub start_goes : start_number s bs ≡ 0 →
        start_step s at row bs ≡ stepped (Row (place s 0 (at + (3 + start_size s.width)))) (pulses (times_in s.width (body (start_size s.width) bs)) row.letters) []
    unfolding start_step unless start_number
    start_goes e = rw (none_of (start_cause s bs) e)

    pub row_away : (l : ℕ) {why : Refusal} → row_fields_cause s row.times bs ≡ Some why → row_step s l at row bs ≡ away row why (row_offset s at bs)
    unfolding row_step unless
    row_away l e = rw e

    pub row_goes : (l : ℕ) → row_number s row.times bs ≡ 0 →
        row_step s l at row bs
        ≡ stepped (after_row s (suc l) (at + row_size s.width)) (next_pulses s row.times (call_in s.width bs)) (row_shown s l (marks_in s.width bs) row)
    unfolding row_step unless row_number
    row_goes l e = rw (none_of (row_fields_cause s row.times bs) e)

    pub end_away : (l : ℕ) → (length bs ≡ 0 → ⊥) → end_step s l at row bs ≡ away row GoesOn at
    unfolding end_step
    end_away l k = rw (ne_eqb (length bs) 0 k)

    pub end_goes : (l : ℕ) → length bs ≡ 0 → end_step s l at row bs ≡ stepped Over row (row_shown s l (no_marks s.width) row)
    unfolding end_step
    end_goes l e = rw (eq-eqb (length bs) 0 e)

-- a part is accepted or turned away
pub by_cause : {X : Type 0} (c : Option Refusal) → (refused c ≡ 0 → X) → ((why : Refusal) → c ≡ Some why → X) → X
by_cause None f g = f refl
by_cause (Some why) f g = g why refl

-- the settings and the end of the file leave the row
pub settings_keeps : (row : Pulses) (bs : List ℕ) → (settings_step row bs).row ≡ row
unfolding stepped away settings_number
settings_keeps row bs =
    by_cause (settings_field_cause bs)
    (λ e. rw (settings_goes row bs e))
    (λ why e. rw (settings_away row bs e))

pub end_keeps : (s : Settings) (l at : ℕ) (row : Pulses) (bs : List ℕ) → (end_step s l at row bs).row ≡ row
unfolding stepped away
end_keeps s l at row bs =
    by_equal (length bs) 0
    (λ e. rw (end_goes row bs s at l e))
    (λ k. rw (end_away row bs s at l k))

-- the offset of a row whose marks are there, and of one whose marks are not
module _ (s : Settings) (bs : List ℕ) (at : ℕ) where
  pub offset_of_row : field_refusal 3 (mark_bytes s.width) bs ≡ 0 → row_offset s at bs ≡ at + marks_field s.width
  unfolding row_offset
  offset_of_row e = rw (eq-eqb (field_refusal 3 (mark_bytes s.width) bs) 0 e)

  pub offset_of_marks : {why : Refusal} → field_cause 3 (mark_bytes s.width) bs ≡ Some why → row_offset s at bs ≡ at
  unfolding row_offset field_refusal
  offset_of_marks {why} e = rw (e, ne_eqb (number why) 0 (numbered why))

-- what is answered of a step that is turned away, and of one that is taken
module _ (row held : Pulses) where
  pub taken_away : (why : Refusal) (at : ℕ) → taken_of (away row why at) ≡ Err (refused_at why at)
  unfolding taken_of taken away stepped
  taken_away why at = refl

  pub left_away : (why : Refusal) (at : ℕ) → row_left (away row why at) held ≡ held
  unfolding row_left away stepped number_shown
  left_away why at = rw (ne_eqb (number why) 0 (numbered why))

  pub taken_on : (x : Wall) (xs : List Shown) → taken x xs ≡ Ok x → taken_of (stepped x row xs) ≡ Ok x
  unfolding taken_of stepped
  taken_on x xs e = e

  pub left_on : (x : Wall) (xs : List Shown) → number_shown xs ≡ 0 → row_left (stepped x row xs) held ≡ row
  unfolding row_left stepped
  left_on x xs n = rw (eq-eqb (number_shown xs) 0 n)

-- the lines of a row are no refusal
pub no_number : (s : Settings) (l : ℕ) (ms : List ℕ) (row : Pulses) → (number_shown (row_shown s l ms row) ≡ 0) × (offset_shown (row_shown s l ms row) ≡ 0)
unfolding row_shown number_shown offset_shown
no_number s zero ms row = (refl, refl)
no_number s (suc l) ms row = (refl, refl)

pub row_taken : (x : Wall) (s : Settings) (l : ℕ) (ms : List ℕ) (row : Pulses) → taken x (row_shown s l ms row) ≡ Ok x
unfolding row_shown taken
row_taken x s zero ms row = refl
row_taken x s (suc l) ms row = refl

pub none_taken : (x : Wall) → taken x [] ≡ Ok x
unfolding taken
none_taken x = refl

-- what the operation answers, where all rows fit and where not
module _ (x : Wall) (part row : List ℕ) (held : Pulses) where
  pub unfit : all_fit x (length row) held ≡ false → Takes x part row held None held
  unfolding answer_of row_after
  unfit e = record { answered = rw e; written = rw e }

  pub taking : {t : Result Wall RefusedAt} {next : Pulses} → all_fit x (length row) held ≡ true → StepTaken x part row held t next → Takes x part row held (Some t) next
  unfolding answer_of row_after
  taking e t = record { answered = rw e (ap (λ (r : Result Wall RefusedAt). Some r) t.is); written = rw e t.written }

-- and what is known by the answer
pub record TakenStep (x : Wall) (part row : List ℕ) (held : Pulses) (t : Result Wall RefusedAt) (next : Pulses) : Type 0 where
  pub fits : all_fit x (length row) held ≡ true
  pub is : t ≡ taken_of (step_from x row part held)
  pub written : next ≡ next_row x row part held

module _ {x : Wall} {part row : List ℕ} {held next : Pulses} {answer : Option (Result Wall RefusedAt)} (k : Takes x part row held answer next) where
  pub taken_step : {t : Result Wall RefusedAt} → answer ≡ Some t → TakenStep x part row held t next
  unfolding answer_of row_after
  taken_step {t} e = go (all_fit x (length row) held) refl k.answered k.written
    where
      go : (b : Bool) → all_fit x (length row) held ≡ b → answer ≡ cond b (Some (taken_of (step_from x row part held))) None →
          next ≡ cond b (next_row x row part held) held → TakenStep x part row held t next
      go true f a w = record { fits = f; is = cc; written = w }
      go false f a w = absurd (cc)

  pub unfit_step : answer ≡ None → all_fit x (length row) held ≡ false
  unfolding answer_of
  unfit_step e = go (all_fit x (length row) held) refl k.answered
    where
      go : (b : Bool) → all_fit x (length row) held ≡ b → answer ≡ cond b (Some (taken_of (step_from x row part held))) None →
          all_fit x (length row) held ≡ false
      go false f a = f
      go true f a = absurd (cc)

-- the step of a wall that is known
pub by_wall : {x : Wall} {part row : List ℕ} {held next : Pulses} {t : Result Wall RefusedAt} (y : Wall) → x ≡ y → t ≡ taken_of (step_from y row part held) → next ≡ next_row y row part held →
    StepTaken x part row held t next
by_wall y w t n = record { is = rw w t; written = rw w n }
