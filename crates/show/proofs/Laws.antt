-- The text of a step, by what it shows, and the row that it leaves. Assumes nothing.
use mathlib.Core.Path.{◌≡◌, refl, sym, ◌∙◌, ap}
use mathlib.Core.List.{List, [], ◌∷◌, ◌++◌, append-nil}
use Prim.Native.Nat.{ℕ, zero, suc, ◌+◌, ◌≤◌}
use lib.ListN.{length, take, drop, replicate}
use lib.Seq.{take-length, drop-length}
use native.Mathlib.Omega.{arith}
use Rattle.settings.specs.declared.Settings.{Settings}
use Rattle.std.specs.Prelude.{Some, Ok, Err}
use Rattle.settings.specs.Refusal.{number, refused, or_else}
use Rattle.settings.specs.declared.refusal.Refusal.{Refusal}
use Rattle.settings.proofs.Laws.Refusal.{numbered, a_number, unhit_given}
use Rattle.lines.specs.Line.{refused_line}
use Rattle.lines.specs.Row.{row_text}
use Rattle.row.specs.Row.{Pulses}
use Rattle.columns.specs.Marks.{mark_bytes}
use Rattle.fields.specs.Field.{field_cause, field_refusal}
use Rattle.contents.specs.Contents.{marks_in}
use Rattle.steps.specs.Answer.{cause_due, number_due, offset_due, wall_then, row_then, shown_then}
use Rattle.steps.specs.Shown.{Shown, lines, turned_away, row_shown, no_marks, number_shown, offset_shown}
use Rattle.show.specs.Text.{text_of, texts_of}
use Rattle.steps.specs.Number.{row_fields_cause}
use Rattle.steps.specs.Step.{Stepped, stepped, away, step_of}
use Rattle.steps.specs.Take.{refused_at, taken, next_row}
use Rattle.steps.specs.declared.RefusedAt.{RefusedAt}
use Rattle.stages.specs.declared.Place.{Place}
use Rattle.stages.specs.declared.Wall.{Wall}
use Rattle.stages.specs.declared.Wall.TheVariants.{New, Start, Row, End, Over}
use Rattle.fields.proofs.Laws.Field.{field_there}
use Rattle.contents.proofs.Laws.Contents.{marks_length}
use Rattle.steps.proofs.Laws.Taken.{by_cause}
use Rattle.steps.proofs.Laws.Answer.{step_goes, step_away, no_refusal, row_goes_on, row_stays}

-- the lines of a row; row 0 has none
module _ (s : Settings) (ms : List ℕ) (r : Pulses) where
  pub no_lines : (l : ℕ) → l ≡ 0 → texts_of (row_shown s l ms r) ≡ []
  unfolding texts_of row_shown
  no_lines zero e = refl
  no_lines (suc l) e = let never : ⊥ = omega arith in absurd never

  pub row_lines : (l : ℕ) → (l ≡ 0 → ⊥) → texts_of (row_shown s l ms r) ≡ row_text s.width l ms r.times r.letters
  unfolding texts_of row_shown text_of
  row_lines zero k = absurd (k refl)
  row_lines (suc l) k = append-nil _

-- letters that are copied over as many
pub copied : (from to : List ℕ) {after : List ℕ} → length from ≡ length to → after ≡ take (length from) from ++ drop (length from) to → after ≡ from
copied from to e is = is ∙ rw (take-length from, e, drop-length to) (append-nil from)

-- no marks, of 32 bytes that are 0
pub zeros : (n m : ℕ) → n ≤ m → take n (replicate m 0) ≡ replicate {A = ℕ} n 0
zeros zero m i = refl
zeros (suc n) zero i = let never : ⊥ = omega arith in absurd never
zeros (suc n) (suc m) i = ap (λ (l : List ℕ). 0 ∷ l) (zeros n m (omega arith))

-- the answer of a step has the refusal that it shows, or there is none
pub taken_err : (x : Wall) (xs : List Shown) {r : RefusedAt} → taken x xs ≡ Err r → (number r.refusal ≡ number_shown xs) × (r.offset ≡ offset_shown xs)
unfolding taken refused_at number_shown offset_shown
taken_err x [] e = cc e
taken_err x (lines w l ms p ∷ xs) e = taken_err x xs e
taken_err x (turned_away why at ∷ xs) {r} e =
    let same : record { refusal = why; offset = at } ≡ r = cc in
    (ap (λ (q : RefusedAt). number q.refusal) (sym same), ap (λ (q : RefusedAt). q.offset) (sym same))

pub taken_ok : (x : Wall) (xs : List Shown) {y : Wall} → taken x xs ≡ Ok y → number_shown xs ≡ 0
unfolding taken refused_at number_shown
taken_ok x [] e = refl
taken_ok x (lines w l ms p ∷ xs) e = taken_ok x xs e
taken_ok x (turned_away why at ∷ xs) e = cc e

-- the number that a step shows is that of its part
module _ (x : Wall) (row : Pulses) (bs : List ℕ) where
  due_shown : number_due x row.times bs ≡ 0 → number_shown (step_of x row bs).shows ≡ 0
  unfolding stepped
  due_shown e = rw (step_goes row bs x e) (no_refusal row bs x).0

  shown_due : number_shown (step_of x row bs).shows ≡ 0 → number_due x row.times bs ≡ 0
  unfolding away stepped number_shown
  shown_due z = by_cause (cause_due x row.times bs) (λ e. unfold number_due in e) (λ why e. absurd (numbered why (rw (step_away row bs x e) at z)))

  -- a step that is turned away shows its refusal alone
  pub away_shows : (number_shown (step_of x row bs).shows ≡ 0 → ⊥) →
      texts_of (step_of x row bs).shows ≡ refused_line (number_shown (step_of x row bs).shows) (offset_shown (step_of x row bs).shows)
  unfolding away stepped texts_of text_of number_shown offset_shown number_due
  away_shows k =
      by_cause (cause_due x row.times bs)
      (λ e. absurd (k (due_shown e)))
      (λ why e. rw (step_away row bs x e) (append-nil (refused_line (number why) (offset_due x bs))))

-- what a step that is taken shows, by its wall
module _ (x : Wall) (row : Pulses) (bs : List ℕ) (z : number_shown (step_of x row bs).shows ≡ 0) where
  goes : step_of x row bs ≡ stepped (wall_then x bs) (row_then x row.times bs row) (shown_then x row bs)
  goes = step_goes row bs x (shown_due x row bs z)

  pub new_shows : x ≡ New → texts_of (step_of x row bs).shows ≡ []
  unfolding stepped shown_then texts_of
  new_shows w = rw (goes, w)

  pub over_shows : x ≡ Over → texts_of (step_of x row bs).shows ≡ []
  unfolding stepped shown_then texts_of
  over_shows w = rw (goes, w)

  module _ {p : Place} where
    pub start_shows : x ≡ Start p → texts_of (step_of x row bs).shows ≡ []
    unfolding stepped shown_then texts_of
    start_shows w = rw (goes, w)

    pub row_shows : x ≡ Row p → texts_of (step_of x row bs).shows ≡ texts_of (row_shown p.settings p.row (marks_in p.settings.width bs) row)
    unfolding stepped shown_then
    row_shows w = rw (goes, w)

    -- its marks are there
    marks_there : x ≡ Row p → field_refusal 3 (mark_bytes p.settings.width) bs ≡ 0
    unfolding number_due cause_due row_fields_cause field_refusal
    marks_there w = (unhit_given (field_cause 3 (mark_bytes p.settings.width) bs) _ (rw w at (shown_due x row bs z))).0

    pub row_there : x ≡ Row p → 3 + mark_bytes p.settings.width ≤ length bs
    row_there w = field_there 3 (mark_bytes p.settings.width) bs (marks_there w)

    pub row_marks : x ≡ Row p → length (marks_in p.settings.width bs) ≡ mark_bytes p.settings.width
    row_marks w = marks_length p.settings.width bs (marks_there w)

    pub end_shows : x ≡ End p → texts_of (step_of x row bs).shows ≡ texts_of (row_shown p.settings p.row (no_marks p.settings.width) row)
    unfolding stepped shown_then
    end_shows w = rw (goes, w)

-- a step that is lent the last row's own place to write leaves the row of the definition there
pub row_in_place : (x : Wall) (row : Pulses) (bs : List ℕ) → next_row x row.times bs row ≡ (step_of x row bs).row
unfolding away stepped number_due
row_in_place x row bs =
    by_cause (cause_due x row.times bs)
    (λ e. row_goes_on row.times bs row x e ∙ sym (ap (λ (o : Stepped). o.row) (step_goes row bs x e)))
    (λ why e. row_stays row.times bs row x (a_number _ why e) ∙ sym (ap (λ (o : Stepped). o.row) (step_away row bs x e)))
