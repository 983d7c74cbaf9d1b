-- Running the steps over any bytes shows what the definition of the whole shows. Assumes nothing.
use mathlib.Core.Path.{◌≡◌, refl, sym, ◌∙◌}
use mathlib.Core.Bool.{Bool, true, false}
use mathlib.Core.List.{List, [], ◌∷◌, ◌++◌, append-nil}
use Prim.Native.Nat.{ℕ, zero, suc, ◌+◌, ◌≤◌, ◌<◌}
use lib.Dec.{eqb}
use lib.ListN.{length, take, drop}
use native.Mathlib.Omega.{arith}
use borrow.Author.Tests.{lt-ltb, le-ltb, ne_eqb}
use Rattle.std.specs.Prelude.{Option, Some, None}
use Rattle.settings.specs.declared.refusal.Refusal.{Refusal}
use Rattle.settings.specs.Settings.{settings_cause, settings_refusal}
use Rattle.settings.proofs.Laws.Refusal.{no_number, unhit_given}
use Rattle.settings.specs.declared.Settings.{Settings}
use Rattle.settings.proofs.Laws.Settings.{limits}
use Rattle.row.specs.Row.{Pulses, pulses, next_pulses}
use Rattle.fields.specs.Field.{field_cause, body}
use Rattle.contents.specs.Contents.{settings_size, settings_in, start_size, times_in, row_size, call_in}
use Rattle.steps.specs.Number.{settings_field_cause, start_cause, row_fields_cause}
use Rattle.steps.specs.Shown.{row_shown}
use Rattle.file.specs.File.{or_shown, rows_shown, start_shown, shown}
use Rattle.stages.specs.Fit.{place, due_size}
use Rattle.steps.specs.Step.{stepped, away, unless, settings_step, start_step, after_row, row_step, end_step, step_of, steps_shown}
use Rattle.stages.specs.declared.Wall.{Wall}
use Rattle.stages.specs.declared.Wall.TheVariants.{New, Start, Row, End, Over}
use Rattle.file.proofs.Laws.Part.{settings_part, start_part, row_part, offset_part, marks_part, call_part, body_part}

-- a step reads nothing after the part that is due
end_part : (bs : List ℕ) → eqb (length (take 1 bs)) 0 ≡ eqb (length bs) 0
end_part [] = refl
end_part (b ∷ bs) = sym (ne_eqb (length (b ∷ bs)) 0 (omega arith))

pub part_enough : (x : Wall) (r : Pulses) (bs : List ℕ) → step_of x r (take (due_size x) bs) ≡ step_of x r bs
unfolding step_of due_size settings_step start_step row_step end_step
part_enough New r bs = rw (settings_part bs, body_part settings_size (3 + settings_size) bs (omega arith))
part_enough (Start p) r bs =
    let size = start_size p.settings.width in
    rw (start_part p.settings bs, body_part size (3 + size) bs (omega arith))
part_enough (Row p) r bs =
    let s = p.settings in
    rw (row_part s bs r.times, offset_part s bs p.offset, call_part s.width bs, marks_part s.width bs)
part_enough (End p) r bs = rw (end_part bs)
part_enough Over r bs = refl

pub one_step : (n : ℕ) (x : Wall) (r : Pulses) (bs : List ℕ) →
    let o = step_of x r bs in
    steps_shown (suc n) x r bs ≡ o.shows ++ steps_shown n o.next o.row (drop (due_size x) bs)
unfolding steps_shown
one_step n x r bs = rw (part_enough x r bs)

-- once the file is over, nothing more is shown
pub nothing_more : (n : ℕ) (r : Pulses) (bs : List ℕ) → steps_shown n Over r bs ≡ []
unfolding steps_shown step_of stepped due_size
nothing_more zero r bs = refl
nothing_more (suc n) r bs = nothing_more n r (drop 0 bs)

module _ (s : Settings) where
  -- the letters of row 0 are not shown
  pub any_letters : (n at : ℕ) (ts ls ms bs : List ℕ) → rows_shown s n 0 at (pulses ts ls) bs ≡ rows_shown s n 0 at (pulses ts ms) bs
  unfolding rows_shown row_shown
  any_letters zero at ts ls ms bs = refl
  any_letters (suc n) at ts ls ms bs = refl

  end_right : (m l at : ℕ) (r : Pulses) (bs : List ℕ) (b : Bool) → eqb (length bs) 0 ≡ b →
      steps_shown (suc m) (End (place s l at)) r bs ≡ rows_shown s zero l at r bs
  unfolding step_of end_step rows_shown away stepped place due_size
  end_right m l at r bs true f = rw (one_step m (End (place s l at)) r bs, f, nothing_more m r (drop 1 bs)) (append-nil _)
  end_right m l at r bs false f = rw (one_step m (End (place s l at)) r bs, f, nothing_more m r (drop 1 bs))

  row_right : (n m l at : ℕ) (r : Pulses) (bs : List ℕ) (c : Option Refusal) → row_fields_cause s r.times bs ≡ c →
      ((at : ℕ) (r : Pulses) (bs : List ℕ) → steps_shown m (after_row s (suc l) at) r bs ≡ rows_shown s n (suc l) at r bs) →
      steps_shown (suc m) (Row (place s l at)) r bs ≡ rows_shown s (suc n) l at r bs
  unfolding step_of row_step unless or_shown rows_shown away stepped place due_size
  row_right n m l at r bs None f ih =
      let w = s.width in
      rw (one_step m (Row (place s l at)) r bs, f, ih (at + row_size w) (next_pulses s r.times (call_in w bs)) (drop (row_size w) bs))
  row_right n m l at r bs (Some why) f ih = rw (one_step m (Row (place s l at)) r bs, f, nothing_more m r (drop (row_size s.width) bs))

  -- n rows after row l
  rows_right : (n m l at : ℕ) (r : Pulses) (bs : List ℕ) → l + n ≡ s.rows → n < m →
      steps_shown m (after_row s l at) r bs ≡ rows_shown s n l at r bs
  unfolding after_row
  rows_right n zero l at r bs e i = let never : ⊥ = omega arith in absurd never
  rows_right zero (suc m) l at r bs e i =
      rw (le-ltb l s.rows (omega arith)) (end_right m l at r bs (eqb (length bs) 0) refl)
  rows_right (suc n) (suc m) l at r bs e i =
      rw (lt-ltb l s.rows (omega arith))
      (row_right n m l at r bs (row_fields_cause s r.times bs) refl (λ at r bs. rows_right n m (suc l) at r bs (omega arith) (omega arith)))

  start_right : (m l at : ℕ) (r : Pulses) (bs : List ℕ) (c : Option Refusal) → start_cause s bs ≡ c → 1 ≤ s.rows → suc s.rows < m →
      steps_shown m (Start (place s l at)) r bs ≡ start_shown s at bs
  unfolding step_of start_step unless or_shown start_shown after_row away stepped place due_size
  start_right zero l at r bs c f i j = let never : ⊥ = omega arith in absurd never
  start_right (suc m) l at r bs None f i j =
      let size = start_size s.width in
      let ts = times_in s.width (body size bs) in
      let rest = rows_right s.rows m 0 (at + (3 + size)) (pulses ts r.letters) (drop (3 + size) bs) (omega arith) (omega arith) in
      rw (one_step m (Start (place s l at)) r bs, f)
      ((rw (lt-ltb 0 s.rows i) at rest) ∙ any_letters s.rows (at + (3 + size)) ts r.letters [] (drop (3 + size) bs))
  start_right (suc m) l at r bs (Some why) f i j =
      rw (one_step m (Start (place s l at)) r bs, f, nothing_more m r (drop (3 + start_size s.width) bs))

-- from the start of the file
module _ (r : Pulses) (bs : List ℕ) where
  settings_right : (m : ℕ) (c : Option Refusal) → settings_field_cause bs ≡ c → 1026 < m → steps_shown m New r bs ≡ shown bs
  unfolding step_of settings_step unless or_shown shown away stepped due_size settings_field_cause settings_refusal
  settings_right zero c f i = let never : ⊥ = omega arith in absurd never
  settings_right (suc m) None f i =
      let made = settings_in (body settings_size bs) in
      let number = unhit_given (field_cause 1 settings_size bs) (settings_cause made) (no_number _ f) in
      let rows = (limits made number.1).rows in
      let rest = drop (3 + settings_size) bs in
      rw (one_step m New r bs, f) (start_right made m 0 27 r rest (start_cause made rest) refl rows.0 (omega arith))
  settings_right (suc m) (Some why) f i = rw (one_step m New r bs, f, nothing_more m r (drop (3 + settings_size) bs))

  pub steps_right : (m : ℕ) → 1026 < m → steps_shown m New r bs ≡ shown bs
  steps_right m i = settings_right m (settings_field_cause bs) refl i
