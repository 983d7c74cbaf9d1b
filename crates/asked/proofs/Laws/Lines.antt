-- What is shown from a wall on, step by step, and the lines of it. Assumes nothing.
use mathlib.Core.Path.{◌≡◌, refl, sym, ◌∙◌, ap}
use mathlib.Core.List.{List, [], ◌++◌, append-nil}
use Prim.Native.Nat.{ℕ, zero, suc, ◌+◌, ◌-◌, ◌≤◌}
use native.Mathlib.Omega.{arith}
use borrow.Author.Tests.{eq-eqb, ne_eqb, lt-ltb, le-ltb}
use lib.ListN.{length, drop}
use Rattle.settings.specs.declared.Settings.{Settings}
use Rattle.settings.proofs.Laws.Cases.{by_order, by_equal}
use Rattle.settings.proofs.Laws.Refusal.{none_of}
use Rattle.row.specs.Row.{Pulses}
use Rattle.steps.specs.Number.{settings_field_cause, start_cause, row_fields_cause}
use Rattle.steps.specs.Shown.{Shown}
use Rattle.steps.specs.Step.{stepped, away, unless, settings_step, start_step, after_row, row_step, end_step, step_of}
use Rattle.steps.proofs.Laws.Taken.{by_cause}
use Rattle.show.specs.Text.{texts_of}
use Rattle.stages.specs.Fit.{place, due_size}
use Rattle.stages.specs.declared.Wall.{Wall}
use Rattle.stages.specs.declared.Wall.TheVariants.{New, Start, Row, End, Over}
use Rattle.file.specs.File.{or_shown, rows_shown, start_shown, shown}
use Rattle.file.specs.Stands.{Stands}
use Rattle.file.proofs.Laws.Calls.{texts_append}
use Rattle.file.proofs.Laws.Steps.{part_enough, any_letters}
use Rattle.told.specs.Telling.{says}
use Rattle.asked.specs.Asked.{lines_told, told_of}
use Rattle.asked.specs.declared.Asked.TheVariants as asked
use Rattle.asked.proofs.Laws.Onward.{Tale}

-- what is shown from a wall on; row 0 and the settings don't read the row that is lent
abbrev pub from : Wall → (row : Pulses) → (rest : List ℕ) → List Shown
from New ts bs = shown bs
from (Start p) ts bs = start_shown p.settings p.offset bs
from (Row p) ts bs = rows_shown p.settings (p.settings.rows - p.row) p.row p.offset ts bs
from (End p) ts bs = rows_shown p.settings zero p.row p.offset ts bs
from Over ts bs = []

-- after a row comes the next, or the end
after_shown : (s : Settings) (l : ℕ) → l ≤ s.rows → (at : ℕ) (ts : Pulses) (bs : List ℕ) → from (after_row s l at) ts bs ≡ rows_shown s (s.rows - l) l at ts bs
unfolding after_row place
after_shown s l i at ts bs =
    by_order s.rows l
    (λ j. let none : s.rows - l ≡ 0 = omega (arith, i, j) in rw (le-ltb l s.rows j, none))
    (λ j. rw (lt-ltb l s.rows j))

-- each step of a wall that stands shows its part, and leaves the rest
pub goes_on : (x : Wall) (ts : Pulses) (bs : List ℕ) → Stands x →
    from x ts bs ≡ (step_of x ts bs).shows ++ from (step_of x ts bs).next (step_of x ts bs).row (drop (due_size x) bs)
unfolding Stands step_of settings_step start_step row_step end_step unless stepped away place due_size shown start_shown rows_shown or_shown
goes_on New ts bs i =
    by_cause (settings_field_cause bs) (λ e. rw (none_of (settings_field_cause bs) e)) (λ why e. rw e)
goes_on (Start p) ts bs i =
    let s = p.settings in
    let all : s.rows - 0 ≡ s.rows = omega arith in
    by_cause (start_cause s bs) (λ e. rw (none_of (start_cause s bs) e, all) (any_letters s s.rows _ _ [] ts.letters _)) (λ why e. rw e)
goes_on (Row p) ts bs i =
    let s = p.settings in
    let more : s.rows - p.row ≡ suc (s.rows - suc p.row) = omega (arith, i.1) in
    by_cause (row_fields_cause s ts.times bs)
    (λ e. rw (more, none_of (row_fields_cause s ts.times bs) e, after_shown s (suc p.row) (omega (arith, i.1))))
    (λ why e. rw (more, e))
goes_on (End p) ts bs i =
    by_equal (length bs) 0 (λ e. rw (eq-eqb (length bs) 0 e) (sym (append-nil _))) (λ k. rw (ne_eqb (length bs) 0 k))
goes_on Over ts bs i = refl

-- each step's lines are its part of the whole
unfoldable pub lines_tale : (rows : List ℕ) → Tale (told_of asked.Lines rows)
unfolding told_of lines_told says texts_of
lines_tale rows =
    record {
      from = λ x m r bs. texts_of (from x r bs);
      goes = λ x m r bs i. ap texts_of (goes_on x r bs i) ∙ texts_append (step_of x r bs).shows _;
      part = λ x m r bs. rw (part_enough x r bs);
      start = λ p m us vs bs. refl;
      over = λ m r bs. refl;
    }
