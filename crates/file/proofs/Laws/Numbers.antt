-- Which numbers a file can be turned away with. Assumes nothing.
use mathlib.Core.Path.{◌≡◌, refl}
use mathlib.Core.Bool.{Bool, true, false, cond}
use mathlib.Core.List.{List, [], ◌∷◌}
use Prim.Native.Nat.{ℕ, zero, suc, ◌+◌, ◌≤◌}
use lib.ListN.{length, drop}
use native.Mathlib.Omega.{arith}
use borrow.Author.Tests.{ne_eqb}
use Rattle.std.specs.Prelude.{Option, Some, None}
use Rattle.settings.specs.Refusal.{Test, ◌when◌, first, number, refused, or_else, any_below}
use Rattle.settings.specs.declared.refusal.Refusal.{Refusal}
use Rattle.settings.specs.declared.refusal.Refusal.TheVariants.{Width, Rows, Delay, Uncertainty, Hold, Drift, Unit, UnitCost, UnitsHeld, StrayMark, Crowded, TileDrift, Link, Tag, Size, Short, LateStart, Phase}
use Rattle.settings.proofs.Laws.Refusal.{none_of}
use Rattle.settings.specs.Settings.{settings_tests, settings_cause}
use Rattle.settings.specs.declared.Settings.{Settings}
use Rattle.steps.proofs.Laws.Taken.{by_cause}
use Rattle.row.specs.Row.{Pulses, next_pulses}
use Rattle.columns.specs.Marks.{mark_bytes}
use Rattle.columns.specs.Columns.{any_of}
use Rattle.fields.specs.Field.{field_tests, field_cause, field_refusal, body}
use Rattle.contents.specs.Contents.{settings_size, start_size, times_in, late_start, tiles_size, marks_field, row_size, marks_in, call_in}
use Rattle.steps.specs.Number.{settings_field_cause, settings_number, start_cause, start_number, row_fields_cause, row_number}
use Rattle.steps.specs.Shown.{no_marks, number_shown}
use Rattle.file.specs.File.{or_shown, rows_shown}
use Rattle.file.specs.Promises.{in_a_file}
use Rattle.file.proofs.Laws.Limits.{Early, limited}
use Rattle.file.proofs.Laws.Rows.{Grown, early_of, grows, call_accepted, number_after, number_alone}

-- a number of a list of tests is one of theirs
abbrev Met : ℕ → Type 0
Met n = in_a_file n ≡ true

or_later : (why : Refusal) (b : Bool) (ts : List Test) → Met (number why) → Met (refused (first ts)) → Met (refused (first ((why when b) ∷ ts)))
unfolding first
or_later why true ts here later = here
or_later why false ts here later = later

or_other : (c o : Option Refusal) → Met (refused c) → (refused c ≡ 0 → Met (refused o)) → Met (refused (or_else c o))
unfolding or_else
or_other None o here other = other refl
or_other (Some why) o here other = here

module _ where
  none : Met (refused (first []))
  unfolding first in_a_file any_of
  none = refl

  field_met : (tag size : ℕ) (bs : List ℕ) → Met (refused (field_cause tag size bs))
  unfolding field_cause field_tests in_a_file any_of
  field_met tag size bs = or_later Short _ _ refl (or_later Tag _ _ refl (or_later Size _ _ refl (or_later Short _ _ refl none)))

  settings_met : (s : Settings) → Met (refused (settings_cause s))
  unfolding settings_cause settings_tests in_a_file any_of
  settings_met s =
      or_later Width _ _ refl
      (or_later Rows _ _ refl
      (or_later Delay _ _ refl
      (or_later Uncertainty _ _ refl
      (or_later Hold _ _ refl (or_later Drift _ _ refl (or_later Unit _ _ refl (or_later UnitCost _ _ refl (or_later UnitsHeld _ _ refl none))))))))

  row_met : (s : Settings) (ts bs : List ℕ) → Early s ts → Met (row_number s ts bs)
  unfolding row_number row_fields_cause field_refusal in_a_file any_of
  row_met s ts bs row =
      or_other (field_cause 3 (mark_bytes s.width) bs) _ (field_met 3 (mark_bytes s.width) bs)
      (λ e. or_other (field_cause 4 (tiles_size s.width) (drop (marks_field s.width) bs)) _
      (field_met 4 (tiles_size s.width) (drop (marks_field s.width) bs))
      (λ o. rw (limited s ts row bs e)
      (or_later StrayMark _ _ refl (or_later Crowded _ _ refl (or_later TileDrift _ _ refl (or_later Phase _ _ refl (or_later Link _ _ refl none)))))))

pub settings_number_met : (bs : List ℕ) → Met (settings_number bs)
unfolding settings_number settings_field_cause
settings_number_met bs = or_other (field_cause 1 settings_size bs) _ (field_met 1 settings_size bs) (λ e. settings_met _)

pub start_number_met : (s : Settings) (bs : List ℕ) → Met (start_number s bs)
unfolding start_number start_cause
start_number_met s bs = or_other (field_cause 2 (start_size s.width) bs) _ (field_met 2 (start_size s.width) bs) (λ e. late_met (any_below s.width (late_start (times_in s.width (body (start_size s.width) bs)))))
  where
    late_met : (b : Bool) → Met (refused (cond b (Some LateStart) None))
    late_met true = unfold in_a_file any_of in refl
    late_met false = unfold in_a_file any_of in refl

pub rows_met : (s : Settings) (n l at : ℕ) (r : Pulses) (bs : List ℕ) → Grown s l r.times → l + n ≤ 1024 → Met (number_shown (rows_shown s n l at r bs))
unfolding rows_shown or_shown number_shown in_a_file any_of row_number
rows_met s zero l at r [] g i = rw (number_alone s l (no_marks s.width) r)
rows_met s zero l at r (b ∷ bs) g i = rw (ne_eqb (length (b ∷ bs)) 0 (omega arith))
rows_met s (suc n) l at r bs g i =
    let ts = r.times in
    by_cause (row_fields_cause s ts bs)
    (λ q. let x = call_in s.width bs in
    rw (none_of (row_fields_cause s ts bs) q, number_after s l (marks_in s.width bs) r)
    (rows_met s n (suc l) (at + row_size s.width) (next_pulses s ts x) (drop (row_size s.width) bs) (grows x g (call_accepted s ts bs q)) (omega arith)))
    (λ why q. rw q (rw q at (row_met s ts bs (early_of g (omega arith)))))
