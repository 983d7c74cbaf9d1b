-- The rows of a file: accepted to the last where each keeps its limits, turned away otherwise. Assumes nothing.
use mathlib.Core.Path.{◌≡◌, refl}
use mathlib.Core.List.{List, [], ◌∷◌, ◌++◌}
use Prim.Native.Nat.{ℕ, zero, suc, ◌+◌, ◌*◌, ◌≤◌, ◌<◌}
use lib.ListN.{length, get_or, drop}
use native.Mathlib.Omega.{arith}
use borrow.Author.Tests.{eq-eqb, ne_eqb}
use Rattle.settings.proofs.Laws.Refusal.{numbered, none_of, unhit_given}
use Rattle.settings.specs.Settings.{settings_refusal}
use Rattle.settings.specs.declared.Settings.{Settings}
use Rattle.settings.proofs.Laws.Settings.{limits}
use Rattle.admission.specs.Call.{Call, call}
use Rattle.row.specs.Row.{Pulses, row_of, next_pulses}
use Rattle.runs.specs.Growth.{PulseGrows}
use Rattle.columns.specs.Marks.{mark_bytes}
use Rattle.admission.specs.Refusal.{row_refusal}
use Rattle.runs.specs.Run.{accepted_calls, rows}
use Rattle.columns.proofs.Laws.Lists.{table_length, table_at}
use Rattle.runs.proofs.Promises.{pulse_grows}
use Rattle.fields.specs.Field.{field_cause}
use Rattle.contents.specs.Contents.{tiles_size, marks_field, row_size, marks_in, call_in}
use Rattle.steps.specs.Shown.{Shown, row_shown, number_shown}
use Rattle.steps.specs.Number.{row_fields_cause, row_number}
use Rattle.steps.proofs.Laws.Taken.{by_cause}
use Rattle.file.specs.File.{or_shown, rows_shown}
use Rattle.file.specs.Limits.{calls_in, RowsKeep, over, and_then, run_shown}
use Rattle.file.proofs.Laws.Limits.{Early, keeps, kept}

-- row l is at most l times 2,187,500 ticks after the latest row 0 time
pub record Grown (s : Settings) (l : ℕ) (ts : List ℕ) : Type 0 where
  pub pass : settings_refusal s ≡ 0
  pub long : length ts ≡ s.width
  pub grown : (c : ℕ) → c < s.width → get_or ts c 0 ≤ 549755813887 + 2187500 * l

pub early_of : {s : Settings} {l : ℕ} {ts : List ℕ} → Grown s l ts → l ≤ 1024 → Early s ts
early_of g i = record { pass = g.pass; long = g.long; early = λ c j. omega (arith, g.grown c j) }

pub grows : {s : Settings} {l : ℕ} {ts : List ℕ} (x : Call) → Grown s l ts → row_refusal s ts x ≡ 0 → Grown s (suc l) (row_of s ts x)
unfolding row_of PulseGrows
grows {s} {l} {ts} x g e =
    let k = limits s g.pass in
    record {
      pass = g.pass;
      long = table_length _ s.width 0;
      grown = λ c i. rw (table_at _ s.width 0 c i)
          (omega (
            arith,
            pulse_grows s ts x (549755813887 + 2187500 * l) (0 + c) e (λ j m u. g.grown j m) (omega arith),
            k.delay,
            k.hold,
            k.unit,
          ));
    }

-- an accepted row of a file is an accepted call
pub call_accepted : (s : Settings) (ts bs : List ℕ) → row_number s ts bs ≡ 0 → row_refusal s ts (call_in s.width bs) ≡ 0
unfolding row_number row_fields_cause row_refusal
call_accepted s ts bs e =
    (unhit_given (field_cause 4 (tiles_size s.width) (drop (marks_field s.width) bs)) _
    (unhit_given (field_cause 3 (mark_bytes s.width) bs) _ e).1).1

-- rows that keep their limits are a run, shown whole
module _ (s : Settings) where
  pub rows_accepted : (n l at : ℕ) (r : Pulses) (bs : List ℕ) → RowsKeep s n bs → Grown s l r.times → l + n ≤ 1024 →
      rows_shown s n l at r bs ≡ run_shown s l (calls_in s.width n bs) r (rows s (calls_in s.width n bs) r.times)
  unfolding rows_shown or_shown row_number calls_in run_shown rows call_in call
  rows_accepted zero l at r bs over g i = refl
  rows_accepted (suc n) l at r bs (and_then k rest) g i =
      let ts = r.times in
      let x = call_in s.width bs in
      let e = keeps s ts (early_of g (omega arith)) bs k in
      let a = call_accepted s ts bs e in
      rw (
        none_of (row_fields_cause s ts bs) e,
        eq-eqb (row_refusal s ts x) 0 a,
        rows_accepted n (suc l) (at + row_size s.width) (next_pulses s ts x) (drop (row_size s.width) bs) rest (grows x g a) (omega arith),
      )

  pub all_accepted : (n l : ℕ) (ts bs : List ℕ) → RowsKeep s n bs → Grown s l ts → l + n ≤ 1024 →
      accepted_calls s (calls_in s.width n bs) ts ≡ calls_in s.width n bs
  unfolding calls_in accepted_calls
  all_accepted zero l ts bs over g i = refl
  all_accepted (suc n) l ts bs (and_then k r) g i =
      let x = call_in s.width bs in
      let a = call_accepted s ts bs (keeps s ts (early_of g (omega arith)) bs k) in
      rw (eq-eqb (row_refusal s ts x) 0 a, all_accepted n (suc l) (row_of s ts x) (drop (row_size s.width) bs) r (grows x g a) (omega arith))

-- what a row shows is no refusal
pub number_after : (s : Settings) (l : ℕ) (ms : List ℕ) (r : Pulses) (xs : List Shown) → number_shown (row_shown s l ms r ++ xs) ≡ number_shown xs
unfolding row_shown number_shown
number_after s zero ms r xs = refl
number_after s (suc l) ms r xs = refl

pub number_alone : (s : Settings) (l : ℕ) (ms : List ℕ) (r : Pulses) → number_shown (row_shown s l ms r) ≡ 0
unfolding row_shown number_shown
number_alone s zero ms r = refl
number_alone s (suc l) ms r = refl

-- rows that are not turned away keep their limits
module _ (s : Settings) where
  pub rows_kept : (n l at : ℕ) (r : Pulses) (bs : List ℕ) → number_shown (rows_shown s n l at r bs) ≡ 0 → Grown s l r.times → l + n ≤ 1024 → RowsKeep s n bs
  unfolding rows_shown or_shown number_shown row_number
  rows_kept zero l at r [] e g i = over
  rows_kept zero l at r (b ∷ bs) e g i =
      let never : ⊥ = omega (arith, rw (ne_eqb (length (b ∷ bs)) 0 (omega arith)) at e) in absurd never
  rows_kept (suc n) l at r bs e g i =
      let ts = r.times in
      by_cause (row_fields_cause s ts bs)
      (λ q. let x = call_in s.width bs in
      let rest = rw (none_of (row_fields_cause s ts bs) q, number_after s l (marks_in s.width bs) r) at e in
      and_then (kept s ts (early_of g (omega arith)) bs q)
      (rows_kept n (suc l) (at + row_size s.width) (next_pulses s ts x) (drop (row_size s.width) bs) rest (grows x g (call_accepted s ts bs q)) (omega arith)))
      (λ why q. absurd (numbered why (rw q at e)))
