-- The proofs of what specs/Promises.antt states, from the laws in proofs/Laws/. Assumes nothing.
use mathlib.Core.Path.{◌≡◌, refl, ◌∙◌, ap}
use mathlib.Core.Bool.{Bool, true, false, cond}
use mathlib.Core.List.{List, [], ◌∷◌}
use Prim.Native.Nat.{ℕ, zero, suc, ◌+◌, ◌*◌, ◌≤◌, ◌<◌}
use lib.ListN.{length, get_or}
use native.Mathlib.Omega.{arith}
use borrow.Author.Tests.{ltb-false, le-ltb}
use Rattle.std.specs.Prelude.{Option, Some, None}
use Rattle.settings.specs.Refusal.{refused, any_below}
use Rattle.settings.specs.declared.refusal.Refusal.{Refusal}
use Rattle.settings.specs.declared.refusal.Refusal.TheVariants.{LateStart}
use Rattle.settings.proofs.Laws.Refusal.{numbered, none_of, skip_given, unhit_given}
use Rattle.settings.specs.Limits.{SettingsPlain}
use Rattle.settings.specs.Settings.{settings_refusal}
use Rattle.settings.specs.declared.Settings.{Settings}
use Rattle.settings.proofs.Limits.{settings_plain}
use Rattle.settings.proofs.Laws.AnyBelow.{none_below, none_till}
use Rattle.steps.proofs.Laws.Taken.{by_cause}
use Rattle.settings.proofs.Laws.Settings.{limits}
use Rattle.row.specs.Row.{Pulses, pulses}
use Rattle.runs.specs.Reach.{OneFault}
use Rattle.runs.proofs.Laws.Run.{run_of}
use Rattle.runs.proofs.Promises.{one_fault}
use Rattle.admission.specs.Call.{Call}
use Rattle.fields.specs.Field.{field_cause, field_refusal, body}
use Rattle.fields.specs.Limits.{FieldPlain}
use Rattle.fields.proofs.Limits.{field_plain}
use Rattle.contents.specs.Contents.{settings_size, start_size, times_in, late_start}
use Rattle.steps.specs.Shown.{turned_away, no_marks, number_shown}
use Rattle.steps.specs.Number.{settings_field_cause, settings_number, start_cause, start_number}
use Rattle.file.specs.File.{or_shown, rows_shown, start_shown, shown}
use Rattle.file.specs.Limits.{settings_of, after_settings, start_of, after_start, calls_in, calls_of, rows_of, Keeps, run_shown}
use Rattle.file.specs.Program.{CallsRight, LeftFits}
use Rattle.file.specs.Promises.{StepsRight, AcceptedWhole, OthersRefused, FilePlain, NumbersMet, SeamsAnswered, FileIsRun, FileOneFault}
use Rattle.file.specs.Stands.{StepsFewer}
use Rattle.file.specs.Takes.{TakeCallsRight}
use Rattle.file.proofs.Laws.Calls.{calls_right as calls_law}
use Rattle.contents.proofs.Laws.Contents.{times_length}
use Rattle.file.proofs.Laws.Numbers.{rows_met, settings_number_met, start_number_met}
use Rattle.file.proofs.Laws.Left.{left_fits as reached_law}
use Rattle.file.proofs.Laws.Rows.{Grown, rows_accepted, all_accepted, number_after, number_alone, rows_kept}
use Rattle.file.proofs.Laws.Seams.{rows_hold, away_holds}
use Rattle.file.proofs.Laws.Stands.{step_ahead}
use Rattle.file.proofs.Laws.Steps.{steps_right as steps_law}
use Rattle.file.proofs.Laws.Takes.{take_calls_right as take_calls_law}

pub steps_right : StepsRight
unfolding StepsRight
steps_right n row file i = steps_law row file n i

-- calls of the operations themselves
pub calls_right : CallsRight
unfolding CallsRight
calls_right row file text calls = calls_law row file text calls

pub take_calls_right : TakeCallsRight
unfolding TakeCallsRight
take_calls_right row file shows calls = take_calls_law row file shows calls

pub left_fits : LeftFits
unfolding LeftFits
left_fits x row r long = reached_law x row r long

pub steps_fewer : StepsFewer
unfolding StepsFewer
steps_fewer x row part i k = let a = step_ahead x row part i k in (a.stands, a.less)

no_number : (b : Bool) → refused (cond b (Some LateStart) None) ≡ 0 → b ≡ false
no_number true e = absurd (numbered LateStart e)
no_number false e = refl

-- row 0 as it must be
start_grown : (s : Settings) (bs : List ℕ) → settings_refusal s ≡ 0 → any_below s.width (late_start (times_in s.width bs)) ≡ false →
    Grown s 0 (times_in s.width bs)
unfolding late_start
start_grown s bs pass e =
    record {
      pass = pass;
      long = times_length s.width bs;
      grown = λ c i. omega (arith, ltb-false 549755813887 (get_or (times_in s.width bs) c 0) (none_below _ s.width c i e));
    }

-- what is shown, by the first part that is turned away
module _ (file : List ℕ) where
  abbrev pub rows_place : ℕ
  rows_place = 3 + settings_size + (3 + start_size (settings_of file).width)

  abbrev pub start_at : ℕ
  start_at = start_number (settings_of file) (after_settings file)

  abbrev start_why : Option Refusal
  start_why = start_cause (settings_of file) (after_settings file)

  shown_settings : {why : Refusal} → settings_field_cause file ≡ Some why → shown file ≡ turned_away why 0 ∷ []
  unfolding shown or_shown
  shown_settings p = rw p

  shown_start : settings_number file ≡ 0 → {why : Refusal} → start_why ≡ Some why → shown file ≡ turned_away why (3 + settings_size) ∷ []
  unfolding shown start_shown or_shown settings_of after_settings settings_number
  shown_start p q = rw (none_of (settings_field_cause file) p, q)

  shown_rows : settings_number file ≡ 0 → start_at ≡ 0 →
      shown file ≡ rows_shown (settings_of file) (settings_of file).rows 0 rows_place (pulses (start_of file) []) (after_start file)
  unfolding shown start_shown or_shown settings_of after_settings start_of after_start settings_number start_number
  shown_rows p q = rw (none_of (settings_field_cause file) p, none_of start_why q)

  -- the parts before the rows, where they are accepted
  module _ (p : settings_number file ≡ 0) (q : start_at ≡ 0) where
    settings_kept : (field_refusal 1 settings_size file ≡ 0) × (settings_refusal (settings_of file) ≡ 0)
    unfolding settings_number settings_field_cause settings_of field_refusal settings_refusal
    settings_kept = unhit_given (field_cause 1 settings_size file) _ p

    start_kept :
        (field_refusal 2 (start_size (settings_of file).width) (after_settings file) ≡ 0) × (any_below (settings_of file).width (late_start (start_of file)) ≡ false)
    unfolding start_number start_cause start_of field_refusal
    start_kept =
        let parts = unhit_given (field_cause 2 (start_size (settings_of file).width) (after_settings file)) _ q in
        (parts.0, no_number (any_below (settings_of file).width (late_start (start_of file))) parts.1)

    early_kept : (c : ℕ) → c < (settings_of file).width → get_or (start_of file) c 0 ≤ 549755813887
    unfolding late_start
    early_kept c i = omega (arith, ltb-false 549755813887 (get_or (start_of file) c 0) (none_below _ (settings_of file).width c i start_kept.1))

    first_grown : Grown (settings_of file) 0 (start_of file)
    unfolding start_of
    first_grown = start_grown (settings_of file) (body (start_size (settings_of file).width) (after_settings file)) settings_kept.1 start_kept.1

    rows_few : 0 + (settings_of file).rows ≤ 1024
    rows_few = omega (arith, (limits (settings_of file) settings_kept.1).rows)

-- a file that keeps every limit
module _ (file : List ℕ) (k : Keeps file) where
  pub settings_accepted : settings_number file ≡ 0
  unfolding settings_number settings_field_cause settings_of FieldPlain SettingsPlain field_refusal settings_refusal
  settings_accepted =
      ap refused (skip_given (field_cause 1 settings_size file) _ ((field_plain 1 24 file).0 k.settings_there)) ∙ (settings_plain (settings_of file)).0 k.settings_within

  none_late : any_below (settings_of file).width (late_start (start_of file)) ≡ false
  unfolding late_start
  none_late = none_till _ (settings_of file).width (λ c i. le-ltb 549755813887 (get_or (start_of file) c 0) (omega (arith, k.start_early c i)))

  pub start_accepted : start_at file ≡ 0
  unfolding start_number start_cause start_of FieldPlain field_refusal
  start_accepted =
      ap refused
      (skip_given (field_cause 2 (start_size (settings_of file).width) (after_settings file)) _
      ((field_plain 2 (8 * (settings_of file).width) (after_settings file)).0 k.start_there))
      ∙ rw none_late

  pub first_row : Grown (settings_of file) 0 (start_of file)
  first_row = first_grown file settings_accepted start_accepted

  pub few_rows : 0 + (settings_of file).rows ≤ 1024
  few_rows = rows_few file settings_accepted start_accepted

pub accepted_whole : AcceptedWhole
unfolding AcceptedWhole calls_of rows_of
accepted_whole file k =
    let s = settings_of file in
    shown_rows file (settings_accepted file k) (start_accepted file k)
    ∙ rows_accepted s s.rows 0 (rows_place file) (pulses (start_of file) []) (after_start file) k.rows_keep (first_row file k) (few_rows file k)

pub others_refused : OthersRefused
unfolding OthersRefused number_shown FieldPlain settings_number start_number
others_refused file e =
    by_cause (settings_field_cause file)
    (λ p. by_cause (start_why file)
    (λ q. let s = settings_of file in
    record {
      settings_there = (field_plain 1 24 file).1 (settings_kept file p q).0;
      settings_within = limits s (settings_kept file p q).1;
      start_there = (field_plain 2 (8 * s.width) (after_settings file)).1 (start_kept file p q).0;
      start_early = early_kept file p q;
      rows_keep = rows_kept s s.rows 0 (rows_place file) (pulses (start_of file) []) (after_start file) (rw (shown_rows file p q) at e) (first_grown file p q)
          (rows_few file p q);
    })
    (λ why q. absurd (numbered why (rw (shown_start file p q) at e))))
    (λ why p. absurd (numbered why (rw (shown_settings file p) at e)))

-- the rows of a run are no refusal
run_number : (s : Settings) (l : ℕ) (calls : List Call) (r : Pulses) (rs : List (List ℕ)) → number_shown (run_shown s l calls r rs) ≡ 0
unfolding run_shown number_shown
run_number s l [] r rs = number_alone s l (no_marks s.width) r
run_number s l (x ∷ xs) r [] = refl
run_number s l (x ∷ xs) r (ts ∷ rs) = number_after s l x.marks r _ ∙ run_number s (suc l) xs _ rs

pub file_plain : FilePlain
unfolding FilePlain AcceptedWhole OthersRefused
file_plain file = (
  λ k. ap number_shown (accepted_whole file k) ∙ run_number (settings_of file) 0 (calls_of file) (pulses (start_of file) []) (rows_of file),
  others_refused file,
)

pub numbers_met : NumbersMet
unfolding NumbersMet number_shown settings_number start_number
numbers_met file =
    by_cause (settings_field_cause file)
    (λ p. by_cause (start_why file)
    (λ q. let s = settings_of file in
    rw (shown_rows file p q) (rows_met s s.rows 0 (rows_place file) (pulses (start_of file) []) (after_start file) (first_grown file p q) (rows_few file p q)))
    (λ why q. rw (shown_start file p q) (rw q at (start_number_met (settings_of file) (after_settings file)))))
    (λ why p. rw (shown_settings file p) (rw p at (settings_number_met file)))

pub seams_answered : SeamsAnswered
unfolding SeamsAnswered settings_number start_number
seams_answered file =
    by_cause (settings_field_cause file)
    (λ p. by_cause (start_why file)
    (λ q. let s = settings_of file in
    rw (shown_rows file p q) (rows_hold s s.rows 0 (rows_place file) (pulses (start_of file) []) (after_start file) (first_grown file p q) (rows_few file p q)))
    (λ why q. rw (shown_start file p q) (away_holds why (3 + settings_size))))
    (λ why p. rw (shown_settings file p) (away_holds why 0))

-- a file's calls are a run
calls_length : (w n : ℕ) (bs : List ℕ) → length (calls_in w n bs) ≡ n
unfolding calls_in
calls_length w zero bs = refl
calls_length w (suc n) bs = ap suc (calls_length w n _)

pub file_is_run : FileIsRun
unfolding FileIsRun calls_of rows_of
file_is_run file k =
    let s = settings_of file in
    let whole = all_accepted s s.rows 0 (start_of file) (after_start file) k.rows_keep (first_row file k) (few_rows file k) in
    (whole, (run_of s (calls_of file) (start_of file)).as_many ∙ ap length whole ∙ calls_length s.width s.rows (after_start file))

pub file_one_fault : FileOneFault
unfolding FileOneFault FileIsRun OneFault rows_of
file_one_fault a b f k first second same_settings same_start two =
    let p = file_is_run a first in
    let q = file_is_run b second in
    rw (← same_settings, ← same_start)
    (one_fault (settings_of a) (start_of a) (calls_of a) (calls_of b) f k (rw (p.0, rw (← same_settings, ← same_start) at q.0) two))
