-- The proofs of what specs/Reach.antt and its fellows state, from the laws in proofs/Laws/. Assumes nothing.
use mathlib.Core.Bool.{not, and-false}
use mathlib.Core.List.{List}
use Prim.Native.Nat.{ℕ, zero, suc, ◌+◌, ◌*◌, ◌≤◌, ◌<◌}
use lib.ListN.{length, get_or}
use native.Mathlib.Omega.{arith}
use borrow.Author.Tests.{le-ltb}
use Rattle.settings.specs.declared.Settings.{Settings}
use Rattle.settings.proofs.Laws.Settings.{limits}
use Rattle.admission.specs.Call.{Call}
use Rattle.links.specs.Links.{latest_time}
use Rattle.columns.specs.Marks.{marked}
use Rattle.admission.specs.Refusal.{late_time}
use Rattle.runs.specs.Run.{accepted_calls, rows, call_at, row_at}
use Rattle.runs.specs.Reach.{Alike, AlikeAmong, TwoRuns, OneFault, OneMoreFault}
use Rattle.runs.specs.Program.{ProgramOneFault, ProgramOneMoreFault}
use Rattle.runs.proofs.Laws.Program.{run_of_calls}
use Rattle.runs.specs.Growth.{PulseGrows, RowSmall, NeverLate}
use Rattle.runs.specs.Shift.{ShiftBounded}
use Rattle.runs.proofs.Laws.Shift.{shifted}
use Rattle.settings.proofs.Laws.AnyBelow.{none_till}
use Rattle.admission.proofs.Laws.Accepted.{accepted}
use Rattle.runs.proofs.Laws.Growth.{pulse_most}
use Rattle.runs.proofs.Laws.Run.{Run, run_of, written_at}
use Rattle.runs.proofs.Laws.Reach.{reach}

-- §12.3, whatever other tiles are faulty
pub one_more_fault : OneMoreFault
unfolding OneMoreFault
one_more_fault s ts xs ys f k two = reach (run_of s xs ts) (run_of s ys ts) two

-- with no other faulty tile
among : {w f k : ℕ} {xs ys : List Call} → TwoRuns Alike w f k xs ys → TwoRuns AlikeAmong w f k xs ys
among {f = f} {k = k} two =
    let alike = two.alike in
    record {
      row = two.row;
      column = two.column;
      alike = record {
        as_many = alike.as_many;
        drifts = alike.drifts;
        phases = alike.phases;
        correct = alike.first_clean f k two.row two.column;
        marks = λ l c m n. rw (alike.first_clean l c m n) (alike.marks l c m n);
        links = alike.links;
      };
    }

pub one_fault : OneFault
unfolding OneFault OneMoreFault
one_fault s ts xs ys f k two = one_more_fault s ts xs ys f k (among two)

-- the same of the program's own calls
pub program_one_more_fault : ProgramOneMoreFault
unfolding ProgramOneMoreFault
program_one_more_fault s ts xs ys rs qs f k first second two = reach (run_of_calls first) (run_of_calls second) two

pub program_one_fault : ProgramOneFault
unfolding ProgramOneFault
program_one_fault s ts xs ys rs qs f k first second two = reach (run_of_calls first) (run_of_calls second) (among two)

-- the growth of times
pub pulse_grows : PulseGrows
unfolding PulseGrows
pulse_grows s ts x T c e early i = pulse_most (accepted s ts x e) T c early i

pub row_small : RowSmall
unfolding RowSmall
row_small s ts x c e i =
    let r = accepted s ts x e in
    let k = limits s r.settings in
    omega (arith, pulse_most r latest_time c r.time i, k.delay, k.hold, k.unit)

-- row l is at most l times 2,187,500 ticks after row 0
times_small : (s : Settings) (ts : List ℕ) (xs : List Call) (rs : List (List ℕ)) → Run s ts xs rs →
    ((c : ℕ) → c < s.width → get_or ts c 0 ≤ 549755813887) → (l c : ℕ) → l ≤ length xs → c < s.width → get_or (row_at ts rs l) c 0 ≤ 549755813887 + 2187500 * l
times_small s ts xs rs run start zero c i j = unfold row_at in omega (arith, start c j)
times_small s ts xs rs run start (suc l) c i j =
    let r = accepted s (row_at ts rs l) (call_at xs l) (run.goes l (omega arith)) in
    let k = limits s r.settings in
    omega (
      arith,
      written_at run l c (omega arith) j,
      pulse_most r (549755813887 + 2187500 * l) c (λ m o t. times_small s ts xs rs run start l m (omega arith) o) j,
      k.delay,
      k.hold,
      k.unit,
    )

pub never_late : NeverLate
unfolding NeverLate late_time
never_late s ts xs l ms ok start i j =
    let run = run_of s xs ts in
    none_till (late_time (row_at ts (rows s xs ts) l) ms) s.width
    (λ c o. rw (le-ltb latest_time (get_or (row_at ts (rows s xs ts) l) c 0)
    (omega (arith, times_small s ts (accepted_calls s xs ts) (rows s xs ts) run start l c (omega (arith, run.as_many)) o)))
    (and-false (not (marked ms c))))

-- a wave that starts later
pub shift_bounded : ShiftBounded
unfolding ShiftBounded
shift_bounded s ts us xs ys n start later l c i j =
    let run = run_of s xs ts in
    shifted n run (run_of s ys us) start later l c (omega (arith, run.as_many)) j
