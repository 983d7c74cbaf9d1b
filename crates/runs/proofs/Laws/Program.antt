-- A list of calls of the row operation is a run: its answers tell which are accepted, and what it wrote is the row. Assumes nothing.
use mathlib.Core.Path.{◌≡◌, sym, ◌∙◌, ap}
use mathlib.Core.List.{List}
use Prim.Native.Nat.{ℕ}
use Rattle.settings.specs.declared.Settings.{Settings}
use Rattle.admission.specs.Call.{Call}
use Rattle.admission.specs.Refusal.{row_refusal}
use Rattle.settings.specs.Refusal.{number_in}
use Rattle.runs.specs.Program.{call_with, Calls, done, refused, accepted}
use Rattle.runs.proofs.Laws.Run.{Run, no_run, one_more}
use Rattle.row.proofs.Promises.{planned_number, written_accepted}

pub run_of_calls : {s : Settings} {ts : List ℕ} {xs : List Call} {rs : List (List ℕ)} → Calls s ts xs rs → Run s ts xs rs
run_of_calls {s} {ts} done = no_run s ts
run_of_calls (refused ms ds qs ls held answer after e n calls) = run_of_calls calls
run_of_calls {s} {ts} (accepted ms ds qs ls held answer after e n calls) =
    let x = call_with ms ds qs ls held in
    let zero_number : row_refusal s ts x ≡ 0 = sym (planned_number s ts x) ∙ ap number_in (sym e.answered) ∙ n in
    one_more zero_number (sym (e.wrote ∙ written_accepted s ts x held.times zero_number)) (run_of_calls calls)
