-- Runs without their refused calls: each accepted call is accepted on the row before it and writes the next. Assumes nothing.
use mathlib.Core.Path.{◌≡◌, refl, sym, ◌∙◌, ap}
use mathlib.Core.List.{List, [], ◌∷◌}
use Prim.Native.Nat.{ℕ, zero, suc, ◌<◌}
use lib.ListN.{length, get_or}
use native.Mathlib.Omega.{arith}
use borrow.Author.Tests.{eq-eqb, ne_eqb}
use Rattle.settings.specs.Settings.{settings_refusal}
use Rattle.settings.specs.declared.Settings.{Settings}
use Rattle.settings.proofs.Laws.Cases.{by_equal}
use Rattle.admission.specs.Call.{Call}
use Rattle.pulse.specs.Pulse.{pulse}
use Rattle.row.specs.Row.{row_of}
use Rattle.admission.specs.Refusal.{row_refusal}
use Rattle.runs.specs.Run.{accepted_calls, rows, call_at, row_at}
use Rattle.columns.proofs.Laws.Lists.{table_at}
use Rattle.admission.proofs.Laws.Accepted.{accepted}

-- accepted calls and the rows that they wrote
pub record Run (s : Settings) (ts : List ℕ) (xs : List Call) (rs : List (List ℕ)) : Type 0 where
  pub as_many : length rs ≡ length xs
  pub goes : (l : ℕ) → l < length xs → row_refusal s (row_at ts rs l) (call_at xs l) ≡ 0
  pub writes : (l : ℕ) → l < length xs → row_at ts rs (suc l) ≡ row_of s (row_at ts rs l) (call_at xs l)

row_after : (ts r : List ℕ) (rs : List (List ℕ)) (l : ℕ) → row_at ts (r ∷ rs) (suc l) ≡ row_at r rs l
unfolding row_at
row_after ts r rs zero = refl
row_after ts r rs (suc l) = refl

pub no_run : (s : Settings) (ts : List ℕ) → Run s ts [] []
no_run s ts =
    record {
      as_many = refl;
      goes = λ l i. let never : ⊥ = omega arith in absurd never;
      writes = λ l i. let never : ⊥ = omega arith in absurd never;
    }

-- one accepted call more, before the others
pub one_more : {s : Settings} {ts r : List ℕ} {x : Call} {xs : List Call} {rs : List (List ℕ)} → row_refusal s ts x ≡ 0 → row_of s ts x ≡ r →
    Run s r xs rs → Run s ts (x ∷ xs) (r ∷ rs)
one_more {s} {ts} {r} {x} {xs} {rs} e w run = record { as_many = ap suc run.as_many; goes = goes; writes = writes }
  where
    goes : (l : ℕ) → l < length (x ∷ xs) → row_refusal s (row_at ts (r ∷ rs) l) (call_at (x ∷ xs) l) ≡ 0
    goes zero i = unfold row_at call_at in e
    goes (suc l) i = rw (row_after ts r rs l) (unfold call_at in run.goes l (omega arith))

    writes : (l : ℕ) → l < length (x ∷ xs) → row_at ts (r ∷ rs) (suc l) ≡ row_of s (row_at ts (r ∷ rs) l) (call_at (x ∷ xs) l)
    writes zero i = unfold row_at call_at in sym w
    writes (suc l) i = rw (row_after ts r rs (suc l), row_after ts r rs l) (unfold call_at in run.writes l (omega arith))

-- §11.3 a refused call makes no row
pub run_of : (s : Settings) (xs : List Call) (ts : List ℕ) → Run s ts (accepted_calls s xs ts) (rows s xs ts)
unfolding accepted_calls rows
run_of s [] ts = no_run s ts
run_of s (x ∷ xs) ts =
    by_equal (row_refusal s ts x) 0
    (λ e. rw (eq-eqb (row_refusal s ts x) 0 e) (one_more e refl (run_of s xs (row_of s ts x))))
    (λ n. rw (ne_eqb (row_refusal s ts x) 0 n) (run_of s xs ts))

-- the settings of a run with an accepted call pass
pub run_checked : {s : Settings} {ts : List ℕ} {xs : List Call} {rs : List (List ℕ)} → Run s ts xs rs → (l : ℕ) → l < length xs → settings_refusal s ≡ 0
run_checked {s} {ts} {xs} {rs} run l i = (accepted s (row_at ts rs l) (call_at xs l) (run.goes l i)).settings

-- a pulse of a row that was written
pub written_at : {s : Settings} {ts : List ℕ} {xs : List Call} {rs : List (List ℕ)} → Run s ts xs rs → (l c : ℕ) → l < length xs → c < s.width →
    get_or (row_at ts rs (suc l)) c 0 ≡ pulse s (row_at ts rs l) (call_at xs l) c
unfolding row_of
written_at {s} {ts} {xs} {rs} run l c i j =
    ap (λ (r : List ℕ). get_or r c 0) (run.writes l i)
    ∙ table_at (pulse s (row_at ts rs l) (call_at xs l)) s.width 0 c j
    ∙ ap (pulse s (row_at ts rs l) (call_at xs l)) (omega arith)
