-- Runs: row calls one after another, refused ones included. Assumes nothing.
use Rattle.std.specs.Prelude.{cond, List, [], ◌∷◌, ℕ, zero, suc, eqb, get_or}
use Rattle.settings.specs.declared.Settings.{Settings}
use Rattle.admission.specs.Call.{Call}
use Rattle.row.specs.Row.{row_of}
use Rattle.admission.specs.Refusal.{row_refusal}

-- §11.2 the accepted calls of a list, each given what the one before it wrote; a refused one is passed over (§11.3)
unfoldable pub accepted_calls : Settings → List Call → (row : List ℕ) → List Call
accepted_calls s [] ts = []
accepted_calls s (x ∷ xs) ts = cond (eqb (row_refusal s ts x) 0) (x ∷ accepted_calls s xs (row_of s ts x)) (accepted_calls s xs ts)

-- §11.4 the rows that they wrote
unfoldable pub rows : Settings → List Call → (row : List ℕ) → List (List ℕ)
rows s [] ts = []
rows s (x ∷ xs) ts = cond (eqb (row_refusal s ts x) 0) (row_of s ts x ∷ rows s xs (row_of s ts x)) (rows s xs ts)

-- §11.4 what stands past the end of the calls
abbrev pub no_call : Call
no_call = record { marks = []; drifts = []; phases = []; links = []; room = 0; letter_room = 0 }

-- §11.5 the call for row l + 1, which marks the faulty tiles of row l
unfoldable pub call_at : List Call → (l : ℕ) → Call
call_at xs l = get_or xs l no_call

-- §11.4 row 0, or what accepted call number l wrote
unfoldable pub row_at : (first : List ℕ) → (rest : List (List ℕ)) → (l : ℕ) → List ℕ
row_at ts rs zero = ts
row_at ts rs (suc l) = get_or rs l []
