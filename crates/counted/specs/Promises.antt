-- What is promised of each operation beside its contract. Each statement is proved in proofs/Promises.antt, under its name in small letters.
-- Assumes nothing.
use Rattle.std.specs.Prelude.{◌≡◌, false, ℕ, Some, None}
use Rattle.settings.specs.declared.refusal.Refusal.TheVariants.{Sender}
use Rattle.board.specs.State.{runs}
use Rattle.board.specs.declared.stand.Answer.TheVariants.{Done}
use Rattle.counted.specs.State.{pulsed, closed_many}
use Rattle.counted.specs.declared.Counted.{Counted}

-- §E6.1 54 raises no count, and keeps the rest
unfoldable pub WrongKept : Type 0
WrongKept = (x : Counted) (k : ℕ) → (pulsed x k).refusal ≡ Some Sender → (pulsed x k).tile ≡ x

-- §E6.1 nothing is counted once the run is over, nor of a tile that does not fit
unfoldable pub OverIgnores : Type 0
OverIgnores =
    (x : Counted) → runs x.board ≡ false →
    ((k : ℕ) → pulsed x k ≡ record { refusal = None; tile = x }) × ((n : ℕ) → closed_many x n ≡ record { answer = Done; tile = x })
