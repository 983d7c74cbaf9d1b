-- What is promised of each operation beside its contract. Each statement is proved in proofs/Promises.antt, under its name in small letters.
-- What is promised of lists of calls stands in crate board_runs. Assumes nothing.
use Rattle.std.specs.Prelude.{◌≡◌, false, ◌↔◌, ℕ, ◌≤◌, Some, None}
use Rattle.settings.specs.Limits.{Limits}
use Rattle.settings.specs.declared.Settings.{Settings}
use Rattle.settings.specs.declared.refusal.Refusal.TheVariants.{Sender}
use Rattle.rule.specs.Stamp.{latest_stamp}
use Rattle.board.specs.State.{runs, started, pulsed, shut_many, closed, closed_many}
use Rattle.board.specs.Closing.{jumped}
use Rattle.board.specs.declared.Board.{Board}
use Rattle.board.specs.declared.stand.Answer.TheVariants.{Done}

-- §E5.1 a start is accepted exactly where the settings keep their limits, there are two neighbours or three, and the reading is at most 2^41 - 1
unfoldable pub StartPlain : Type 0
StartPlain = (s : Settings) (n v : ℕ) → (Limits s × (2 ≤ n) × (n ≤ 3) × (v ≤ latest_stamp)) ↔ ((started s n v).refusal ≡ None)

-- §E5.1 one that is turned away leaves a tile that ignores everything, as `OverIgnores` says
unfoldable pub RefusedOver : Type 0
RefusedOver = (s : Settings) (n v : ℕ) → ((started s n v).refusal ≡ None → ⊥) → runs (started s n v).board ≡ false

-- §E5.2 54 keeps the state, and is no repeat
unfoldable pub WrongKept : Type 0
WrongKept = (b : Board) (k : ℕ) → (pulsed b k).refusal ≡ Some Sender → pulsed b k ≡ record { refusal = Some Sender; repeat = false; board = b }

-- §E5.4 once its run is over a tile ignores everything; so does one that does not fit (§E5.9)
unfoldable pub OverIgnores : Type 0
OverIgnores =
    (b : Board) → runs b ≡ false →
    ((k : ℕ) → pulsed b k ≡ record { refusal = None; repeat = false; board = b }) × ((n : ℕ) → closed_many b n ≡ record { answer = Done; board = b })

-- §E5.5 many closes in constant time are as many one by one
unfoldable pub ClosingsRight : Type 0
ClosingsRight = (n : ℕ) (b : Board) → shut_many n b ≡ jumped n b

-- §E5.5 and one close is one of many
unfoldable pub OneClose : Type 0
OneClose = (b : Board) → closed b ≡ closed_many b 1
