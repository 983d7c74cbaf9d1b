-- Calls of which specs/Promises.antt speaks, with unit 2 and hold 32, and such as it does not speak of. Each statement is proved in proofs/Witness.antt, under its name in small
-- letters. Assumes nothing.
use Rattle.std.specs.Prelude.{◌≡◌, List, [], ◌∷◌, ℕ, None}
use Rattle.settings.specs.Settings.{settings}
use Rattle.settings.specs.declared.Settings.{Settings}
use Rattle.rule.specs.Stamp.{heard, silent, silence}
use Rattle.board.specs.Stand.{stand}
use Rattle.board.specs.State.{started}
use Rattle.board.specs.declared.Board.{Board}
use Rattle.board.specs.declared.stand.Stage.TheVariants as stage
use Rattle.board.specs.declared.stand.Answer.TheVariants.{Pulsed, Waits, Done}
use Rattle.board_runs.specs.Reading.{first_pulse}
use Rattle.board_runs.specs.Program.{Call, pulses, closes_one, closes_many, Calls, all_events}
use Rattle.board_runs.specs.Promises.{Correct, full_due}

-- §E5.7 the settings
unfoldable pub wall : Settings
wall = settings 6 1 1 0 32 0 2

-- §E5.7 a tile with two neighbours that has pulsed
unfoldable pub state : Settings → (stamps : List ℕ) → (reading : ℕ) → Board
state s xs v = record { settings = s; senders = record { count = 2; stamps = xs }; stand = stand v stage.Pulsed }

-- §E5.7 neighbour 1 at 0 and own at 14, which is A - 9h later; neighbour 2 is faulty and comes at 60, long after the tile's pulse at 46
unfoldable pub late_calls : List Call
late_calls =
    pulses 1 None
    ∷ closes_many 14 Waits
    ∷ pulses 0 None
    ∷ closes_many 32 Waits
    ∷ closes_one Pulsed
    ∷ closes_many 13 Done
    ∷ pulses 2 None
    ∷ []

-- §E5.7 such calls there are: P is 14 by the stamps 14, 0 and 60
unfoldable pub LateMet : Type 0
LateMet =
    Calls (started wall 2 0).board late_calls (state wall (14 ∷ 0 ∷ silence ∷ silence ∷ []) 46)
    × (first_pulse 0 2 (all_events late_calls) ≡ heard 60)
    × (full_due wall 2 0 (all_events late_calls) ≡ 46)
    × Correct wall 2 0 (all_events late_calls)

-- §E5.7 both neighbours at 0, and own never: P is 6, and the tile pulses at 38
unfoldable pub silent_calls : List Call
silent_calls = pulses 2 None ∷ pulses 1 None ∷ closes_many 38 Waits ∷ closes_one Pulsed ∷ []

-- §E5.7 such calls there are
unfoldable pub SilentMet : Type 0
SilentMet =
    Calls (started wall 2 0).board silent_calls (state wall (silence ∷ 0 ∷ 0 ∷ silence ∷ []) 38)
    × (first_pulse 0 0 (all_events silent_calls) ≡ silent)
    × (full_due wall 2 0 (all_events silent_calls) ≡ 38)
    × Correct wall 2 0 (all_events silent_calls)

-- §E5.7 a hold of 45
unfoldable pub longer : Settings
longer = settings 6 1 1 0 45 0 2

-- §E5.7 neighbour 1 at 0 and own at 35, which is A - 5h later; neighbour 2 is faulty and comes at 80
unfoldable pub far_calls : List Call
far_calls = pulses 1 None ∷ closes_many 35 Waits ∷ pulses 0 None ∷ closes_many 45 Waits ∷ pulses 2 None ∷ closes_one Pulsed ∷ []

-- §E5.7 stamps so far apart are too far: P + A is 79 by the full stamps, and the tile waits at the close of 79 and pulses at that of 80
unfoldable pub FartherMet : Type 0
FartherMet =
    Calls (started longer 2 0).board far_calls (state longer (35 ∷ 0 ∷ 80 ∷ silence ∷ []) 80)
    × (full_due longer 2 0 (all_events far_calls) ≡ 79)
