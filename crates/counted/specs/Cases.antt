-- The counts at numbers, with unit 12 and hold 400. Each statement is proved in proofs/Cases.antt, under its name in small letters. Assumes
-- nothing.
use Rattle.std.specs.Prelude.{◌≡◌, List, [], ◌∷◌, map, ℕ, Some, None}
use Rattle.settings.specs.Settings.{settings}
use Rattle.settings.specs.declared.Settings.{Settings}
use Rattle.settings.specs.declared.refusal.Refusal.TheVariants.{Sender}
use Rattle.rule.specs.Stamp.{silence}
use Rattle.board.specs.Stand.{stand}
use Rattle.board.specs.declared.stand.Stage.{Stage}
use Rattle.board.specs.declared.stand.Stage.TheVariants as stage
use Rattle.board.specs.declared.stand.Answer.TheVariants as answer
use Rattle.board.specs.Events.{pulse, close}
use Rattle.board_runs.specs.Reading.{run_of}
use Rattle.board_runs.specs.Program.{Call, pulses, closes_one, closes_many, all_events}
use Rattle.counted.specs.State.{counted, started, pulsed, closed}
use Rattle.counted.specs.Reading.{counts_in}
use Rattle.counted.specs.Program.{Calls}
use Rattle.counted.specs.declared.Counted.{Counted}

-- §E6.1 the settings of §14.1
unfoldable pub wall : Settings
wall = settings 6 1 100 10 400 0 12

-- §E6.1 so many neighbours, stamps and counts, at a reading, in a stage
unfoldable pub tile_of : Settings → (count : ℕ) → (stamps counts : List ℕ) → (reading : ℕ) → Stage → Counted
tile_of s n xs cs v x = counted (record { settings = s; senders = record { count = n; stamps = xs }; stand = stand v x }) cs

-- §E6.1 one of these settings
unfoldable pub tile : (count : ℕ) → (stamps counts : List ℕ) → (reading : ℕ) → Stage → Counted
tile = tile_of wall

-- §E6.1 the counts after a pulse of each of some senders, none after another
unfoldable pub after_each : Counted → (senders : List ℕ) → List (List ℕ)
after_each x ks = map (λ (k : ℕ). (pulsed x k).tile.repeats) ks

-- §E6.1 nothing is counted at first
unfoldable pub StartCase : Type 0
StartCase = (started wall 3 7).tile.repeats ≡ 0 ∷ 0 ∷ 0 ∷ 0 ∷ []

-- §E6.1 a repeat is counted at its sender's place; a first pulse is not, nor is one from no predecessor
unfoldable pub PlaceCases : Type 0
PlaceCases =
    (after_each (tile 3 (5 ∷ 6 ∷ 7 ∷ 8 ∷ []) (10 ∷ 20 ∷ 30 ∷ 40 ∷ []) 9 stage.Running) (0 ∷ 1 ∷ 2 ∷ 3 ∷ 4 ∷ [])
    ≡ (11 ∷ 20 ∷ 30 ∷ 40 ∷ []) ∷ (10 ∷ 21 ∷ 30 ∷ 40 ∷ []) ∷ (10 ∷ 20 ∷ 31 ∷ 40 ∷ []) ∷ (10 ∷ 20 ∷ 30 ∷ 41 ∷ []) ∷ (10 ∷ 20 ∷ 30 ∷ 40 ∷ []) ∷ [])
    × (after_each (tile 3 (silence ∷ silence ∷ 7 ∷ silence ∷ []) (0 ∷ 0 ∷ 30 ∷ 0 ∷ []) 9 stage.Running) (0 ∷ 1 ∷ 2 ∷ 3 ∷ [])
    ≡ (0 ∷ 0 ∷ 30 ∷ 0 ∷ []) ∷ (0 ∷ 0 ∷ 30 ∷ 0 ∷ []) ∷ (0 ∷ 0 ∷ 31 ∷ 0 ∷ []) ∷ (0 ∷ 0 ∷ 30 ∷ 0 ∷ []) ∷ [])

-- §E6.1 a count goes to 65,535 and stays, whatever the others are
unfoldable pub MostCases : Type 0
MostCases =
    after_each (tile 3 (5 ∷ 6 ∷ 7 ∷ 8 ∷ []) (65535 ∷ 65534 ∷ 65533 ∷ 0 ∷ []) 9 stage.Running) (0 ∷ 1 ∷ 2 ∷ 3 ∷ [])
    ≡ (65535 ∷ 65534 ∷ 65533 ∷ 0 ∷ []) ∷ (65535 ∷ 65535 ∷ 65533 ∷ 0 ∷ []) ∷ (65535 ∷ 65534 ∷ 65534 ∷ 0 ∷ []) ∷ (65535 ∷ 65534 ∷ 65533 ∷ 1 ∷ []) ∷ []

-- §E6.3 a full count turns no sender away
unfoldable pub FullCase : Type 0
FullCase =
    let x = tile 3 (5 ∷ 6 ∷ 7 ∷ 8 ∷ []) (65535 ∷ 65535 ∷ 65535 ∷ 65535 ∷ []) 9 stage.Running in
    pulsed x 0 ≡ record { refusal = None; tile = x }

-- §E6.1 a third neighbour where there are two is 54, and leaves all
unfoldable pub WrongCase : Type 0
WrongCase =
    let x = tile 2 (5 ∷ 6 ∷ 7 ∷ silence ∷ []) (10 ∷ 20 ∷ 30 ∷ 0 ∷ []) 9 stage.Running in
    pulsed x 3 ≡ record { refusal = Some Sender; tile = x }

-- §E6.1 once it has pulsed, or has ended, nothing is counted
unfoldable pub OverCases : Type 0
OverCases =
    let counts : List ℕ = 10 ∷ 20 ∷ 0 ∷ 0 ∷ [] in
    (closed (tile 2 (100 ∷ 100 ∷ silence ∷ silence ∷ []) counts 500 stage.Running)
    ≡ record { answer = answer.Pulsed; tile = tile 2 (100 ∷ 100 ∷ silence ∷ silence ∷ []) counts 500 stage.Pulsed })
    × (after_each (tile 2 (100 ∷ 100 ∷ silence ∷ silence ∷ []) counts 500 stage.Pulsed) (0 ∷ 1 ∷ 2 ∷ 3 ∷ []) ≡ counts ∷ counts ∷ counts ∷ counts ∷ [])
    × (after_each (tile 2 (100 ∷ 100 ∷ silence ∷ silence ∷ []) counts 500 stage.Ended) (0 ∷ 1 ∷ 2 ∷ 3 ∷ []) ≡ counts ∷ counts ∷ counts ∷ counts ∷ [])

-- §E6.2 a list of events: three pulses of own, with neighbour 2's first between them; two of a third neighbour where there are two
unfoldable pub ReadingCases : Type 0
ReadingCases =
    let es = pulse 0 ∷ pulse 2 ∷ pulse 0 ∷ close ∷ pulse 3 ∷ pulse 0 ∷ pulse 3 ∷ [] in
    (counts_in 2 es ≡ 2 ∷ 0 ∷ 0 ∷ 0 ∷ []) × (counts_in 3 es ≡ 2 ∷ 0 ∷ 0 ∷ 1 ∷ [])

-- §E6.2 settings with a hold of 32
unfoldable pub brief : Settings
brief = settings 6 1 1 0 32 0 2

-- §E6.2 neighbour 1 chatters, and own repeats once; a wrong sender is turned away; after the tile's pulse at 33 both go on
unfoldable pub chatter : List Call
chatter =
    pulses 1 None
    ∷ pulses 1 None
    ∷ closes_one answer.Waits
    ∷ pulses 0 None
    ∷ pulses 1 None
    ∷ pulses 0 None
    ∷ pulses 3 (Some Sender)
    ∷ closes_many 40 answer.Pulsed
    ∷ pulses 1 None
    ∷ pulses 0 None
    ∷ pulses 3 None
    ∷ []

-- §E6.2 such calls there are, and so are they counted
unfoldable pub ChatterMet : Type 0
ChatterMet =
    Calls (started brief 2 0).tile chatter (tile_of brief 2 (1 ∷ 0 ∷ silence ∷ silence ∷ []) (1 ∷ 2 ∷ 0 ∷ 0 ∷ []) 33 stage.Pulsed)
    × (counts_in 2 (run_of brief 2 0 (all_events chatter)).events ≡ 1 ∷ 2 ∷ 0 ∷ 0 ∷ [])
