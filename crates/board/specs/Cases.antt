-- The tile at numbers, with unit 12 and hold 400. Each statement is proved in proofs/Cases.antt, under its name in small letters. Assumes
-- nothing.
use Rattle.std.specs.Prelude.{◌≡◌, true, false, List, [], ◌∷◌, map, ℕ, suc, ◌+◌, ◌-◌, ◌^◌, Some, None}
use Rattle.senders.specs.Senders.{last}
use Rattle.settings.specs.Settings.{settings}
use Rattle.settings.specs.declared.Settings.{Settings}
use Rattle.settings.specs.declared.refusal.Refusal.TheVariants.{Stamp, Sender}
use Rattle.rule.specs.Stamp.{silence}
use Rattle.board.specs.Stand.{stand}
use Rattle.board.specs.State.{start_refusal, started, pulsed, shut_many, closed, closed_many}
use Rattle.board.specs.declared.Board.{Board}
use Rattle.board.specs.declared.stand.Stage.{Stage}
use Rattle.board.specs.declared.stand.Stage.TheVariants as stage
use Rattle.board.specs.declared.stand.Answer.TheVariants as answer

-- §E5.1 the settings of §14.1
unfoldable pub wall : Settings
wall = settings 6 1 100 10 400 0 12

-- §E5.1 others, with clocks that drift
unfoldable pub drifting : Settings
drifting = settings 6 1 100 8 192 10000 12

-- §E5.1 the settings' number comes first, then 11, then 12
unfoldable pub StartCases : Type 0
StartCases =
    (start_refusal wall 2 0 ≡ 0)
    × (start_refusal wall 3 (2 ^ 41 - 1) ≡ 0)
    × (start_refusal wall 2 (2 ^ 41) ≡ 12)
    × (start_refusal wall 1 0 ≡ 11)
    × (start_refusal wall 4 (2 ^ 41) ≡ 11)
    × (start_refusal (settings 6 1 100 10 191 0 12) 4 (2 ^ 41) ≡ 9)
    × (start_refusal (settings 5 1 100 10 191 0 12) 2 0 ≡ 1)

-- §E5.9 a state of the wall
unfoldable pub state : (count : ℕ) → (stamps : List ℕ) → (reading : ℕ) → Stage → Board
state n xs v x = record { settings = wall; senders = record { count = n; stamps = xs }; stand = stand v x }

-- §E5.1 nothing is heard, and the first reading is open
unfoldable pub FreshCase : Type 0
FreshCase = (started wall 3 7).board ≡ state 3 (silence ∷ silence ∷ silence ∷ silence ∷ []) 7 stage.Running

-- §E5.1 one that is turned away is over
unfoldable pub RefusedCase : Type 0
RefusedCase = started wall 2 (2 ^ 41) ≡ record { refusal = Some Stamp; board = state 2 (silence ∷ silence ∷ silence ∷ silence ∷ []) (2 ^ 41) stage.Ended }

infix 70 ◌at◌
-- §E5.6 a pulse of a sender at a reading
pub data Arrival : Type 0 where
  ◌at◌ : (sender reading : ℕ) → Arrival

-- §E5.6 the readings before it are closed, and it comes
unfoldable pub arrives : Board → Arrival → Board
arrives b (k at v) = (pulsed (shut_many (v - b.stand.reading) b) k).board

-- §E5.6 one after the other
unfoldable pub arrive : Board → List Arrival → Board
arrive b [] = b
arrive b (x ∷ xs) = arrive (arrives b x) xs

-- §E5.3 after these the tile waits until p is closed, and pulses then
unfoldable pub PulsesAt : Settings → (count p : ℕ) → List Arrival → Type 0
PulsesAt s n p xs =
    let b = arrive (started s n 0).board xs in
    ((shut_many (p - b.stand.reading) b).stand ≡ stand p stage.Running) × ((shut_many (suc p - b.stand.reading) b).stand ≡ stand p stage.Pulsed)

-- §E5.3 so it does, in each of some orders
unfoldable pub InEach : Settings → (count p : ℕ) → List (List Arrival) → Type 0
InEach s n p [] = Unit {0}
InEach s n p (xs ∷ orders) = PulsesAt s n p xs × InEach s n p orders

-- §14.1 the tile cases as events, in every order of the senders: P is 100, 112, 113, 136, 64 and 64 with neighbours at 100, then 208, 86, 166, 90 and 64, and
-- 112 where clocks drift
unfoldable pub TileCases : Type 0
TileCases =
    InEach wall 2 500
    ((0 at 100 ∷ 1 at 100 ∷ 2 at 100 ∷ [])
    ∷ (0 at 100 ∷ 2 at 100 ∷ 1 at 100 ∷ [])
    ∷ (1 at 100 ∷ 0 at 100 ∷ 2 at 100 ∷ [])
    ∷ (1 at 100 ∷ 2 at 100 ∷ 0 at 100 ∷ [])
    ∷ (2 at 100 ∷ 0 at 100 ∷ 1 at 100 ∷ [])
    ∷ (2 at 100 ∷ 1 at 100 ∷ 0 at 100 ∷ [])
    ∷ [])
    × InEach wall 2 512 ((1 at 100 ∷ 2 at 100 ∷ 0 at 136 ∷ []) ∷ (2 at 100 ∷ 1 at 100 ∷ 0 at 136 ∷ []) ∷ [])
    × InEach wall 2 513 ((1 at 100 ∷ 2 at 100 ∷ 0 at 137 ∷ []) ∷ (2 at 100 ∷ 1 at 100 ∷ 0 at 137 ∷ []) ∷ [])
    × InEach wall 2 536 ((1 at 100 ∷ 2 at 100 ∷ 0 at 200 ∷ []) ∷ (2 at 100 ∷ 1 at 100 ∷ 0 at 200 ∷ []) ∷ [])
    × InEach wall 2 464 ((0 at 64 ∷ 1 at 100 ∷ 2 at 100 ∷ []) ∷ (0 at 64 ∷ 2 at 100 ∷ 1 at 100 ∷ []) ∷ [])
    × InEach wall 2 464 ((0 at 63 ∷ 1 at 100 ∷ 2 at 100 ∷ []) ∷ (0 at 63 ∷ 2 at 100 ∷ 1 at 100 ∷ []) ∷ [])
    × InEach wall 2 608 ((1 at 100 ∷ 0 at 220 ∷ 2 at 300 ∷ []) ∷ (2 at 100 ∷ 0 at 220 ∷ 1 at 300 ∷ []) ∷ [])
    × InEach wall 2 486 ((1 at 0 ∷ 2 at 100 ∷ 0 at 110 ∷ []) ∷ (2 at 0 ∷ 1 at 100 ∷ 0 at 110 ∷ []) ∷ [])
    × InEach wall 2 566 ((1 at 100 ∷ 2 at 130 ∷ []) ∷ (2 at 100 ∷ 1 at 130 ∷ []) ∷ [])
    × InEach wall 2 490 ((0 at 90 ∷ 1 at 100 ∷ []) ∷ (0 at 90 ∷ 2 at 100 ∷ []) ∷ [])
    × InEach wall 2 464 ((0 at 50 ∷ 1 at 100 ∷ []) ∷ (0 at 50 ∷ 2 at 100 ∷ []) ∷ [])
    × InEach drifting 2 304 ((1 at 100 ∷ 2 at 100 ∷ 0 at 137 ∷ []) ∷ (2 at 100 ∷ 1 at 100 ∷ 0 at 137 ∷ []) ∷ [])

-- §E5.3 with three neighbours: one silent, and own silent; one of them silent keeps two from counting as silent
unfoldable pub ThreeCases : Type 0
ThreeCases =
    InEach wall 3 464
    ((0 at 50 ∷ 1 at 100 ∷ 2 at 130 ∷ [])
    ∷ (0 at 50 ∷ 3 at 100 ∷ 1 at 130 ∷ [])
    ∷ (0 at 50 ∷ 2 at 100 ∷ 3 at 130 ∷ [])
    ∷ [])
    × InEach wall 3 566
    ((1 at 100 ∷ 2 at 120 ∷ 3 at 130 ∷ [])
    ∷ (3 at 100 ∷ 1 at 120 ∷ 2 at 130 ∷ [])
    ∷ (2 at 100 ∷ 3 at 120 ∷ 1 at 130 ∷ [])
    ∷ [])

-- §E5.1 a start as late as can be: all at once, and the tile pulses a hold later
unfoldable pub LateStartCase : Type 0
LateStartCase =
    let v = 2 ^ 41 - 1 in
    (shut_many 401 (arrive (started wall 2 v).board (2 at v ∷ 1 at v ∷ 0 at v ∷ []))).stand ≡ stand (v + 400) stage.Pulsed

-- §E5.3 while two or more are unheard it waits, however long; where P + A is past once there is a P, it pulses at that close
unfoldable pub UnheardCases : Type 0
UnheardCases =
    let b = arrive (started wall 2 0).board (1 at 100 ∷ []) in
    ((shut_many 1000000 b).stand ≡ stand 1000100 stage.Running)
    × ((shut_many 401 (arrive b (0 at 1000100 ∷ []))).stand ≡ stand 1000500 stage.Pulsed)
    × ((shut_many 1 (arrive (started wall 3 0).board (0 at 0 ∷ 1 at 0 ∷ 2 at 1000 ∷ []))).stand ≡ stand 1000 stage.Pulsed)

-- §E5.2 a pulse and a repeat in one reading, and a repeat later: the first is the stamp
unfoldable pub RepeatCases : Type 0
RepeatCases =
    (arrive (started wall 2 0).board (1 at 5 ∷ 1 at 5 ∷ []) ≡ state 2 (silence ∷ 5 ∷ silence ∷ silence ∷ []) 5 stage.Running)
    × (arrive (started wall 2 0).board (1 at 5 ∷ 0 at 6 ∷ 1 at 9 ∷ 0 at 9 ∷ []) ≡ state 2 (6 ∷ 5 ∷ silence ∷ silence ∷ []) 9 stage.Running)

-- §E5.2 which pulses are repeats: those of senders that are heard
unfoldable pub ToldCases : Type 0
ToldCases =
    let b = state 3 (6 ∷ silence ∷ silence ∷ 5 ∷ []) 9 stage.Running in
    map (λ (k : ℕ). (pulsed b k).repeat) (0 ∷ 1 ∷ 2 ∷ 3 ∷ 4 ∷ []) ≡ true ∷ false ∷ false ∷ true ∷ false ∷ []

-- §E5.2 54 past the count, and no repeat; the last neighbour is none past it
unfoldable pub SenderCases : Type 0
SenderCases =
    let two = (started wall 2 0).board in
    ((pulsed two 2).refusal ≡ None)
    × (pulsed two 3 ≡ record { refusal = Some Sender; repeat = false; board = two })
    × ((pulsed (started wall 3 0).board 3).refusal ≡ None)
    × ((pulsed (started wall 3 0).board 4).refusal ≡ Some Sender)
    × ((pulsed two (2 ^ 64 - 1)).refusal ≡ Some Sender)

-- §E5.4 once it has pulsed: repeats, first pulses and wrong senders are ignored, and it pulses no more
unfoldable pub OverCases : Type 0
OverCases =
    let b = state 2 (100 ∷ 100 ∷ silence ∷ silence ∷ []) 500 stage.Running in
    let over = state 2 (100 ∷ 100 ∷ silence ∷ silence ∷ []) 500 stage.Pulsed in
    (closed b ≡ record { answer = answer.Pulsed; board = over })
    × (pulsed over 1 ≡ record { refusal = None; repeat = false; board = over })
    × (pulsed over 2 ≡ record { refusal = None; repeat = false; board = over })
    × (pulsed over 3 ≡ record { refusal = None; repeat = false; board = over })
    × (closed over ≡ record { answer = answer.Done; board = over })
    × (closed_many b 9 ≡ record { answer = answer.Pulsed; board = over })
    × (closed_many b 0 ≡ record { answer = answer.Waits; board = b })
    × (closed_many over 0 ≡ record { answer = answer.Done; board = over })

-- §E5.3 all senders are heard so many ticks before the last reading, and pulses are due 400 later
unfoldable pub late : (before reading : ℕ) → Stage → Board
late t v x = state 2 ((last - t) ∷ (last - t) ∷ (last - t) ∷ silence ∷ []) v x

-- §E5.3 the close of 2^42 - 1 may pulse; where it does not, the run ends. The one before opens it
unfoldable pub LastCases : Type 0
LastCases =
    (closed (late 400 (last - 1) stage.Running) ≡ record { answer = answer.Waits; board = late 400 last stage.Running })
    × (closed (late 400 last stage.Running) ≡ record { answer = answer.Pulsed; board = late 400 last stage.Pulsed })
    × (closed (late 399 last stage.Running) ≡ record { answer = answer.Done; board = late 399 last stage.Ended })
    × (closed_many (late 399 (last - 7) stage.Running) (2 ^ 64 - 1) ≡ record { answer = answer.Done; board = late 399 last stage.Ended })
    × (pulsed (late 399 last stage.Ended) 0 ≡ record { refusal = None; repeat = false; board = late 399 last stage.Ended })
    × ((pulsed (late 399 last stage.Ended) 9).refusal ≡ None)
    × (last ≡ 2 ^ 42 - 1)
