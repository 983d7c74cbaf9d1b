-- Pulses at numbers, worked out by hand. The wall has W 6, d 100, u 10, A 400, r 0, h 12, all of the row before at 1000 and all
-- delays 100, where a case does not say otherwise. Assumes nothing.
use Rattle.std.specs.Prelude.{◌≡◌, List, [], ◌∷◌, ℕ, replicate, set}
use Rattle.settings.specs.Settings.{settings}
use Rattle.rule.specs.Letter.{byte_of}
use Rattle.settings.specs.declared.Settings.{Settings}
use Rattle.columns.specs.Columns.{table_from}
use Rattle.admission.specs.Call.{call}
use Rattle.admission.specs.Cases.{wall, times, time, drifts, drift, phases, phase, delays, marks}
use Rattle.pulse.specs.Pulse.{pulse, letter_at}

-- §7.6 the pulses of tiles 0 to 5
unfoldable pub pulses : Settings → (before marks drifts phases links : List ℕ) → List ℕ
pulses s ts ms ds qs ls = table_from 6 0 (pulse s ts (call ms ds qs ls 6 6))

-- §E3.4 their letters, as bytes
unfoldable pub letters : Settings → (before marks drifts phases links : List ℕ) → List ℕ
letters s ts ms ds qs ls = table_from 6 0 (λ c. byte_of (letter_at s ts (call ms ds qs ls 6 6) c))

-- §1.4 column 3 is broken: what it sends to tiles 2, 3, 4 and 5
unfoldable pub sent : (a b c d : ℕ) → List ℕ
sent a b c d = set (set (set (set delays 9 a) 11 b) 14 c) 17 d

-- §14.4 the pulses of the printed wall
unfoldable pub PrintedMet : Type 0
PrintedMet = pulses wall (time 3 1080) (marks 0) drifts phases delays ≡ 1500 ∷ 1500 ∷ 1500 ∷ 1536 ∷ 1500 ∷ 1500 ∷ []

-- §1.4 a broken tile whose arrivals are early, late or silent, where 1100 would be in time; and one whose links differ
unfoldable pub BrokenMet : Type 0
BrokenMet =
    let silent : ℕ = 18446744073709551615 in
    (pulses wall times (marks 8) drifts phases (sent 1000 1000 1000 1000) ≡ 1500 ∷ 1500 ∷ 1476 ∷ 1464 ∷ 1476 ∷ 1476 ∷ [])
    × (pulses wall times (marks 8) drifts phases (sent 1300 1300 1300 1300) ≡ 1500 ∷ 1500 ∷ 1500 ∷ 1536 ∷ 1500 ∷ 1500 ∷ [])
    × (pulses wall times (marks 8) drifts phases (sent silent silent silent silent) ≡ 1500 ∷ 1500 ∷ 1500 ∷ 1536 ∷ 1500 ∷ 1500 ∷ [])
    × (pulses wall times (marks 8) drifts phases (sent 1000 silent 1300 1100) ≡ 1500 ∷ 1500 ∷ 1476 ∷ 1536 ∷ 1500 ∷ 1500 ∷ [])

-- §E3.4 the letters of the printed wall, and of that broken tile: k, k, k, l, k, k; where it is early k, k, b, e, b, b; where its links differ
-- k, k, b, l, k, k
unfoldable pub LettersMet : Type 0
LettersMet =
    let silent : ℕ = 18446744073709551615 in
    (letters wall (time 3 1080) (marks 0) drifts phases delays ≡ 107 ∷ 107 ∷ 107 ∷ 108 ∷ 107 ∷ 107 ∷ [])
    × (letters wall times (marks 8) drifts phases (sent 1000 1000 1000 1000) ≡ 107 ∷ 107 ∷ 98 ∷ 101 ∷ 98 ∷ 98 ∷ [])
    × (letters wall times (marks 8) drifts phases (sent 1300 1300 1300 1300) ≡ 107 ∷ 107 ∷ 107 ∷ 108 ∷ 107 ∷ 107 ∷ [])
    × (letters wall times (marks 8) drifts phases (sent silent silent silent silent) ≡ 107 ∷ 107 ∷ 107 ∷ 108 ∷ 107 ∷ 107 ∷ [])
    × (letters wall times (marks 8) drifts phases (sent 1000 silent 1300 1100) ≡ 107 ∷ 107 ∷ 98 ∷ 108 ∷ 107 ∷ 107 ∷ [])

-- §3.2 its time is not read: its value is its arrival
unfoldable pub UnreadMet : Type 0
UnreadMet = pulses wall (time 3 9999) (marks 8) drifts phases (sent 1100 1100 1100 1100) ≡ replicate 6 1500

-- §3.3 a drift is that of the tile that hears: 1100 reads 1111, and 1511 is first met at 1497; and late enough for a sender's drift
-- to show, where column 0 alone drifts
unfoldable pub DriftMet : Type 0
DriftMet =
    let wall = settings 6 1 100 10 400 10000 16 in
    (pulses wall times (marks 0) (drift 0 10000) phases delays ≡ 1497 ∷ replicate 5 1500)
    × (pulses wall (replicate 6 1000000) (marks 0) (drift 0 10000) phases delays ≡ 1000497 ∷ replicate 5 1000500)

-- §E4.1 a phase is that of the tile that hears. Where 1100 reads 1111, 1511 is first met at 1497, and from phase 40,000 on at 1496: so of two tiles that are
-- alike but for 39,999 and 40,000 one pulses a tick before the other. At drift 0 the largest phase changes nothing. Where 1099 reads 1109, it reads 1110 from
-- phase 10,000 on: with it goes P, be it own or, where own is late, 3h after the neighbours
unfoldable pub PhaseMet : Type 0
PhaseMet =
    let wall = settings 6 1 100 10 400 10000 16 in
    let fast : List ℕ = replicate 6 10000 in
    let early : List ℕ = replicate 6 999 in
    (pulses wall times (marks 0) fast phases delays ≡ replicate 6 1497)
    × (pulses wall times (marks 0) fast (phase 0 39999) delays ≡ replicate 6 1497)
    × (pulses wall times (marks 0) fast (phase 0 40000) delays ≡ 1496 ∷ replicate 5 1497)
    × (pulses wall times (marks 0) fast (phase 5 999999) delays ≡ 1497 ∷ 1497 ∷ 1497 ∷ 1497 ∷ 1497 ∷ 1496 ∷ [])
    × (pulses wall times (marks 0) drifts (replicate 6 999999) delays ≡ replicate 6 1500)
    × (pulses wall early (marks 0) fast (phase 2 9999) delays ≡ replicate 6 1495)
    × (pulses wall early (marks 0) fast (phase 2 10000) delays ≡ 1495 ∷ 1495 ∷ 1496 ∷ 1495 ∷ 1495 ∷ 1495 ∷ [])
    × (pulses wall (set early 3 1199) (marks 0) fast phases delays ≡ 1495 ∷ 1495 ∷ 1495 ∷ 1542 ∷ 1495 ∷ 1495 ∷ [])
    × (pulses wall (set early 3 1199) (marks 0) fast (phase 3 10000) delays ≡ 1495 ∷ 1495 ∷ 1495 ∷ 1543 ∷ 1495 ∷ 1495 ∷ [])
