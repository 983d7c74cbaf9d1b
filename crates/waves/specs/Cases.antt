-- Waves at numbers. Each statement is proved in proofs/Cases.antt, under its name in small letters. Assumes nothing.
use Rattle.std.specs.Prelude.{◌≡◌, true, false, List, [], ◌∷◌, ◌++◌, map, ℕ, ℤ, pos, negsuc, replicate, set, take, Ok, Err, Some, None}
use Rattle.std.specs.Float.{binary64}
use Rattle.std.specs.Float.Ieee.{to_bits}
use Rattle.settings.specs.declared.refusal.Refusal.TheVariants as refusal
use Rattle.settings.specs.declared.refusal.Refusal.TheVariants.{NoGap}
use Rattle.waves.specs.Wave.{Wave, wave, answer}
use Rattle.waves.specs.Reading.{half_gap, between, reading}
use Rattle.waves.specs.State.{fits, started, asked}
use Rattle.waves.specs.Program.{Call, hands_in, asks, Calls}
use Rattle.waves.specs.declared.Waves.{Waves}

-- §E1.2 a wave of two correct tiles
unfoldable pub closed : (left right : ℕ) → Wave
closed l r = wave l false r false

-- §E1.3 the reading has these half gaps, in half ticks
unfoldable pub Reads : (n : ℕ) → List Wave → (largest smallest : ℤ) → Type 0
Reads n ws a b = reading n ws ≡ Ok (between (half_gap a) (half_gap b))

-- §E1.1 51 below 1 and above 64
unfoldable pub StartCases : Type 0
StartCases = map (λ n. (started n).refusal) (0 ∷ 1 ∷ 64 ∷ 65 ∷ []) ≡ Some refusal.Waves ∷ None ∷ None ∷ Some refusal.Waves ∷ []

-- §E1.2 with n 1, 2 and 64: exactly n waves, and one more, after which the first no longer counts
unfoldable pub WindowCases : Type 0
WindowCases =
    Reads 1 (closed 0 5 ∷ []) (pos 5) (pos 5)
    × Reads 1 (closed 0 5 ∷ closed 9 0 ∷ []) (negsuc 8) (negsuc 8)
    × Reads 2 (closed 0 9 ∷ closed 0 1 ∷ []) (pos 9) (pos 1)
    × Reads 2 (closed 0 9 ∷ closed 0 1 ∷ closed 0 2 ∷ []) (pos 2) (pos 1)
    × Reads 2 (closed 9 0 ∷ closed 0 1 ∷ closed 0 2 ∷ []) (pos 2) (pos 1)
    × Reads 64 (closed 0 100 ∷ replicate 63 (closed 7 8)) (pos 100) (pos 1)
    × Reads 64 (closed 0 100 ∷ replicate 64 (closed 7 8)) (pos 1) (pos 1)

-- §E1.3 an open wave has no number but a place: beside a closed one; in the place of the largest; all open; none at all
unfoldable pub OpenCases : Type 0
OpenCases =
    Reads 2 (closed 0 9 ∷ wave 3 true 4 false ∷ []) (pos 9) (pos 9)
    × Reads 2 (wave 3 false 4 true ∷ closed 0 9 ∷ []) (pos 9) (pos 9)
    × Reads 2 (closed 0 9 ∷ closed 0 1 ∷ wave 3 false 4 true ∷ []) (pos 1) (pos 1)
    × (reading 1 (closed 0 9 ∷ wave 18446744073709551615 true 4 false ∷ []) ≡ Err NoGap)
    × (reading 3 (wave 3 true 4 false ∷ wave 3 false 18446744073709551615 true ∷ wave 3 true 4 true ∷ []) ≡ Err NoGap)
    × (reading 64 [] ≡ Err NoGap)

-- §E1.2 31 between closed ones, which stay: the left late, the right late, either beside a faulty tile
unfoldable pub RefusedCases : Type 0
RefusedCases =
    Reads 2 (closed 0 9 ∷ closed 2199023255552 7 ∷ closed 0 1 ∷ []) (pos 9) (pos 1)
    × Reads 2 (closed 0 9 ∷ closed 7 2199023255552 ∷ closed 0 1 ∷ []) (pos 9) (pos 1)
    × Reads 2 (closed 0 9 ∷ wave 2199023255552 false 7 true ∷ closed 0 1 ∷ []) (pos 9) (pos 1)
    × Reads 2 (closed 0 9 ∷ wave 7 true 2199023255552 false ∷ closed 0 1 ∷ []) (pos 9) (pos 1)

-- §E1.4 with their sign: -1, 0 and 1, and both ends of the range
unfoldable pub SignCases : Type 0
SignCases =
    Reads 3 (closed 1 0 ∷ closed 5 5 ∷ closed 0 1 ∷ []) (pos 1) (negsuc 0)
    × Reads 2 (closed 1 0 ∷ closed 5 5 ∷ []) (pos 0) (negsuc 0)
    × Reads 2 (closed 0 2199023255551 ∷ closed 2199023255551 0 ∷ []) (pos 2199023255551) (negsuc 2199023255550)

-- §E1.4 the bits of half gaps of -1, 0 and 1 half ticks and of both ends; that of 0 is plus
unfoldable pub BitsCases : Type 0
BitsCases =
    map (λ z. to_bits binary64 (half_gap z).ticks) (negsuc 0 ∷ pos 0 ∷ pos 1 ∷ negsuc 2199023255550 ∷ pos 2199023255551 ∷ [])
    ≡ 0xbfe0_0000_0000_0000 ∷ 0 ∷ 0x3fe0_0000_0000_0000 ∷ 0xc26f_ffff_ffff_f000 ∷ 0x426f_ffff_ffff_f000 ∷ []

-- §E1.6 n places with the next one among them, and these words in front
unfoldable pub state : (n next : ℕ) → (words : List ℕ) → Waves
state n i ws = record { words = set (set (take 66 (ws ++ replicate 66 0)) 64 n) 65 i }

-- §E1.6 what fits: 1 to 64 places, and the next one below that
unfoldable pub FitCases : Type 0
FitCases =
    (fits (state 1 0 []) ≡ true)
    × (fits (state 64 63 []) ≡ true)
    × (fits (state 0 0 []) ≡ false)
    × (fits (state 65 0 []) ≡ false)
    × (fits (state 64 64 []) ≡ false)
    × (fits (state 3 18446744073709551615 []) ≡ false)

-- §E1.6 words of gaps are 1 to 2^42 - 1, and 2^41 is a gap of 0; every other gives no number, and so does a place past n
unfoldable pub WordCases : Type 0
WordCases =
    (asked (state 3 0 (1 ∷ 2199023255552 ∷ 4398046511103 ∷ [])) ≡ Ok (between (half_gap (pos 2199023255551)) (half_gap (negsuc 2199023255550))))
    × (asked (state 3 0 (0 ∷ 2199023255552 ∷ 4398046511104 ∷ [])) ≡ Ok (between (half_gap (pos 0)) (half_gap (pos 0))))
    × (asked (state 2 1 (0 ∷ 18446744073709551615 ∷ 2199023255552 ∷ [])) ≡ Err NoGap)
    × (asked (state 65 0 (2199023255552 ∷ [])) ≡ Err NoGap)

-- §E1.5 calls after a start: a question before any wave, a closed wave, one turned away, an open one, and questions between them
unfoldable pub some_calls : List Call
some_calls =
    asks (Err NoGap)
    ∷ hands_in (closed 0 9) (answer (closed 0 9))
    ∷ hands_in (closed 2199023255552 7) (answer (closed 2199023255552 7))
    ∷ asks (Ok (between (half_gap (pos 9)) (half_gap (pos 9))))
    ∷ hands_in (wave 3 true 4 false) (answer (wave 3 true 4 false))
    ∷ asks (Ok (between (half_gap (pos 9)) (half_gap (pos 9))))
    ∷ hands_in (closed 3 1) (answer (closed 3 1))
    ∷ asks (Ok (between (half_gap (negsuc 1)) (half_gap (negsuc 1))))
    ∷ []

-- §E1.5 there are such calls, and this is the state after them
unfoldable pub CallsWitness : Type 0
CallsWitness = Calls (started 2).waves some_calls (state 2 1 (2199023255550 ∷ 0 ∷ []))
