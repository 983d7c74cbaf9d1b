-- What the functions answer and leave at numbers, by the words of bindings/c/polzaintu.h: gaps[64], n, next. Each statement is proved in
-- proofs/Cases.antt, under its name in small letters. Assumes nothing.
use Rattle.std.specs.Prelude.{◌≡◌, true, false, List, [], ◌∷◌, ◌++◌, map, ℕ, ℤ, pos, negsuc, Float, replicate}
use Rattle.std.specs.Float.{fin, binary64}
use Rattle.std.specs.Float.Ieee.{to_bits}
use Rattle.waves.specs.Wave.{Wave, wave}
use Rattle.wave_calls.specs.Answers.{start_number, start_left, wave_number, wave_left, wave_side, wave_halves, ask_number, half_ticks_left, ticks_left}

-- §E1.7 the words of a state: those of the first places, n, and the next place
unfoldable pub words : (gaps : List ℕ) (rest : ℕ) (n next : ℕ) → List ℕ
words gs k n i = gs ++ replicate k 0 ++ (n ∷ i ∷ [])

-- §E1.7 polzaintu_waves_start: 3 waves at most; 51 leaves what was there
unfoldable pub StartCases : Type 0
StartCases =
    (start_number 3 ≡ 0)
    × (start_left 3 (replicate 66 7) ≡ words [] 64 3 0)
    × (start_number 65 ≡ 51)
    × (start_left 65 (replicate 66 7) ≡ replicate 66 7)

-- §E1.7 polzaintu_waves_hand_in: the number, the state after it, and the side, which held 9
unfoldable pub Handed : (before : List ℕ) → Wave → (number : ℕ) → (after : List ℕ) → (side : ℕ) → Type 0
Handed ws w n after side = (wave_number ws w ≡ n) × (wave_left ws w ≡ after) × (wave_side ws w 9 ≡ side)

-- §E1.7 a gap of -36, an open wave in the last place, 31, and a state that does not fit, of which 31 is not told
unfoldable pub HandInCases : Type 0
HandInCases =
    Handed (words [] 64 2 0) (wave 1536 false 1500 false) 0 (words (2199023255516 ∷ []) 63 2 1) 0
    × Handed (words (5 ∷ 6 ∷ []) 62 2 1) (wave 0 true 0 false) 0 (words (5 ∷ 0 ∷ []) 62 2 0) 1
    × Handed (words (5 ∷ []) 63 2 1) (wave 2199023255552 false 0 true) 31 (words (5 ∷ []) 63 2 1) 9
    × Handed (words (5 ∷ []) 63 2 2) (wave 2199023255552 false 0 true) 4294967295 (words (5 ∷ []) 63 2 2) 9

-- §E1.7 what the halves hold before a call
unfoldable pub held : List Float
held = fin false 1 (pos 0) ∷ fin true 1 (pos 0) ∷ []

-- §E1.7 the halves of a closed wave, which an open one leaves, and so does a state that does not fit
unfoldable pub HalvesCases : Type 0
HalvesCases =
    (map (to_bits binary64) (wave_halves (words [] 64 2 0) (wave 1536 false 1500 false) held) ≡ 0x4097_b800_0000_0000 ∷ 0xc032_0000_0000_0000 ∷ [])
    × (wave_halves (words [] 64 2 0) (wave 1536 true 1500 false) held ≡ held)
    × (wave_halves (words [] 64 0 0) (wave 1536 false 1500 false) held ≡ held)

-- §E1.7 polzaintu_waves_ask: the number, and the largest and the smallest in half ticks, which held 7 and 8
unfoldable pub Asked : (words : List ℕ) → (number : ℕ) → (half_ticks : List ℤ) → Type 0
Asked ws n zs = (ask_number ws ≡ n) × (half_ticks_left ws (pos 7 ∷ pos 8 ∷ []) ≡ zs)

-- §E1.7 a gap of 1 beside one of -2, 52, and a state that does not fit
unfoldable pub AskCases : Type 0
AskCases =
    Asked (words (2199023255550 ∷ 2199023255553 ∷ []) 62 2 0) 0 (pos 1 ∷ negsuc 1 ∷ [])
    × Asked (words [] 64 2 0) 52 (pos 7 ∷ pos 8 ∷ [])
    × Asked (words (2199023255550 ∷ []) 63 65 0) 4294967295 (pos 7 ∷ pos 8 ∷ [])

-- §E1.7 and in ticks: one half and -1; what was held where there is none
unfoldable pub TicksCases : Type 0
TicksCases =
    (map (to_bits binary64) (ticks_left (words (2199023255550 ∷ 2199023255553 ∷ []) 62 2 0) held) ≡ 0x3fe0_0000_0000_0000 ∷ 0xbff0_0000_0000_0000 ∷ [])
    × (ticks_left (words [] 64 2 0) held ≡ held)
