-- What the functions answer and leave at numbers, by the words of bindings/c/polzaintu.h: W, R, d, u, A, r, h, count, stamps[4], repeats[4],
-- reading, stage. Each statement is proved in proofs/Cases.antt, under its name in small letters. Assumes nothing.
use Rattle.std.specs.Prelude.{◌≡◌, List, [], ◌∷◌, ℕ, ◌-◌, ◌^◌, replicate}
use Rattle.settings.specs.Settings.{settings}
use Rattle.rule.specs.Stamp.{silence}
use Rattle.board_calls.specs.Answers.{start_number, start_left, pulse_number, pulse_left, close_number, close_left, close_answer, many_left, many_answer}

-- §E5.9 the words of the settings of §14.1, and the others
unfoldable pub words : (rest : List ℕ) → List ℕ
words xs = 6 ∷ 1 ∷ 100 ∷ 10 ∷ 400 ∷ 0 ∷ 12 ∷ xs

-- §E5.9 two neighbours at 1100 and own unheard, 2 and 3 repeats, at a reading, in a stage
unfoldable pub tile : (reading stage : ℕ) → List ℕ
tile v x = words (2 ∷ silence ∷ 1100 ∷ 1100 ∷ silence ∷ 0 ∷ 2 ∷ 3 ∷ 0 ∷ v ∷ x ∷ [])

-- §E5.9 polzaintu_board_start: nothing heard; 8 leaves what was there
unfoldable pub StartCases : Type 0
StartCases =
    (start_number (settings 6 1 100 10 400 0 12) 3 1000 ≡ 0)
    × (start_left (settings 6 1 100 10 400 0 12) 3 1000 (replicate 18 7) ≡ words (3 ∷ silence ∷ silence ∷ silence ∷ silence ∷ 0 ∷ 0 ∷ 0 ∷ 0 ∷ 1000 ∷ 0 ∷ []))
    × (start_number (settings 6 1 100 10 400 0 11) 3 1000 ≡ 8)
    × (start_left (settings 6 1 100 10 400 0 11) 3 1000 (replicate 18 7) ≡ replicate 18 7)

-- §E5.9 polzaintu_board_pulse: the number and the state after it
unfoldable pub Pulsed : (before : List ℕ) → (sender number : ℕ) → (after : List ℕ) → Type 0
Pulsed ws k n after = (pulse_number ws k ≡ n) × (pulse_left ws k ≡ after)

-- §E5.9 own's first pulse, a repeat of each sender, 54, one that comes too late to count, and a stage that is none
unfoldable pub PulseCases : Type 0
PulseCases =
    Pulsed (tile 1200 0) 0 0 (words (2 ∷ 1200 ∷ 1100 ∷ 1100 ∷ silence ∷ 0 ∷ 2 ∷ 3 ∷ 0 ∷ 1200 ∷ 0 ∷ []))
    × Pulsed (tile 1200 0) 1 0 (words (2 ∷ silence ∷ 1100 ∷ 1100 ∷ silence ∷ 0 ∷ 3 ∷ 3 ∷ 0 ∷ 1200 ∷ 0 ∷ []))
    × Pulsed (tile 1200 0) 2 0 (words (2 ∷ silence ∷ 1100 ∷ 1100 ∷ silence ∷ 0 ∷ 2 ∷ 4 ∷ 0 ∷ 1200 ∷ 0 ∷ []))
    × Pulsed (words (3 ∷ 5 ∷ 5 ∷ 5 ∷ 5 ∷ 1 ∷ 2 ∷ 3 ∷ 4 ∷ 5 ∷ 0 ∷ [])) 0 0 (words (3 ∷ 5 ∷ 5 ∷ 5 ∷ 5 ∷ 2 ∷ 2 ∷ 3 ∷ 4 ∷ 5 ∷ 0 ∷ []))
    × Pulsed (words (3 ∷ 5 ∷ 5 ∷ 5 ∷ 5 ∷ 1 ∷ 2 ∷ 3 ∷ 4 ∷ 5 ∷ 0 ∷ [])) 3 0 (words (3 ∷ 5 ∷ 5 ∷ 5 ∷ 5 ∷ 1 ∷ 2 ∷ 3 ∷ 5 ∷ 5 ∷ 0 ∷ []))
    × Pulsed (tile 1200 0) 3 54 (tile 1200 0)
    × Pulsed (tile 1200 1) 3 0 (tile 1200 1)
    × Pulsed (tile 1200 2) 0 0 (tile 1200 2)
    × Pulsed (tile 1200 3) 3 4294967295 (tile 1200 3)

-- §E5.9 polzaintu_board_close and polzaintu_board_close_many: the number, the state after, and the answer, which held 9
unfoldable pub Closed : (before : List ℕ) → (n number : ℕ) → (after : List ℕ) → (answer : ℕ) → Type 0
Closed ws k n after a = (close_number ws ≡ n) × (many_left ws k ≡ after) × (many_answer ws k 9 ≡ a)

-- §E5.9 P is 1136, so 1536 pulses: a close before it, its own, one after it, one of the last reading; a reading past that does not fit
unfoldable pub CloseCases : Type 0
CloseCases =
    Closed (tile 1535 0) 1 0 (tile 1536 0) 0
    × Closed (tile 1536 0) 1 0 (tile 1536 1) 1
    × Closed (tile 1535 0) 2 0 (tile 1536 1) 1
    × Closed (tile 1536 1) 1 0 (tile 1536 1) 2
    × Closed (tile 1536 0) 0 0 (tile 1536 0) 0
    × Closed (words (2 ∷ silence ∷ 1100 ∷ silence ∷ silence ∷ 0 ∷ 3 ∷ 0 ∷ 0 ∷ (2 ^ 42 - 1) ∷ 0 ∷ [])) 1 0
    (words (2 ∷ silence ∷ 1100 ∷ silence ∷ silence ∷ 0 ∷ 3 ∷ 0 ∷ 0 ∷ (2 ^ 42 - 1) ∷ 2 ∷ [])) 2
    × Closed (tile (2 ^ 42) 0) 1 4294967295 (tile (2 ^ 42) 0) 9
    × (close_left (tile 1536 0) ≡ tile 1536 1)
    × (close_answer (tile 1536 0) 9 ≡ 1)
    × (close_answer (tile (2 ^ 42) 0) 9 ≡ 9)
