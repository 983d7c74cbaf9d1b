-- What is heard, at numbers, with unit 12 and hold 400. Each statement is proved in proofs/Cases.antt, under its name in small letters. Assumes
-- nothing.
use Rattle.std.specs.Prelude.{◌≡◌, true, false, List, [], ◌∷◌, map, ℕ, ◌-◌, ◌^◌, Some, None}
use Rattle.settings.specs.Settings.{settings}
use Rattle.settings.specs.declared.Settings.{Settings}
use Rattle.rule.specs.Stamp.{heard, silent, silence}
use Rattle.senders.specs.Senders.{last, stamp_at, neighbour_stamps, unheard, unheard_all, is_heard, heard_by, fit}
use Rattle.senders.specs.Due.{reaches, due_code}
use Rattle.senders.specs.declared.Senders.{Senders}

-- §E5.3 the settings of §14.1
unfoldable pub wall : Settings
wall = settings 6 1 100 10 400 0 12

-- §E5.9 so many neighbours, and the stamps' numbers
unfoldable pub senders : (count : ℕ) → (stamps : List ℕ) → Senders
senders n xs = record { count = n; stamps = xs }

-- §E5.1 nothing is heard at first: own and two neighbours, or three
unfoldable pub UnheardCases : Type 0
UnheardCases =
    (map (stamp_at (unheard_all 3)) (0 ∷ 1 ∷ 2 ∷ 3 ∷ []) ≡ silent ∷ silent ∷ silent ∷ silent ∷ [])
    × (unheard (unheard_all 2) ≡ 3)
    × (unheard (unheard_all 3) ≡ 4)
    × (neighbour_stamps (unheard_all 2) ≡ silent ∷ silent ∷ [])

-- §E5.2 the first pulse of a sender is its stamp, also at reading 0; a repeat leaves it
unfoldable pub HeardCases : Type 0
HeardCases =
    (heard_by (unheard_all 2) 2 0 ≡ senders 2 (silence ∷ silence ∷ 0 ∷ silence ∷ []))
    × (heard_by (senders 2 (silence ∷ silence ∷ 0 ∷ silence ∷ [])) 2 7 ≡ senders 2 (silence ∷ silence ∷ 0 ∷ silence ∷ []))
    × (heard_by (senders 3 (5 ∷ 6 ∷ 7 ∷ silence ∷ [])) 3 9 ≡ senders 3 (5 ∷ 6 ∷ 7 ∷ 9 ∷ []))
    × (heard_by (senders 3 (5 ∷ 6 ∷ 7 ∷ silence ∷ [])) 0 9 ≡ senders 3 (5 ∷ 6 ∷ 7 ∷ silence ∷ []))
    × (map (is_heard (senders 3 (0 ∷ silence ∷ last ∷ silence ∷ []))) (0 ∷ 1 ∷ 2 ∷ 3 ∷ []) ≡ true ∷ false ∷ true ∷ false ∷ [])

-- §E5.3 a reading reaches P + A at P + A, and stays there; so too where own or a neighbour is unheard. With two unheard none does
unfoldable pub ReachesCases : Type 0
ReachesCases =
    (map (reaches wall (heard 136) (heard 100 ∷ heard 100 ∷ [])) (511 ∷ 512 ∷ 513 ∷ []) ≡ false ∷ true ∷ true ∷ [])
    × (map (reaches wall silent (heard 100 ∷ heard 130 ∷ [])) (565 ∷ 566 ∷ []) ≡ false ∷ true ∷ [])
    × (map (reaches wall (heard 50) (silent ∷ heard 100 ∷ [])) (463 ∷ 464 ∷ []) ≡ false ∷ true ∷ [])
    × (map (reaches wall (heard 50) (heard 130 ∷ silent ∷ heard 100 ∷ [])) (463 ∷ 464 ∷ []) ≡ false ∷ true ∷ [])
    × (reaches wall silent (heard 100 ∷ silent ∷ []) last ≡ false)
    × (reaches wall (heard 100) (silent ∷ silent ∷ []) last ≡ false)

-- §E5.3 the same of what is heard: a place past the count is not looked at, and silence is no number
unfoldable pub DueCases : Type 0
DueCases =
    (due_code wall (senders 2 (136 ∷ 100 ∷ 100 ∷ silence ∷ [])) ≡ Some 512)
    × (due_code wall (senders 2 (136 ∷ 100 ∷ 100 ∷ 900 ∷ [])) ≡ Some 512)
    × (due_code wall (senders 3 (220 ∷ 100 ∷ 200 ∷ 300 ∷ [])) ≡ Some 608)
    × (due_code wall (senders 2 (silence ∷ 100 ∷ 130 ∷ silence ∷ [])) ≡ Some 566)
    × (due_code wall (senders 2 (90 ∷ silence ∷ 100 ∷ silence ∷ [])) ≡ Some 490)
    × (due_code wall (senders 2 (90 ∷ silence ∷ silence ∷ 100 ∷ [])) ≡ None)

-- §E5.9 two neighbours or three, and each stamp at most 2^42 - 1, or 2^64 - 1
unfoldable pub FitCases : Type 0
FitCases =
    (map (λ (n : ℕ). fit (senders n (0 ∷ last ∷ silence ∷ silence ∷ []))) (1 ∷ 2 ∷ 3 ∷ 4 ∷ []) ≡ false ∷ true ∷ true ∷ false ∷ [])
    × (map (λ (v : ℕ). fit (senders 2 (0 ∷ 0 ∷ v ∷ 0 ∷ []))) ((2 ^ 42 - 1) ∷ 2 ^ 42 ∷ (2 ^ 64 - 2) ∷ (2 ^ 64 - 1) ∷ []) ≡ true ∷ false ∷ false ∷ true ∷ [])
