-- What the definitions give for stamps written out: the numbers 11 to 13 at and past each limit, and answers. Each statement is
-- proved in proofs/Cases.antt, under its name in small letters. Assumes nothing.
use Rattle.std.specs.Prelude.{◌≡◌, Bool, true, false, [], ◌∷◌, ℕ, ◌-◌, ◌^◌, ℤ, pos, negsuc, neg_ℤ, Some, None, Result, Ok, Err}
use Rattle.settings.specs.Settings.{settings}
use Rattle.tile.specs.Tile.{tile_refusal, forwarded}
use Rattle.settings.specs.declared.Settings.{Settings}
use Rattle.tile.specs.declared.Stamps.{Stamps}
use Rattle.rule.specs.declared.letter.Letter.TheVariants.{Kept, Early, Middle, Back, Late}
use Rattle.tile.specs.declared.Forwarded.{Forwarded}
use Rattle.settings.specs.declared.refusal.Refusal.{Refusal}
use Rattle.settings.specs.declared.refusal.Refusal.TheVariants as why
use Rattle.rule.specs.declared.letter.Letter.{Letter}

-- §6.1 what stands at a place: a reading, one below zero, or a mark of silence beside a reading
pub data Place : Type 0 where
  heard : (reading : ℕ) → Place
  minus : (below : ℕ) → Place
  silent : (beside : ℕ) → Place

-- §6.1 the reading there, whether it is marked or not
unfoldable pub reading_in : Place → ℤ
reading_in (heard n) = pos n
reading_in (minus n) = neg_ℤ (pos n)
reading_in (silent n) = pos n

-- §6.1 whether it is marked silent
unfoldable pub marked_in : Place → Bool
marked_in (heard n) = false
marked_in (minus n) = false
marked_in (silent n) = true

-- §6.1 the count of neighbours, own's place and three neighbours'
unfoldable pub stamps : (count : ℕ) → (own a b c : Place) → Stamps
stamps n own a b c =
    record {
      at = reading_in own ∷ reading_in a ∷ reading_in b ∷ reading_in c ∷ [];
      silent = marked_in own ∷ marked_in a ∷ marked_in b ∷ marked_in c ∷ [];
      count = n;
    }

-- §14.1 settings with h 12 and r 0
unfoldable pub wall : Settings
wall = settings 6 1 100 10 400 0 12

infix 50 ◌is◌
-- §6.2 there, these stamps are given this number, which is 0 where they pass
unfoldable pub ◌is◌ : Stamps → (number : ℕ) → Type 0
x is n = tile_refusal wall x ≡ n

-- §6.2 11: two neighbours or three
unfoldable pub CountLimits : Type 0
CountLimits =
    stamps 0 (heard 100) (heard 100) (heard 100) (heard 100) is 11
    × stamps 1 (heard 100) (heard 100) (heard 100) (heard 100) is 11
    × stamps 2 (heard 100) (heard 100) (heard 100) (heard 100) is 0
    × stamps 3 (heard 100) (heard 100) (heard 100) (heard 100) is 0
    × stamps 4 (heard 100) (heard 100) (heard 100) (heard 100) is 11

-- §6.2 12: at each place a stamp from 0 to 2^41 - 1; not read are what stands beside a mark of silence, and a place past the count
unfoldable pub LateLimits : Type 0
LateLimits =
    let late = 2 ^ 41 in
    let most = 2 ^ 41 - 1 in
    stamps 3 (heard most) (heard most) (heard most) (heard most) is 0
    × stamps 3 (heard late) (heard 100) (heard 100) (heard 100) is 12
    × stamps 3 (heard 100) (heard late) (heard 100) (heard 100) is 12
    × stamps 3 (heard 100) (heard 100) (heard late) (heard 100) is 12
    × stamps 3 (heard 100) (heard 100) (heard 100) (heard late) is 12
    × stamps 3 (heard 0) (heard 0) (heard 0) (heard 0) is 0
    × stamps 3 (minus 1) (heard 100) (heard 100) (heard 100) is 12
    × stamps 3 (heard 100) (minus 1) (heard 100) (heard 100) is 12
    × stamps 3 (heard 100) (heard 100) (minus 1) (heard 100) is 12
    × stamps 3 (heard 100) (heard 100) (heard 100) (minus 1) is 12
    × stamps 3 (silent late) (heard 100) (heard 100) (heard 100) is 0
    × stamps 3 (heard 100) (silent late) (heard 100) (heard 100) is 0
    × stamps 3 (heard 100) (heard 100) (silent late) (heard 100) is 0
    × stamps 3 (heard 100) (heard 100) (heard 100) (silent late) is 0
    × stamps 2 (heard 100) (heard 100) (heard late) (heard 100) is 12
    × stamps 2 (heard 100) (heard 100) (heard 100) (heard late) is 0
    × stamps 2 (heard 100) (heard 100) (heard 100) (minus 1) is 0

-- §6.2 13: one silent place passes and two are refused, own's counting as the others'; a place past the count does not count
unfoldable pub SilenceLimits : Type 0
SilenceLimits =
    stamps 3 (silent 0) (heard 100) (heard 100) (heard 100) is 0
    × stamps 3 (heard 100) (silent 0) (heard 100) (heard 100) is 0
    × stamps 3 (heard 100) (heard 100) (silent 0) (heard 100) is 0
    × stamps 3 (heard 100) (heard 100) (heard 100) (silent 0) is 0
    × stamps 3 (silent 0) (silent 0) (heard 100) (heard 100) is 13
    × stamps 3 (silent 0) (heard 100) (heard 100) (silent 0) is 13
    × stamps 3 (heard 100) (silent 0) (silent 0) (heard 100) is 13
    × stamps 3 (heard 100) (heard 100) (silent 0) (silent 0) is 13
    × stamps 3 (silent 0) (silent 0) (silent 0) (silent 0) is 13
    × stamps 2 (silent 0) (heard 100) (silent 0) (heard 100) is 13
    × stamps 2 (silent 0) (heard 100) (heard 100) (silent 0) is 0

-- §13.1 8, 11, 12 and 13 apply, and then one after the other is mended: each time the lowest that is left
unfoldable pub TileOrder : Type 0
TileOrder =
    (tile_refusal (settings 6 1 100 10 400 0 11) (stamps 4 (heard (2 ^ 41)) (silent 0) (silent 0) (heard 100)) ≡ 8)
    × stamps 4 (heard (2 ^ 41)) (silent 0) (silent 0) (heard 100) is 11
    × stamps 3 (heard (2 ^ 41)) (silent 0) (silent 0) (heard 100) is 12
    × stamps 3 (heard 100) (silent 0) (silent 0) (heard 100) is 13
    × stamps 3 (heard 100) (silent 0) (heard 100) (heard 100) is 0
    × stamps 1 (heard (2 ^ 41)) (heard 100) (heard 100) (heard 100) is 11
    × (tile_refusal (settings 6 1 100 10 191 0 12) (stamps 1 (heard 100) (heard 100) (heard 100) (heard 100)) ≡ 9)
    × (tile_refusal (settings 5 1 100 10 400 0 12) (stamps 3 (silent 0) (silent 0) (heard 100) (heard 100)) ≡ 1)

-- §6.3 an answer of P, a correction and a letter
unfoldable pub corrected : (p correction : ℤ) → Letter → Result Forwarded Refusal
corrected p c x = Ok (record { p = p; correction = Some c; letter = x })

-- §6.3 an answer of P and a letter, with no correction
unfoldable pub uncorrected : (p : ℤ) → Letter → Result Forwarded Refusal
uncorrected p x = Ok (record { p = p; correction = None; letter = x })

-- §14.1 P, the correction and the letter of some of the cases, by two neighbours and by three; no correction where own is silent, and none of
-- these where the tile is turned away
unfoldable pub AnswerCases : Type 0
AnswerCases =
    (forwarded wall (stamps 2 (heard 100) (heard 100) (heard 100) (heard 900)) ≡ corrected (pos 100) (pos 0) Kept)
    × (forwarded wall (stamps 2 (heard 200) (heard 100) (heard 100) (heard 900)) ≡ corrected (pos 136) (pos 64) Late)
    × (forwarded wall (stamps 2 (heard 63) (heard 100) (heard 100) (heard 0)) ≡ corrected (pos 64) (negsuc 0) Early)
    × (forwarded wall (stamps 2 (heard 220) (heard 300) (heard 100) (heard 0)) ≡ corrected (pos 208) (pos 12) Middle)
    × (forwarded wall (stamps 3 (heard 110) (heard 50) (heard 100) (heard 0)) ≡ corrected (pos 86) (pos 24) Back)
    × (forwarded wall (stamps 2 (silent 0) (heard 100) (heard 130) (heard 900)) ≡ uncorrected (pos 166) Late)
    × (forwarded wall (stamps 3 (silent 0) (heard 100) (heard 120) (heard 130)) ≡ uncorrected (pos 166) Late)
    × (forwarded wall (stamps 2 (heard 50) (silent 0) (heard 100) (heard 0)) ≡ corrected (pos 64) (negsuc 13) Early)
    × (forwarded wall (stamps 1 (heard 100) (heard 100) (heard 100) (heard 100)) ≡ Err why.Neighbours)
    × (forwarded wall (stamps 2 (heard (2 ^ 41)) (heard 100) (heard 100) (heard 100)) ≡ Err why.Stamp)
    × (forwarded wall (stamps 2 (silent 0) (silent 0) (heard 100) (heard 100)) ≡ Err why.Silences)

-- §6.3 P and the correction at the ends of their ranges, with 3h 36
unfoldable pub EndCases : Type 0
EndCases =
    let most = 2 ^ 41 - 1 in
    (forwarded wall (stamps 3 (heard most) (heard 0) (heard 0) (heard 0)) ≡ corrected (pos 36) (pos 2199023255515) Late)
    × (forwarded wall (stamps 3 (heard 0) (heard most) (heard most) (heard most)) ≡ corrected (pos 2199023255515) (negsuc 2199023255514) Early)
    × (forwarded wall (stamps 3 (silent 0) (heard most) (heard most) (heard most)) ≡ uncorrected (pos 2199023255587) Late)
    × (forwarded wall (stamps 3 (heard 0) (heard 0) (heard 0) (heard 0)) ≡ corrected (pos 0) (pos 0) Kept)
