-- What is promised of one tile. Each statement is proved in proofs/Promises.antt, under its name in small letters.
-- Assumes nothing.
use Rattle.std.specs.Prelude.{◌≡◌, false, ℕ, ◌+◌, ◌-◌, ◌*◌, ◌≤◌, ℤ, pos, neg_ℤ, ◌≤ℤ◌, Some}
use Rattle.std.specs.Int.{w64}
use Rattle.std.proofs.Common.{SFits}
use Rattle.settings.specs.Refusal.{number_in}
use Rattle.settings.specs.Settings.{step_of, settings_refusal}
use Rattle.rule.specs.Stamp.{earliest, latest, latest_stamp}
use Rattle.rule.specs.Forward.{correction}
use Rattle.tile.specs.Tile.{silent_at, reading_at, own_stamp, neighbour_stamps, tile_refusal, forwarded, P_of, correction_of, letter_of}
use Rattle.tile.specs.Cases.{heard, stamps}
use Rattle.rule.specs.Pulse.{tile_P, tile_letter}
use Rattle.settings.specs.declared.Settings.{Settings}
use Rattle.tile.specs.declared.Stamps.{Stamps}

-- §13.4 the answer has the tile's number; where that is 0 it has P, the correction and the letter (§E3.3) of the rule
unfoldable pub TileAnswered : Type 0
TileAnswered =
    (s : Settings) (x : Stamps) → (number_in (forwarded s x) ≡ tile_refusal s x)
    × (tile_refusal s x ≡ 0 →
    (P_of (forwarded s x) ≡ Some (pos (tile_P s (own_stamp x) (neighbour_stamps x))))
    × (correction_of (forwarded s x)
    ≡ correction s.unit (step_of s) (own_stamp x) (earliest (neighbour_stamps x)) (latest (neighbour_stamps x)))
    × (letter_of (forwarded s x) ≡ Some (tile_letter s (own_stamp x) (neighbour_stamps x))))

-- §6.1 places past the count, and stamps of silent places, don't matter
unfoldable pub PastCount : Type 0
PastCount =
    (s : Settings) (x y : Stamps) → x.count ≡ y.count → ((k : ℕ) → k ≤ x.count → silent_at x k ≡ silent_at y k) →
    ((k : ℕ) → k ≤ x.count → silent_at x k ≡ false → reading_at x k ≡ reading_at y k) → forwarded s x ≡ forwarded s y

-- §6.3 for accepted stamps P is from 0 to 2^41 - 1 + 3h
unfoldable pub PRange : Type 0
PRange =
    (s : Settings) (x : Stamps) → tile_refusal s x ≡ 0 → tile_P s (own_stamp x) (neighbour_stamps x) ≤ latest_stamp + 3 * s.unit

-- §6.3 the largest correction: 2^41 - 1 - 3h
unfoldable pub correction_most : Settings → ℕ
correction_most s = latest_stamp - 3 * s.unit

-- §6.3 the correction, where there is one, is an i64 from -(2^41 - 1 - 3h) to 2^41 - 1 - 3h
unfoldable pub CorrectionRange : Type 0
CorrectionRange =
    (s : Settings) (x : Stamps) (c : ℤ) → correction_of (forwarded s x) ≡ Some c →
    SFits w64 c × (neg_ℤ (pos (correction_most s)) ≤ℤ c) × (c ≤ℤ pos (correction_most s))

-- §6.3 .. and meets both ends under all settings that pass: where own is as late as can be and the neighbours at 0, and the other way
unfoldable pub CorrectionEnds : Type 0
CorrectionEnds =
    (s : Settings) → settings_refusal s ≡ 0 →
    (correction_of (forwarded s (stamps 2 (heard latest_stamp) (heard 0) (heard 0) (heard 0))) ≡ Some (pos (correction_most s)))
    × (correction_of (forwarded s (stamps 2 (heard 0) (heard latest_stamp) (heard latest_stamp) (heard 0))) ≡ Some (neg_ℤ (pos (correction_most s))))
