-- One tile: what its stamps are, the refusals 11 to 13, and its answer. Assumes nothing.
use Rattle.std.specs.Prelude.{Bool, true, false, cond, not, ◌&&◌, ◌||◌, List, [], ◌∷◌, map, ◌≡◌, ℕ, zero, suc, ◌+◌, ◌≤◌, ltb, ℤ, pos, get_or, take, Option, Some, None, Result, Ok, Err}
use Rattle.std.specs.Int.Signed.{lt_z}
use Rattle.settings.specs.Refusal.{Test, first, ◌when◌, or_else, refused, answer, outside, any_below}
use Rattle.settings.specs.Settings.{step_of, settings_cause}
use Rattle.rule.specs.Signed.{natural}
use Rattle.rule.specs.Stamp.{Stamp, heard, silent, earliest, latest, latest_stamp}
use Rattle.rule.specs.Forward.{P, correction}
use Rattle.rule.specs.Letter.{letter}
use Rattle.settings.specs.declared.Settings.{Settings}
use Rattle.settings.specs.declared.refusal.Refusal.{Refusal}
use Rattle.settings.specs.declared.refusal.Refusal.TheVariants as why
use Rattle.rule.specs.declared.letter.Letter.{Letter}
use Rattle.tile.specs.declared.Stamps.{Stamps}
use Rattle.tile.specs.declared.Forwarded.{Forwarded}

-- §6.1 whether a place is marked silent; place 0 is own's
unfoldable pub silent_at : Stamps → (place : ℕ) → Bool
silent_at x i = get_or x.silent i false

-- §6.1 the reading at a place
unfoldable pub reading_at : Stamps → (place : ℕ) → ℤ
reading_at x i = get_or x.at i (pos 0)

-- §6.1 the stamp that a silence mark and a reading make
unfoldable pub stamp_from : (silent : Bool) (reading : ℤ) → Stamp
stamp_from true z = silent
stamp_from false z = heard (natural z)

-- §6.1 the stamp at a place
unfoldable pub stamp_at : Stamps → (place : ℕ) → Stamp
stamp_at x i = stamp_from (silent_at x i) (reading_at x i)

-- §6.1 the neighbours' places that are in use
unfoldable pub neighbour_places : Stamps → List ℕ
neighbour_places x = take x.count (1 ∷ 2 ∷ 3 ∷ [])

-- §6.1 own's stamp
unfoldable pub own_stamp : Stamps → Stamp
own_stamp x = stamp_at x 0

-- §6.1 the neighbours' stamps
unfoldable pub neighbour_stamps : Stamps → List Stamp
neighbour_stamps x = map (stamp_at x) (neighbour_places x)

-- §6.2 12, of a mark and a reading: heard, and over 2^41 - 1; one below zero is no reading and counts with them
unfoldable pub late_from : (silent : Bool) (reading : ℤ) → Bool
late_from s z = not s && (lt_z z (pos 0) || lt_z (pos latest_stamp) z)

-- §6.2 12, of a place
unfoldable pub late_at : Stamps → (place : ℕ) → Bool
late_at x i = late_from (silent_at x i) (reading_at x i)

-- §6.2 1 for silence, or else 0
unfoldable pub count_silent : (silent : Bool) → ℕ
count_silent s = cond s 1 0

-- §6.2 how many of the first so many places are silent
unfoldable pub silences : Stamps → (places : ℕ) → ℕ
silences x zero = 0
silences x (suc n) = silences x n + count_silent (silent_at x n)

-- §6.2 12 and 13, of own's place and as many neighbours' as the count says
unfoldable pub stamp_tests : Stamps → List Test
stamp_tests x =
    why.Stamp when any_below (suc x.count) (late_at x)
    ∷ why.Silences when ltb 1 (silences x (suc x.count))
    ∷ []

-- §6.2 12 or 13, where one applies
unfoldable pub stamp_cause : Stamps → Option Refusal
stamp_cause x = first (stamp_tests x)

-- §6.2 11, then 12 and 13
unfoldable pub tile_tests : Stamps → List Test
tile_tests x = why.Neighbours when outside 2 3 x.count ∷ stamp_tests x

-- §6.2 why a tile is turned away, where it is: the settings' refusal comes first
unfoldable pub tile_cause : Settings → Stamps → Option Refusal
tile_cause s x = or_else (settings_cause s) (first (tile_tests x))

-- §6.2 the number under which a tile is turned away, 0 where it is accepted
unfoldable pub tile_refusal : Settings → Stamps → ℕ
tile_refusal s x = refused (tile_cause s x)

-- §6.2 what a tile's stamps keep once 11 and 12 are past
pub record Readable (x : Stamps) : Type 0 where
  pub count_least : 2 ≤ x.count
  pub count_most : x.count ≤ 3
  pub on_time : any_below (suc x.count) (late_at x) ≡ false

-- §6.3 P, the correction and, by §E3.3, the letter that the rule gives for own, min and max
unfoldable pub answered : Settings → (own least most : Stamp) → Forwarded
answered s own l m =
    let h = s.unit in
    let j = step_of s in
    record { p = P h j own l m; correction = correction h j own l m; letter = letter h j own l m }

-- §6.3 what the rule gives for a tile's stamps, or why it is turned away
unfoldable pub forwarded : Settings → Stamps → Result Forwarded Refusal
forwarded s x =
    let ns = neighbour_stamps x in
    answer (tile_cause s x) (answered s (own_stamp x) (earliest ns) (latest ns))

-- §13.3 P of an answer, where it has one
unfoldable pub P_of : Result Forwarded Refusal → Option ℤ
P_of (Ok f) = Some f.p
P_of (Err r) = None

-- §13.3 the correction of an answer, where it has one
unfoldable pub correction_of : Result Forwarded Refusal → Option ℤ
correction_of (Ok f) = f.correction
correction_of (Err r) = None

-- §E3.3 the letter of an answer, where it has P
unfoldable pub letter_of : Result Forwarded Refusal → Option Letter
letter_of (Ok f) = Some f.letter
letter_of (Err r) = None
