-- What is promised of the first wide seam. Each statement is proved in proofs/Promises.antt, under its name in small letters.
-- Assumes nothing.
use Rattle.std.specs.Prelude.{◌≡◌, true, false, List, ◌⊎◌, ℕ, suc, ◌+◌, ◌≤◌, ◌<◌, ltb, length, get_or}
use Rattle.std.proofs.Math.Option.{Option, none, some}
use Rattle.std.specs.Float.Ieee.Exact.{HasValue}
use Rattle.settings.specs.Refusal.{number_in}
use Rattle.settings.specs.Settings.{settings_refusal}
use Rattle.settings.specs.declared.Settings.{Settings}
use Rattle.columns.specs.Marks.{marked, mark_bytes}
use Rattle.seam.specs.Seam.{latest, halves}
use Rattle.places.specs.Seams.{seam_left, seam_right}
use Rattle.wide.specs.Wide.{half_ticks, SeamWide, first_wide, wide_of}

-- §E7.1 what is compared is the half gap that the seam's record holds, and its line prints: that many half ticks, without the sign
unfoldable pub HalfGapHeld : Type 0
HalfGapHeld = (left right : ℕ) → left ≤ latest → right ≤ latest → HasValue (halves left right).half_gap (ltb right left) (half_ticks left right) 2

module _ (w : ℕ) (ts ms : List ℕ) where
  -- §E7.2 the time of the left tile of seam i
  abbrev pub left_time : (i : ℕ) → ℕ
  left_time i = get_or ts (seam_left w i) 0

  -- §E7.2 the time of its right tile
  abbrev pub right_time : (i : ℕ) → ℕ
  right_time i = get_or ts (seam_right w i) 0

  -- §E7.2 both tiles of seam i are correct
  unfoldable pub ClosedAt : (i : ℕ) → Type 0
  ClosedAt i = (marked ms (seam_left w i) ≡ false) × (marked ms (seam_right w i) ≡ false)

  -- §8.4 no time of a correct tile of seam i is over the latest
  unfoldable pub InTime : (i : ℕ) → Type 0
  InTime i =
      (marked ms (seam_left w i) ≡ false → left_time i ≤ latest) × (marked ms (seam_right w i) ≡ false → right_time i ≤ latest)

  -- §E7.1 seam i is not wide: where it is closed, neither time is more than the limit after the other
  unfoldable pub Narrow : (limit i : ℕ) → Type 0
  Narrow n i = ClosedAt i → (right_time i ≤ left_time i + n) × (left_time i ≤ right_time i + n)

  -- §E7.2 the seams before seam i are neither wide nor turned away
  unfoldable pub Passed : (limit i : ℕ) → Type 0
  Passed n i = (j : ℕ) → j < i → InTime j × Narrow n j

  -- §E7.2 seam i is the first wide one, and this is what is told of it
  pub record FirstAt (limit : ℕ) (x : SeamWide) (i : ℕ) : Type 0 where
    pub place : i ≤ w
    pub left : x.left ≡ seam_left w i
    pub right : x.right ≡ seam_right w i
    pub closed : ClosedAt i
    pub in_time : InTime i
    pub half_gap : (x.half_gap + left_time i ≡ right_time i) ⊎ (x.half_gap + right_time i ≡ left_time i)
    pub over : limit < x.half_gap
    pub passed : Passed limit i

  -- §E7.2 there is such a seam
  pub record WideFound (limit : ℕ) (x : SeamWide) : Type 0 where
    pub seam : ℕ
    pub is : FirstAt limit x seam

  -- §8.4 seam i is turned away, and none before it is wide
  pub record LateAt (limit i : ℕ) : Type 0 where
    pub place : i ≤ w
    pub late : InTime i → ⊥
    pub passed : Passed limit i

  -- §E7.2 there is such a seam
  pub record LateFound (limit : ℕ) : Type 0 where
    pub seam : ℕ
    pub is : LateAt limit seam

-- §E7.2 what the answer says of a row that is lent as it should be: the first wide seam and no other, or that there is none, or 31
pub record Answered (s : Settings) (ts ms : List ℕ) (n : ℕ) : Type 0 where
  pub wide : (x : SeamWide) → wide_of (first_wide s ts ms n) ≡ some x → WideFound s.width ts ms n x
  pub none_wide : wide_of (first_wide s ts ms n) ≡ none → number_in (first_wide s ts ms n) ≡ 0 → Passed s.width ts ms n (suc s.width)
  pub late : (number_in (first_wide s ts ms n) ≡ 0 → ⊥) → (number_in (first_wide s ts ms n) ≡ 31) × LateFound s.width ts ms n

-- §E7.2 so it is of every row, and where settings or lengths are not right the answer is their number and no seam
unfoldable pub FirstAnswered : Type 0
FirstAnswered =
    (s : Settings) (ts ms : List ℕ) (n : ℕ) →
    ((settings_refusal s ≡ 0 → ⊥) → (number_in (first_wide s ts ms n) ≡ settings_refusal s) × (wide_of (first_wide s ts ms n) ≡ none))
    × (settings_refusal s ≡ 0 → ((length ts ≡ s.width) × (length ms ≡ mark_bytes s.width) → ⊥) →
    (number_in (first_wide s ts ms n) ≡ 21) × (wide_of (first_wide s ts ms n) ≡ none))
    × (settings_refusal s ≡ 0 → length ts ≡ s.width → length ms ≡ mark_bytes s.width → Answered s ts ms n)

-- §E7.2 from seam to seam neither the left column falls nor the right one: to order the seams by left and then right, or by right and
-- then left, is the same
unfoldable pub OrderBoth : Type 0
OrderBoth =
    (w i : ℕ) → 6 ≤ w → i < w → (seam_left w i ≤ seam_left w (suc i)) × (seam_right w i ≤ seam_right w (suc i))
