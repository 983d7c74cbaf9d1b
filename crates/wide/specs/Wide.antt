-- The first wide seam of a row. Assumes nothing.
use Rattle.std.specs.Prelude.{Bool, cond, ◌&&◌, List, [], ◌∷◌, ℕ, zero, suc, ◌-◌, max, ltb, leb, ℤ, pos, negsuc, ◌-ℤ◌, length, get_or, Option, Some, None, Result, Ok, Err}
use Rattle.std.specs.Result.{result_and}
use Rattle.std.proofs.Math.Option.{none, some}
use Rattle.std.proofs.Math.Option as maybe
use Rattle.settings.specs.Refusal.{◌when◌, first, or_else, answer}
use Rattle.settings.specs.Settings.{settings_cause}
use Rattle.settings.specs.declared.Settings.{Settings}
use Rattle.settings.specs.declared.refusal.Refusal.{Refusal}
use Rattle.settings.specs.declared.refusal.Refusal.TheVariants.{Lengths}
use Rattle.columns.specs.Marks.{marked}
use Rattle.seam.specs.Seam.{latest, seam_of}
use Rattle.seam.specs.declared.Seam.{Seam}
use Rattle.seam.specs.declared.Seam.TheVariants.{Closed, Open}
use Rattle.places.specs.Seams.{seam_left, seam_right, other_lengths}
use Rattle.wide.specs.declared.Wide.{Wide}

-- §E7.1 a whole number without its sign
unfoldable pub unsigned : ℤ → ℕ
unsigned (pos n) = n
unsigned (negsuc n) = suc n

-- §E7.1 the half gap of two times in half ticks, its sign dropped: as many as their gap, right less left, has ticks (§E1.4)
unfoldable pub half_ticks : (left right : ℕ) → ℕ
half_ticks l r = unsigned (pos r -ℤ pos l)

-- §E7.1 the record of a seam's columns and its half gap
unfoldable pub wide_at : (left right half_gap : ℕ) → Wide
wide_at a b g = record { left = a; right = b; half_ticks = g }

-- §E7.1 a closed seam, by its columns and its half gap, is wide where that is over the limit
unfoldable pub if_over : (limit left right half_gap : ℕ) → Option Wide
if_over n a b g = cond (ltb n g) (Some (wide_at a b g)) None

-- §E7.1 an open seam never is; one that is turned away has its refusal
unfoldable pub if_wide : (limit left right half_gap : ℕ) → Result Seam Refusal → Result (Option Wide) Refusal
if_wide n a b g (Ok (Closed h)) = Ok (if_over n a b g)
if_wide n a b g (Ok (Open s)) = Ok None
if_wide n a b g (Err k) = Err k

-- §E7.1 two times that are in time and no more than the limit apart: whether or not their tiles are faulty, their seam is neither wide nor
-- turned away
unfoldable pub are_narrow : (limit left right : ℕ) → Bool
are_narrow n l r = leb (max l r) latest && leb (half_ticks l r) n

-- §E7.2 the seam of two columns of a row
unfoldable pub seam_first : (limit : ℕ) → (times marks : List ℕ) → (left right : ℕ) → Result (Option Wide) Refusal
seam_first n ts ms a b =
    let l = get_or ts a 0 in
    let r = get_or ts b 0 in
    if_wide n a b (half_ticks l r) (seam_of l (marked ms a) r (marked ms b))

-- §E7.2 what comes first, and what else there is
unfoldable pub or_then : (here there : Result (Option Wide) Refusal) → Result (Option Wide) Refusal
or_then (Ok None) y = y
or_then (Ok (Some x)) y = Ok (Some x)
or_then (Err k) y = Err k

-- §E7.2 the first of m seams from place i on, in the order of the printed lines
unfoldable pub first_from : (limit w : ℕ) → (times marks : List ℕ) → (m i : ℕ) → Result (Option Wide) Refusal
first_from n w ts ms zero i = Ok None
first_from n w ts ms (suc m) i = or_then (seam_first n ts ms (seam_left w i) (seam_right w i)) (first_from n w ts ms m (suc i))

-- §E7.2 the first of the seams from place i to the last
unfoldable pub rest_first : (limit w : ℕ) → (times marks : List ℕ) → (i : ℕ) → Result (Option Wide) Refusal
rest_first n w ts ms i = first_from n w ts ms (suc w - i) i

-- §E7.2 the first of all W + 1 seams of a row
unfoldable pub row_first : (limit w : ℕ) → (times marks : List ℕ) → Result (Option Wide) Refusal
row_first n w ts ms = first_from n w ts ms (suc w) 0

-- §E7.2 the same where settings and lengths are right, otherwise 1 to 9, or 21
unfoldable pub first_wide : Settings → (times marks : List ℕ) → (limit : ℕ) → Result (Option Wide) Refusal
first_wide s ts ms n =
    result_and (answer {A = Unit {0}} (or_else (settings_cause s) (first (Lengths when other_lengths s.width (length ts) (length ms) ∷ []))) tt)
    (row_first n s.width ts ms)

-- §E7.2 a wide seam: its columns, and its half gap in half ticks
pub record SeamWide : Type 0 where
  pub left : ℕ
  pub right : ℕ
  pub half_gap : ℕ

-- §13.3 the wide seam that an answer has
unfoldable pub wide_of : Result (Option Wide) Refusal → maybe.Option SeamWide
wide_of (Ok (Some x)) = some (record { left = x.left; right = x.right; half_gap = x.half_ticks })
wide_of (Ok None) = none
wide_of (Err k) = none
