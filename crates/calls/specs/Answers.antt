-- What each function answers and leaves, by the operation's answer: the number, and what is lent to be written, which a refusal
-- leaves as it was. Assumes nothing.
use Rattle.std.specs.Prelude.{Bool, true, false, List, [], ◌∷◌, Option, None, Some, Result, Ok, Err, ℕ, ◌+◌, ℤ, pos, Float, get_or}
use Rattle.settings.specs.Refusal.{number, number_in}
use Rattle.settings.specs.declared.refusal.Refusal.{Refusal}
use Rattle.rule.specs.Letter.{byte_of}
use Rattle.tile.specs.declared.Forwarded.{Forwarded}
use Rattle.row.specs.declared.Ends.{Ends}
use Rattle.seam.specs.declared.Seam.{Seam}
use Rattle.seam.specs.declared.Seam.TheVariants as seam
use Rattle.reach.specs.declared.Range.{Range}
use Rattle.reach.specs.declared.survey.Surveyed.{Surveyed}
use Rattle.places.specs.declared.seams.Columns.{Columns}
use Rattle.places.specs.declared.seams.RowSeam.{RowSeam}
use Rattle.wide.specs.declared.Wide.{Wide}
use Rattle.layout.specs.Words.{unfit, side_word}

-- §17.1 what an operation's answer leaves: the words of what it gives; a refusal leaves what was held
unfoldable pub left : {A B : Type 0} → (words : A → B) → Result A Refusal → (held : B) → B
left ws (Ok a) held = ws a
left ws (Err r) held = held

-- §17.1 the same where what it gives may lie outside, which leaves what was held
unfoldable pub left_within : {A B : Type 0} → (words : A → B) → Result (Option A) Refusal → (held : B) → B
left_within ws (Ok (Some a)) held = ws a
left_within ws (Ok None) held = held
left_within ws (Err r) held = held

-- §17.1 the number of such an answer; what lies outside is unfit
unfoldable pub number_within : {A : Type 0} → Result (Option A) Refusal → ℕ
number_within (Ok (Some a)) = 0
number_within (Ok None) = unfit
number_within (Err r) = number r

-- §17.1 a tile's P, correction, whether it has one, and its letter (§E3.6)
abbrev pub tile_words : (p : ℤ) (correction : Option ℤ) (letter : ℕ) → List ℤ
tile_words p (Some c) x = p ∷ c ∷ pos 1 ∷ pos x ∷ []
tile_words p None x = p ∷ pos 0 ∷ pos 0 ∷ pos x ∷ []

-- §17.1 the same of what a tile forwards
abbrev pub forwarded_words : Forwarded → List ℤ
forwarded_words f = tile_words f.p f.correction (byte_of f.letter)

-- §17.1 and what is left of it
unfoldable pub forwarded_left : Result Forwarded Refusal → (held : List ℤ) → List ℤ
forwarded_left a held = left forwarded_words a held

-- §17.1 a row's earliest and latest time
abbrev pub ends_words : Ends → List ℕ
ends_words e = e.earliest ∷ e.latest ∷ []

-- §17.1 and what is left of them
unfoldable pub ends_left : Result Ends Refusal → (held : List ℕ) → List ℕ
ends_left a held = left ends_words a held

-- §17.1 a seam's side, 0 where it is closed
unfoldable pub side_left : Result Seam Refusal → (held : ℕ) → ℕ
side_left (Ok (seam.Closed h)) held = 0
side_left (Ok (seam.Open s)) held = side_word s
side_left (Err r) held = held

-- §17.1 a closed seam's midpoint and half gap
unfoldable pub halves_left : Result Seam Refusal → (held : List Float) → List Float
halves_left (Ok (seam.Closed h)) held = h.midpoint ∷ h.half_gap ∷ []
halves_left (Ok (seam.Open s)) held = held
halves_left (Err r) held = held

-- §17.1 B of a row
unfoldable pub gap_left : Result ℕ Refusal → (held : ℕ) → ℕ
gap_left a held = left (λ b. b) a held

-- §17.1 the number of a reach; what lies outside the wall is unfit
unfoldable pub reach_number : Result (Option Range) Refusal → ℕ
reach_number a = number_within a

-- §17.1 the ticks and columns that a broken tile reaches
abbrev pub range_words : Range → List ℕ
range_words r = r.ticks ∷ r.first ∷ r.last ∷ []

-- §17.1 and what is left of them
unfoldable pub reach_left : Result (Option Range) Refusal → (held : List ℕ) → List ℕ
reach_left a held = left_within range_words a held

-- §17.1 the number of a survey; a row past the last but one is unfit
unfoldable pub survey_number : Result (Option Surveyed) Refusal → ℕ
survey_number a = number_within a

-- §17.1 the row that is due next, B of the one surveyed, and the largest reach
unfoldable pub survey_left : Result (Option Surveyed) Refusal → (held : List ℕ) → List ℕ
survey_left a held = left_within (λ x. (get_or held 0 0 + 1) ∷ x.gap ∷ x.largest ∷ []) a held

-- §17.4 the number for a seam's columns; a place past the last is unfit
unfoldable pub columns_number : Result (Option Columns) Refusal → ℕ
columns_number a = number_within a

-- §17.4 the columns
abbrev pub columns_words : Columns → List ℕ
columns_words c = c.left ∷ c.right ∷ []

-- §17.4 and what is left of them
unfoldable pub columns_left : Result (Option Columns) Refusal → (held : List ℕ) → List ℕ
columns_left a held = left_within columns_words a held

-- §17.4 the number for a row's seam, 31 among them; a place past the last is unfit
unfoldable pub row_seam_number : Result (Option RowSeam) Refusal → ℕ
row_seam_number (Ok (Some x)) = number_in x.seam
row_seam_number (Ok None) = unfit
row_seam_number (Err r) = number r

-- §17.4 its columns, which 31 leaves too
unfoldable pub row_seam_columns : Result (Option RowSeam) Refusal → (held : List ℕ) → List ℕ
row_seam_columns (Ok (Some x)) held = left (λ s. x.left ∷ x.right ∷ []) x.seam held
row_seam_columns (Ok None) held = held
row_seam_columns (Err r) held = held

-- §17.4 its side
unfoldable pub row_seam_side : Result (Option RowSeam) Refusal → (held : ℕ) → ℕ
row_seam_side (Ok (Some x)) held = side_left x.seam held
row_seam_side (Ok None) held = held
row_seam_side (Err r) held = held

-- §17.4 its midpoint and half gap
unfoldable pub row_seam_halves : Result (Option RowSeam) Refusal → (held : List Float) → List Float
row_seam_halves (Ok (Some x)) held = halves_left x.seam held
row_seam_halves (Ok None) held = held
row_seam_halves (Err r) held = held

-- §17.4 the number for a column's mark; a column past the last is unfit
unfoldable pub mark_number : Result (Option Bool) Refusal → ℕ
mark_number a = number_within a

-- §17.4 the mark
unfoldable pub mark_left : Result (Option Bool) Refusal → (held : Bool) → Bool
mark_left a held = left_within (λ f. f) a held

-- §17.4 the number for a link; one that there is not is unfit
unfoldable pub link_number : Result (Option ℕ) Refusal → ℕ
link_number a = number_within a

-- §17.4 its place
unfoldable pub link_left : Result (Option ℕ) Refusal → (held : ℕ) → ℕ
link_left a held = left_within (λ n. n) a held

-- §E7.6 whether a row has a wide seam
unfoldable pub wide_found : Result (Option Wide) Refusal → (held : Bool) → Bool
wide_found (Ok (Some x)) held = true
wide_found (Ok None) held = false
wide_found (Err r) held = held

-- §E7.6 its columns and its half gap in half ticks, where it has one
unfoldable pub wide_left : Result (Option Wide) Refusal → (held : List ℕ) → List ℕ
wide_left a held = left_within (λ x. x.left ∷ x.right ∷ x.half_ticks ∷ []) a held
