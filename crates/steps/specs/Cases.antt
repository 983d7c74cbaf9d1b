-- Parts of a wall file that are turned away, each with its refusal and its offset, at literal bytes. The wall has six columns and one row, and the
-- settings of the wall that is printed whole. Assumes nothing.
use Rattle.std.specs.Prelude.{◌≡◌, List, [], ◌∷◌, ◌++◌, map, ℕ, ◌+◌, ◌*◌, replicate}
use Rattle.settings.specs.declared.refusal.Refusal.{Refusal}
use Rattle.settings.specs.declared.refusal.Refusal.TheVariants.{Width, StrayMark, Crowded, TileDrift, Tag, Size, Short, GoesOn, LateStart, Phase}
use Rattle.row.specs.Row.{pulses}
use Rattle.stages.specs.declared.Place.{Place}
use Rattle.stages.specs.declared.Wall.{Wall}
use Rattle.stages.specs.declared.Wall.TheVariants.{New, Start, Row, End}
use Rattle.steps.specs.Shown.{turned_away}
use Rattle.steps.specs.Step.{step_of}

-- §14.4 a place in the file of this wall
unfoldable pub placed : (row offset : ℕ) → Place
placed l at =
    record {
      settings = record { width = 6; rows = 1; delay = 100; uncertainty = 10; hold = 400; drift = 0; unit = 12 };
      row = l;
      offset = at;
    }

-- §9.7 what is due, the bytes of its part, and the refusal
pub record Case : Type 0 where
  pub due : Wall
  pub part : List ℕ
  pub why : Refusal
  pub offset : ℕ

-- §9.7 a case by these
unfoldable pub case : (why : Refusal) → (offset : ℕ) → (due : Wall) → (part : List ℕ) → Case
case why at x bs = record { due = x; part = bs; why = why; offset = at }

-- §9.7 a case of a row, whose two fields stand at 78 and 82
unfoldable pub row_case : (why : Refusal) → (offset : ℕ) → (part : List ℕ) → Case
row_case why at bs = case why at (Row (placed 0 78)) bs

-- §9.1 a field: its tag, its length and its body
unfoldable pub field : (tag size : ℕ) → (body : List ℕ) → List ℕ
field tag size body = tag ∷ 0 ∷ size ∷ body

-- §E4.4 a tile of tag 4's body: drift 0, its phase and link values as large as can be
unfoldable pub tile : (links : ℕ) → List ℕ
tile n = 0 ∷ 0 ∷ replicate (4 + 8 * n) 255

-- §9.7 and §9.8: the refusals of each part in their order, each with its offset
unfoldable pub step_cases : List Case
step_cases =
    -- the settings, at 0: the field's, then theirs
    case Short 0 New []
    ∷ case Tag 0 New (field 2 24 (replicate 24 0))
    ∷ case Size 0 New (field 1 25 (replicate 24 0))
    ∷ case Short 0 New (field 1 24 (replicate 23 0))
    ∷ case Width 0 New (field 1 24 (replicate 24 0))
    -- row 0, at 27: then its times
    ∷ case Short 27 (Start (placed 0 27)) []
    ∷ case Tag 27 (Start (placed 0 27)) (field 3 48 (replicate 48 255))
    ∷ case Size 27 (Start (placed 0 27)) (field 2 40 (replicate 48 255))
    ∷ case Short 27 (Start (placed 0 27)) (field 2 48 (replicate 47 255))
    ∷ case LateStart 27 (Start (placed 0 27)) (field 2 48 (replicate 48 255))
    -- a row: tag 3's field at its place
    ∷ row_case Short 78 []
    ∷ row_case Tag 78 (field 4 1 (64 ∷ []))
    ∷ row_case Size 78 (field 3 2 (64 ∷ []))
    ∷ row_case Short 78 (field 3 1 [])
    -- once it is there tag 4's at its own, before what tag 3 holds
    ∷ row_case Short 82 (field 3 1 (64 ∷ []))
    ∷ row_case Tag 82 (field 3 1 (64 ∷ []) ++ field 3 196 (replicate 196 0))
    ∷ row_case Size 82 (field 3 1 (64 ∷ []) ++ field 4 195 (replicate 196 0))
    ∷ row_case Short 82 (field 3 1 (64 ∷ []) ++ field 4 196 (replicate 195 0))
    -- then what both hold, at tag 4
    ∷ row_case StrayMark 82 (field 3 1 (64 ∷ []) ++ field 4 196 (replicate 196 0))
    ∷ row_case Crowded 82 (field 3 1 (3 ∷ []) ++ field 4 196 (replicate 196 0))
    ∷ row_case TileDrift 82 (field 3 1 (0 ∷ []) ++ field 4 196 (replicate 196 255))
    ∷ row_case Phase 82 (field 3 1 (0 ∷ []) ++ field 4 196 (tile 3 ++ tile 3 ++ tile 4 ++ tile 4 ++ tile 3 ++ tile 3))
    -- the end: the first extra byte
    ∷ case GoesOn 281 (End (placed 1 281)) (1 ∷ [])
    ∷ []

-- §9.8 each shows its refusal and nothing else; the row that is lent holds 1000 in each column
unfoldable pub StepCasesMet : Type 0
StepCasesMet =
    map (λ x. (step_of x.due (pulses (replicate 6 1000) (replicate 6 7)) x.part).shows) step_cases ≡ map (λ x. turned_away x.why x.offset ∷ []) step_cases
