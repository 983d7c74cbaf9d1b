-- What a step of a wall file tells. Assumes nothing.
use Rattle.std.specs.Prelude.{◌≡◌, List, ℕ}
use Rattle.columns.specs.Wrote.{Wrote}
use Rattle.stages.specs.declared.Wall.{Wall}
use Rattle.told.specs.declared.Told.{Told}

-- §16.4 the wall as it then stands, what is kept for the next step, and what is printed
pub record Telling : Type 0 where
  pub wall : Wall
  pub kept : ℕ
  pub text : List ℕ

-- §16.4 the record of these
unfoldable pub says : Wall → (kept : ℕ) → (text : List ℕ) → Telling
says x m t = record { wall = x; kept = m; text = t }

-- §16.4 what was told is what the definition tells, and its text stands in the buffer
pub record Said (t : Telling) (r : Told) (before : List ℕ) (at : ℕ) (after : List ℕ) : Type 0 where
  pub wall : r.wall ≡ t.wall
  pub kept : r.kept ≡ t.kept
  pub text : Wrote before at t.text after r.end
