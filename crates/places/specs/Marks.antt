-- The mark of a column. Bits past the last column are not read. Assumes nothing.
use Rattle.std.specs.Prelude.{Bool, cond, not, List, [], ◌∷◌, ℕ, eqb, ltb, length, Option, Some, None, Result}
use Rattle.settings.specs.Refusal.{◌when◌, first, or_else, answer}
use Rattle.settings.specs.Settings.{settings_cause}
use Rattle.settings.specs.declared.Settings.{Settings}
use Rattle.settings.specs.declared.refusal.Refusal.{Refusal}
use Rattle.settings.specs.declared.refusal.Refusal.TheVariants.{Lengths}
use Rattle.columns.specs.Marks.{marked, mark_bytes}

-- §17.4 whether a column is marked, 1 to 9, 21, or that there is no such column
unfoldable pub mark_of : Settings → (marks : List ℕ) → (column : ℕ) → Result (Option Bool) Refusal
mark_of s ms c =
    answer (or_else (settings_cause s) (first (Lengths when not (eqb (length ms) (mark_bytes s.width)) ∷ [])))
    (cond (ltb c s.width) (Some (marked ms c)) None)
