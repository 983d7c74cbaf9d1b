-- `reach_line` meets its contract. Assumes nothing.
use mathlib.Core.Path.{◌∙◌, ap}
use mathlib.Core.List.{[], ◌∷◌}
use Prim.Native.Nat.{ℕ}
use Rattle.columns.proofs.Laws.Wrote.{wrote_none, wrote_as}
use Rattle.lines.specs.Line.{line_text}
use Rattle.search_lines.specs.Text.{r_word, reach_text}
use Rattle.search_lines.proofs.reach_line.Goals as goal

pub returns-in-Ok-Some : goal.returns-in-Ok-Some
unfolding reach_text
returns-in-Ok-Some c = let a = c.args in
    wrote_as c.line.ensures.text
    (ap (λ (n : ℕ). line_text r_word (a.place.row ∷ a.later ∷ c.in-Ok-Some.range.ticks ∷ n ∷ [])) c.saturating_sub-hops.ensures
    ∙ ap (reach_text a.place.row a.later) (rw c.in-Ok-Some.field-0-is at c.in-Ok-Some.ensures))

pub returns-in-Ok-None : goal.returns-in-Ok-None
unfolding reach_text
returns-in-Ok-None c = let a = c.args in
    wrote_as (wrote_none a.out.now a.at) (ap (reach_text a.place.row a.later) (rw c.in-Ok-None.field-0-is at c.in-Ok-None.ensures))

pub returns-in-Err : goal.returns-in-Err
unfolding reach_text
returns-in-Err c = let a = c.args in
    wrote_as (wrote_none a.out.now a.at) (ap (reach_text a.place.row a.later) c.in-Err.ensures)
