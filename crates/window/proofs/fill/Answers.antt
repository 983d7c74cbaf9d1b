-- `fill` meets its contract. Assumes nothing.
use mathlib.Core.Path.{refl, sym, ◌∙◌}
use Rattle.window.proofs.Laws.Window.{never, filled_already, filled_moved}
use Rattle.window.proofs.fill.Goals as goal

pub returns-then-not-lacks : goal.returns-then-not-lacks
returns-then-not-lacks g c = let none = sym c.lacks.ensures ∙ c.if-not-lacks.true in
    record { idle = (λ _. (refl, refl)); filled = filled_already _ _ _ c.requires.0 none }

pub returns : goal.returns
returns g c = let some = sym c.lacks.ensures ∙ c.if-not-lacks.false in
    record { idle = (λ e. absurd (never (sym some ∙ e))); filled = filled_moved _ _ _ _ _ _ _ c.placed.ensures c.read_part.ensures }
