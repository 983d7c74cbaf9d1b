-- The place of a link among the link values of a row. Assumes nothing.
use Rattle.std.specs.Prelude.{Bool, cond, ℕ, eqb, ltb, Option, Some, None, Result}
use Rattle.settings.specs.Refusal.{answer}
use Rattle.settings.specs.Settings.{settings_cause}
use Rattle.settings.specs.declared.Settings.{Settings}
use Rattle.settings.specs.declared.refusal.Refusal.{Refusal}
use Rattle.columns.specs.Columns.{predecessors, link_place, any_of}

-- §1.3 the sender is among the tile's predecessors
unfoldable pub hears : (w tile sender : ℕ) → Bool
hears w c k = any_of (predecessors w c) (λ p. eqb k p)

-- §17.4 the place of a link of a tile of the row
unfoldable pub heard_at : (w tile sender : ℕ) → Option ℕ
heard_at w c k = cond (hears w c k) (Some (link_place w c k)) None

-- §17.4 the place of a link, 1 to 9, or that there is none
unfoldable pub link_of : Settings → (tile sender : ℕ) → Result (Option ℕ) Refusal
link_of s c k = answer (settings_cause s) (cond (ltb c s.width) (heard_at s.width c k) None)
