-- What `Stamps::check`'s loop keeps: no place passed is late, and `silences` counts the silent among them. Assumes nothing.
use mathlib.Core.Path.{◌≡◌}
use mathlib.Core.Bool.{false}
use Rattle.settings.specs.Refusal.{any_below}
use Rattle.tile.specs.Tile.{late_at, silences as silences_to}
use Rattle.tile.proofs.Stamps.check.Given as goal

abbrev pub invariant-loop-place : goal.invariant-loop-place
invariant-loop-place l = (any_below l.place (late_at l.self) ≡ false) × (l.silences ≡ silences_to l.self l.place)
