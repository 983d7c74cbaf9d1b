-- The code's own: what it asks of a link before it reads it, and the stamp that it makes of it. Assumes nothing.
use Rattle.std.specs.Prelude.{◌≡◌, true, false, List, ℕ, ◌/◌, ◌≤◌, ◌<◌, length, get_or}
use Rattle.rule.specs.Clock.{Admitted}
use Rattle.rule.specs.Stamp.{silence, code_of}
use Rattle.rule.specs.declared.clock.Clock.{Clock}
use Rattle.links.specs.Links.{latest_time}
use Rattle.columns.specs.Marks.{marked}
use Rattle.pulse.specs.Pulse.{arrives, read_at}

-- §3.2 what the code asks of a link before it reads it: what an accepted row has
pub record Stampable (clock : Clock) (before marks links : List ℕ) (sender place : ℕ) : Type 0 where
  pub clock_ok : Admitted clock
  pub in_row : sender < length before
  pub in_marks : sender / 8 < length marks
  pub in_links : place < length links
  pub delay : marked marks sender ≡ false → (get_or before sender 0 ≤ latest_time) × (get_or links place 0 ≤ 1000000)
  pub faulty : marked marks sender ≡ true → (get_or links place 0 ≡ silence → ⊥) → get_or links place 0 ≤ latest_time

-- §3.3 its stamp, as a number
unfoldable pub stamped : Clock → (before marks links : List ℕ) → (sender place : ℕ) → ℕ
stamped q ts ms ls k i = code_of (read_at q.drift q.phase (arrives (marked ms k) (get_or ts k 0) (get_or ls i 0)))
