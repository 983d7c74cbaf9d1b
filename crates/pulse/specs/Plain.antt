-- The code's own: what it asks and works out for a tile away from the ends whose predecessors are correct. `plain_pulse` of
-- proofs/Laws/Plain.antt shows that to be the tile's pulse and letter. Assumes nothing.
use Rattle.std.specs.Prelude.{List, ℕ, ◌+◌, ◌-◌, ◌*◌, ◌≤◌, ◌<◌, min, max, length, get_or}
use Rattle.rule.specs.Clock.{Admitted, reads}
use Rattle.rule.specs.Closed.{Forwardable}
use Rattle.rule.specs.declared.clock.Clock.{Clock}
use Rattle.settings.specs.declared.Settings.{Settings}
use Rattle.links.specs.Links.{latest_time}
use Rattle.pulse.specs.Pulsed.{pulsed}
use Rattle.pulse.specs.declared.Pulsed.{Pulsed}

-- §3.2 what the code asks of a correct sender's link before it reads it
pub record Receivable (clock : Clock) (before links : List ℕ) (sender place : ℕ) : Type 0 where
  pub clock_ok : Admitted clock
  pub in_row : sender < length before
  pub in_links : place < length links
  pub time : get_or before sender 0 ≤ latest_time
  pub delay : get_or links place 0 ≤ 1000000

-- §3.3 the reading of the arrival that it brings
unfoldable pub received : Clock → (before links : List ℕ) → (sender place : ℕ) → ℕ
received q ts ls k i = reads q.drift q.phase (get_or ts k 0 + get_or ls i 0)

-- a tile away from the ends, by its own stamp and its neighbours'
module _ (s : Settings) (step : ℕ) (clock : Clock) (before links : List ℕ) (c : ℕ) where
  -- §3.3 the stamp from the column on the left
  abbrev pub from_left : ℕ
  from_left = received clock before links (c - 1) (3 * c + 1)

  -- §3.3 own's stamp
  abbrev pub from_own : ℕ
  from_own = received clock before links c (3 * c + 1 + 1)

  -- §3.3 the stamp from the column on the right
  abbrev pub from_right : ℕ
  from_right = received clock before links (c + 1) (3 * c + 1 + 2)

  -- §7.6 what the code asks of such a tile
  pub record Correct : Type 0 where
    pub later : 0 < c
    pub narrow : c < 256
    pub left : Receivable clock before links (c - 1) (3 * c + 1)
    pub own : Receivable clock before links c (3 * c + 1 + 1)
    pub right : Receivable clock before links (c + 1) (3 * c + 1 + 2)
    pub ready : Forwardable s.unit step from_own (min from_left from_right) (max from_left from_right)
    pub held : (0 < s.hold) × (s.hold ≤ 1000000)

  -- §3.4 its pulse, and its letter
  unfoldable pub correct_pulse : Pulsed
  correct_pulse = pulsed s step clock from_own (min from_left from_right) (max from_left from_right)
