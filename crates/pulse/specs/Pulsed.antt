-- The code's own: a pulse and its letter, from numbers that stand for stamps. Assumes nothing.
use Rattle.std.specs.Prelude.{ℕ, ◌+◌}
use Rattle.rule.specs.Clock.{first_tick}
use Rattle.rule.specs.Letter.{letter}
use Rattle.rule.specs.Stamp.{stamp_of}
use Rattle.rule.specs.Closed.{closed_P}
use Rattle.rule.specs.declared.clock.Clock.{Clock}
use Rattle.settings.specs.declared.Settings.{Settings}
use Rattle.pulse.specs.declared.Pulsed.{Pulsed}

-- §3.4 the first tick that reads P and the hold, P by its closed form; §E3.1 and the letter
abbrev pub pulsed : Settings → (step : ℕ) → Clock → (own least most : ℕ) → Pulsed
pulsed s j k own l m =
    record {
      time = first_tick k.drift k.phase (closed_P s.unit j (stamp_of own) (stamp_of l) (stamp_of m) + s.hold);
      letter = letter s.unit j (stamp_of own) (stamp_of l) (stamp_of m);
    }
