-- `pulse` meets its contract: the links that are read are those of the tile's senders, in their order, and the pulse follows
-- from their stamps and own's place among them. Assumes nothing.
use mathlib.Core.Path.{◌≡◌, sym, ◌∙◌}
use Prim.Native.Nat.{ℕ, ◌+◌, ◌≤◌, ◌<◌}
use native.Mathlib.Omega.{arith}
use Rattle.settings.proofs.Laws.Settings.{Limits, limits}
use Rattle.rule.specs.Clock.{Admitted}
use Rattle.rule.specs.declared.clock.Clock.{Clock}
use Rattle.columns.specs.Window.{first_sender}
use Rattle.columns.specs.Columns.{links_before}
use Rattle.admission.specs.Call.{Call, call}
use Rattle.admission.proofs.Laws.Accepted.{Accepted, accepted}
use Rattle.pulse.specs.Pulse.{clock_of}
use Rattle.pulse.specs.Stampable.{stamped}
use Rattle.pulse.proofs.Laws.Stamps.{admitted}
use Rattle.pulse.proofs.Laws.Stampable.{Pulsing, ready_at, pulses_at}
use Rattle.pulse.proofs.Laws.Window.{Found, own_after, readable, fourth_readable, Stamps, of_two, of_three}
use Rattle.pulse.proofs.pulse.Goals.{Start, After-max-most, After-max-else-four_senders}
use Rattle.pulse.proofs.pulse.Goals as goal

-- what was lent, and what an accepted row keeps
abbrev lent : Start → Call
lent s = call s.args.marks.now s.args.drifts.now s.args.phases.now s.args.links.now s.args.settings.width s.args.settings.width

ok : (s : Start) → Accepted s.args.settings s.args.before.now (lent s)
ok s = accepted s.args.settings s.args.before.now (lent s) s.requires.0

bounds : (s : Start) → Limits s.args.settings
bounds s = limits s.args.settings (ok s).settings

in_row : (s : Start) → let w = s.args.settings.width in (6 ≤ w) × (s.args.c < w) × (w ≤ 256)
in_row s = ((bounds s).width.0, s.requires.2, (bounds s).width.1)

clock_ok : (s : Start) → Admitted (clock_of s.args.drifts.now s.args.phases.now s.args.c) × (0 < s.args.settings.hold) × (s.args.settings.hold ≤ 1000000)
unfolding call
clock_ok s = (admitted (ok s) s.args.c s.requires.2, (bounds s).hold.0, (bounds s).hold.1)

-- the window, where its first column and first link are known
module _ (s : Start) {k p : ℕ} (from : k ≡ first_sender s.args.settings.width s.args.c) (at : p ≡ links_before s.args.settings.width s.args.c) where
  found : Found s.args.settings s.args.before.now (lent s) s.args.c k p
  found = record { row = ok s; here = s.requires.2; from = from; at = at }

  -- three stamps, with which the pulse is known where there is no fourth
  heard : {q : Clock} {u v z : ℕ} →
      q ≡ clock_of s.args.drifts.now s.args.phases.now s.args.c →
      u ≡ stamped q s.args.before.now s.args.marks.now s.args.links.now (k + 0) (p + 0) →
      v ≡ stamped q s.args.before.now s.args.marks.now s.args.links.now (k + 1) (p + 1) →
      z ≡ stamped q s.args.before.now s.args.marks.now s.args.links.now (k + 2) (p + 2) →
      Stamps found s.args.step u v z
  unfolding call
  heard e x y w = record { step = s.requires.1; first = rw e at x; second = rw e at y; third = rw e at w }

pub clock-clock-requires : goal.clock-clock-requires
unfolding call
clock-clock-requires c = let s = (goal.at.clock-clock-requires c).Start in
    (omega (arith, (ok s).lengths.drifts, s.requires.2), omega (arith, (ok s).lengths.phases, s.requires.2))

pub first_sender-first-requires : goal.first_sender-first-requires
first_sender-first-requires c = in_row (goal.at.first_sender-first-requires c).Start

pub first_link-at-requires : goal.first_link-at-requires
first_link-at-requires c = in_row (goal.at.first_link-at-requires c).Start

pub overflow_sub-c : goal.overflow_sub-c
overflow_sub-c c = own_after (found (goal.at.overflow_sub-c c).Start c.first_sender-first.ensures c.first_link-at.ensures)

pub stamp-x-requires : goal.stamp-x-requires
unfolding call
stamp-x-requires c = rw c.clock-clock.ensures
    (readable (found (goal.at.stamp-x-requires c).Start c.first_sender-first.ensures c.first_link-at.ensures) 0 (omega arith))

pub stamp-y-requires : goal.stamp-y-requires
unfolding call
stamp-y-requires c = rw c.clock-clock.ensures
    (readable (found (goal.at.stamp-y-requires c).Start c.first_sender-first.ensures c.first_link-at.ensures) 1 (omega arith))

pub stamp-z-requires : goal.stamp-z-requires
unfolding call
stamp-z-requires c = rw c.clock-clock.ensures
    (readable (found (goal.at.stamp-z-requires c).Start c.first_sender-first.ensures c.first_link-at.ensures) 2 (omega arith))

pub four_senders-requires : goal.four_senders-requires
four_senders-requires c = in_row (goal.at.four_senders-requires c).Start

pub stamp-d-requires : goal.stamp-d-requires
unfolding call
stamp-d-requires c = let s = (goal.at.stamp-d-requires c).Start in
    let f = found s c.first_sender-first.ensures c.first_link-at.ensures in
    let four = sym c.four_senders.ensures ∙ c.if-four_senders.true in
    rw c.clock-clock.ensures (fourth_readable f four)

-- what own and the ends of the neighbours give, with a fourth stamp and without
with_fourth : (c : After-max-most) → let a = c.args in
    Pulsing a.settings a.before.now (call a.marks.now a.drifts.now a.phases.now a.links.now a.settings.width a.settings.width) a.c c.own_first-own.result.0
    c.min-least.result c.max-most.result
unfolding call
with_fourth c = let s = (goal.at.by_ends-requires c).Start in
    rw (c.min-least.ensures, c.min.ensures, c.max-most.ensures, c.max.ensures)
    (of_three (found s c.first_sender-first.ensures c.first_link-at.ensures) c.own_first-own.result.1 c.own_first-own.result.2
    (heard s c.first_sender-first.ensures c.first_link-at.ensures c.clock-clock.ensures c.stamp-x.ensures c.stamp-y.ensures c.stamp-z.ensures)
    c.own_first-own.ensures (sym c.four_senders.ensures ∙ c.if-four_senders.true) (rw c.clock-clock.ensures at c.stamp-d.ensures))

with_three : (c : After-max-else-four_senders) → let a = c.args in
    Pulsing a.settings a.before.now (call a.marks.now a.drifts.now a.phases.now a.links.now a.settings.width a.settings.width) a.c c.own_first-own.result.0
    c.min-else-four_senders.result c.max-else-four_senders.result
unfolding call
with_three c = let s = (goal.at.by_ends-requires-else-four_senders c).Start in
    rw (c.min-else-four_senders.ensures, c.max-else-four_senders.ensures)
    (of_two (found s c.first_sender-first.ensures c.first_link-at.ensures) c.own_first-own.result.1 c.own_first-own.result.2
    (heard s c.first_sender-first.ensures c.first_link-at.ensures c.clock-clock.ensures c.stamp-x.ensures c.stamp-y.ensures c.stamp-z.ensures)
    c.own_first-own.ensures (sym c.four_senders.ensures ∙ c.if-four_senders.false))

pub by_ends-requires : goal.by_ends-requires
by_ends-requires c =
    record { forwardable = ready_at (with_fourth c) c.requires.1; admitted = rw c.clock-clock.ensures (clock_ok (goal.at.by_ends-requires c).Start) }

pub returns-then-four_senders : goal.returns-then-four_senders
unfolding call
returns-then-four_senders c =
    pulses_at (with_fourth (goal.at.returns-then-four_senders c).After-max-most) c.requires.1 (rw c.clock-clock.ensures at c.by_ends.ensures)

pub by_ends-requires-else-four_senders : goal.by_ends-requires-else-four_senders
by_ends-requires-else-four_senders c =
    record { forwardable = ready_at (with_three c) c.requires.1; admitted = rw c.clock-clock.ensures (clock_ok (goal.at.by_ends-requires-else-four_senders c).Start) }

pub returns-else-four_senders : goal.returns-else-four_senders
unfolding call
returns-else-four_senders c =
    pulses_at (with_three (goal.at.returns-else-four_senders c).After-max-else-four_senders) c.requires.1
    (rw c.clock-clock.ensures at c.by_ends-else-four_senders.ensures)
