-- `stamp` meets its contract: silence for a silent link, and else the reading at the arrival. Assumes nothing.
use mathlib.Core.Path.{◌≡◌, sym, ◌∙◌}
use mathlib.Core.Bool.{true, false}
use Prim.Native.Nat.{◌+◌}
use Rattle.columns.specs.Marks.{marked}
use Rattle.pulse.proofs.Laws.Stampable.{stamped_silent, stamped_faulty, stamped_correct}
use Rattle.pulse.proofs.stamp.Goals.{Else-marked, Then-marked}
use Rattle.pulse.proofs.stamp.Goals as goal

is_faulty : (c : Then-marked) → let a = c.args in marked a.marks.now (a.first + a.place) ≡ true
is_faulty c = sym c.marked.ensures ∙ c.if-marked.true

is_correct : (c : Else-marked) → let a = c.args in marked a.marks.now (a.first + a.place) ≡ false
is_correct c = sym c.marked.ensures ∙ c.if-marked.false

pub returns-then-arrival : goal.returns-then-arrival
returns-then-arrival c = let a = c.args in
    sym (stamped_silent a.clock a.before.now a.marks.now a.links.now (a.first + a.place) (a.at + a.place) (is_faulty (goal.at.returns-then-arrival c).Then-marked) c.if-arrival.true)

pub returns-then-marked : goal.returns-then-marked
returns-then-marked c = let a = c.args in
    c.reading.ensures
    ∙ sym (stamped_faulty a.clock a.before.now a.marks.now a.links.now (a.first + a.place) (a.at + a.place) (is_faulty (goal.at.returns-then-marked c).Then-marked) c.if-arrival.false)

pub returns : goal.returns
returns c = let a = c.args in
    rw (stamped_correct a.clock a.before.now a.marks.now a.links.now (a.first + a.place) (a.at + a.place) (is_correct (goal.at.returns c).Else-marked)) c.received.ensures
