-- What `Row::bad_before`'s loop keeps: no column passed has a bad link. Assumes nothing.
use Rattle.std.proofs.Common.{◌≡◌, false}
use Rattle.settings.specs.Refusal.{any_below}
use Rattle.links.specs.Links.{bad_links}
use Rattle.links.proofs.Row.bad_before.Given as goal

abbrev pub invariant-loop-c : goal.invariant-loop-c
invariant-loop-c l = any_below l.c (bad_links l.self.settings l.self.marks.now l.self.links.now) ≡ false
