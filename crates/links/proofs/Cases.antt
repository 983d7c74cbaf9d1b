-- Link values at numbers, by computing. Assumes nothing.
use Rattle.std.proofs.Common.{refl}
use Rattle.settings.specs.Refusal.{outside}
use Rattle.settings.specs.Settings.{settings}
use Rattle.links.specs.Links.{bad_value}
use Rattle.links.specs.Cases.{bad, ValuesMet}

pub values_met : ValuesMet
unfolding ValuesMet bad settings bad_value outside
values_met = (refl, refl, refl)
