-- The proofs of what specs/Cases.antt states. Assumes nothing.
use mathlib.Core.Path.{refl}
use Rattle.rule.specs.Signed.{natural}
use Rattle.rule.specs.Stamp.{stamp_of, unheard_of, unheard_in}
use Rattle.rule.specs.Pulse.{tile_P}
use Rattle.rule.proofs.Cases.{rule_computed}
use Rattle.senders.specs.Senders.{neighbours, code_at, stamp_at, own_stamp, neighbour_stamps, unheard, unheard_all, is_heard, heard_by, stamp_fits, fit}
use Rattle.senders.specs.Due.{due, has_P, reaches, due_code}
use Rattle.senders.specs.Cases.{wall, senders, UnheardCases, HeardCases, ReachesCases, DueCases, FitCases}

-- what senders are computed by, and when they are due; the crates above go on from it
unfoldable pub senders_computed : Unit {0}
unfolding rule_computed natural stamp_of unheard_of unheard_in tile_P neighbours code_at stamp_at own_stamp neighbour_stamps unheard unheard_all is_heard heard_by stamp_fits fit due has_P reaches due_code
senders_computed = tt

unfoldable computed : Unit {0}
unfolding senders_computed wall senders
computed = tt

pub unheard_cases : UnheardCases
unfolding computed UnheardCases
unheard_cases = (refl, refl, refl, refl)

pub heard_cases : HeardCases
unfolding computed HeardCases
heard_cases = (refl, refl, refl, refl, refl)

pub reaches_cases : ReachesCases
unfolding computed ReachesCases
reaches_cases = (refl, refl, refl, refl, refl, refl)

pub due_cases : DueCases
unfolding computed DueCases
due_cases = (refl, refl, refl, refl, refl, refl)

pub fit_cases : FitCases
unfolding computed FitCases
fit_cases = (refl, refl)
