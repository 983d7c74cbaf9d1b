-- The statements of specs/Cases.antt, computed by the rule as written. Assumes nothing.
use mathlib.Core.Path.{refl}
use Rattle.settings.specs.Rounding.{up}
use Rattle.settings.proofs.Cases.{settings_computed}
use Rattle.rule.specs.Clock.{reads, first_tick}
use Rattle.rule.specs.Signed.{larger, smaller, natural}
use Rattle.rule.specs.Stamp.{earlier, later, earliest, latest, stamp_of, code_of}
use Rattle.rule.specs.Forward.{larger_at, least_to, D, heard_correction, P, correction}
use Rattle.rule.specs.Letter.{early_or_kept, heard_letter, letter}
use Rattle.rule.specs.Pulse.{tile_P, tile_pulse}
use Rattle.rule.specs.Cases.{case, stamps, starred, around_zero, with_silence, at_ties, Given, Meets, EachMeets, StarredMet, AroundZeroMet, TiesMet, SilenceMet, ClockCases, PhaseCases, StampLimits, PulseCases}

-- what P, the correction and the letter are computed by
unfoldable pub rule_computed : Unit {0}
unfolding settings_computed letter heard_letter early_or_kept P correction heard_correction D least_to larger_at larger smaller earliest latest earlier later
rule_computed = tt

pub starred_met : StarredMet
unfolding rule_computed StarredMet EachMeets Meets Given starred case stamps
starred_met =
    ((refl, refl, tt), ((refl, refl, tt), ((refl, refl, tt), ((refl, refl, refl), ((refl, refl, tt), ((refl, refl, refl), ((refl, refl, tt), ((refl, refl, tt), ((refl, refl, tt), ((refl, refl, tt), ((refl, refl, tt), ((refl, refl, tt), tt))))))))))))

pub around_zero_met : AroundZeroMet
unfolding rule_computed AroundZeroMet EachMeets Meets Given around_zero case stamps
around_zero_met = ((refl, refl, refl), ((refl, refl, refl), ((refl, refl, refl), tt)))

pub ties_met : TiesMet
unfolding rule_computed TiesMet EachMeets Meets Given at_ties case stamps
ties_met = ((refl, refl, refl), ((refl, refl, refl), ((refl, refl, refl), ((refl, refl, refl), ((refl, refl, refl), ((refl, refl, refl), ((refl, refl, refl), ((refl, refl, refl), tt))))))))

pub silence_met : SilenceMet
unfolding rule_computed SilenceMet EachMeets Meets Given with_silence case
silence_met = (((refl, refl, refl), ((refl, refl, refl), ((refl, refl, tt), tt))), refl)

pub clock_cases : ClockCases
unfolding ClockCases reads first_tick up
clock_cases = (refl, refl, refl, refl, refl, refl, refl, refl, refl)

pub phase_cases : PhaseCases
unfolding PhaseCases reads first_tick up
phase_cases = (refl, refl, refl, refl, refl, refl, refl, refl, refl, refl, refl)

pub stamp_limits : StampLimits
unfolding StampLimits stamp_of code_of
stamp_limits = (refl, refl, refl, refl, refl, refl)

pub pulse_cases : PulseCases
unfolding rule_computed PulseCases tile_pulse tile_P natural first_tick stamps
pulse_cases = (refl, refl, refl, refl, refl, refl, refl, refl)
