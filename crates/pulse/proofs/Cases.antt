-- Pulses at numbers, by computing them. Assumes nothing.
use mathlib.Core.Path.{refl}
use Rattle.settings.specs.Rounding.{up}
use Rattle.settings.specs.Settings.{settings, step, step_of}
use Rattle.rule.specs.Clock.{reads, first_tick}
use Rattle.rule.specs.Signed.{larger, smaller, natural}
use Rattle.rule.specs.Stamp.{earlier, later, earliest, latest, stamp_of}
use Rattle.rule.specs.Forward.{larger_at, least_to, D, heard_correction, P}
use Rattle.rule.specs.Letter.{early_or_kept, heard_letter, letter}
use Rattle.rule.specs.Pulse.{tile_P, tile_pulse, tile_letter}
use Rattle.columns.specs.Columns.{are_neighbours, columns_from, neighbours, is_predecessor, predecessors, links_before, place_in, link_place, link, table_from}
use Rattle.columns.specs.Marks.{marked}
use Rattle.admission.specs.Call.{call}
use Rattle.admission.specs.Cases.{wall, times, time, drifts, drift, phases, phase, delays, marks}
use Rattle.pulse.specs.Pulse.{arrives, arrival, read_at, stamp, pulse, letter_at}
use Rattle.pulse.specs.Cases.{pulses, letters, sent, PrintedMet, BrokenMet, LettersMet, UnreadMet, DriftMet, PhaseMet}

computed : PrintedMet × BrokenMet × LettersMet × UnreadMet × DriftMet × PhaseMet
unfolding PrintedMet BrokenMet LettersMet UnreadMet DriftMet PhaseMet pulses letters sent wall times time drifts drift phases phase delays marks settings call table_from pulse letter_at tile_pulse tile_letter letter heard_letter early_or_kept tile_P P heard_correction D least_to larger_at larger smaller natural stamp arrival arrives read_at reads first_tick up stamp_of earliest latest earlier later step_of step neighbours are_neighbours columns_from marked link link_place links_before place_in predecessors is_predecessor
computed = (refl, (refl, refl, refl, refl), (refl, refl, refl, refl, refl), refl, (refl, refl), (refl, refl, refl, refl, refl, refl, refl, refl, refl))

pub printed_met : PrintedMet
printed_met = computed.0

pub broken_met : BrokenMet
broken_met = computed.1

pub letters_met : LettersMet
letters_met = computed.2

pub unread_met : UnreadMet
unread_met = computed.3

pub drift_met : DriftMet
drift_met = computed.4

pub phase_met : PhaseMet
phase_met = computed.5
