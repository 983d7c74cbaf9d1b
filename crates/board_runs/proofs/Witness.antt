-- The proofs of what specs/Witness.antt states: the calls are computed. Assumes nothing.
use mathlib.Core.Path.{refl}
use native.Mathlib.Omega.{arith}
use Rattle.rule.specs.Stamp.{within, none, more, this, later_on}
use Rattle.rule.specs.Promises.{own_free, neighbour_free}
use Rattle.board.specs.State.{shut as shut_once, shut_many as shut_often, closed, closed_many}
use Rattle.board.proofs.Cases.{board_computed}
use Rattle.board_runs.specs.Reading.{closes, first_pulse, neighbour_pulses}
use Rattle.board_runs.specs.Program.{none as no_more, hear, shut, shut_many, events_of, all_events}
use Rattle.board_runs.specs.Promises.{full_due}
use Rattle.board_runs.specs.Witness.{wall, state, late_calls, LateMet, silent_calls, SilentMet, longer, far_calls, FartherMet}

unfoldable computed : Unit {0}
unfolding board_computed shut_once shut_often closed closed_many closes first_pulse neighbour_pulses events_of all_events full_due wall longer state
computed = tt

pub late_met : LateMet
unfolding computed LateMet late_calls
late_met = (
  hear 1 _ refl (shut_many 14 _ refl (hear 0 _ refl (shut_many 32 _ refl (shut _ refl (shut_many 13 _ refl (hear 2 _ refl no_more)))))),
  refl,
  refl,
  record {
    lo = 0;
    hi = 14;
    one_free = neighbour_free (within {a = 14} (omega arith) (omega arith)) (later_on (within {a = 0} (omega arith) (omega arith)) (this none));
    on_time = omega arith;
    near = omega arith;
  },
)

pub silent_met : SilentMet
unfolding computed SilentMet silent_calls
silent_met = (
  hear 2 _ refl (hear 1 _ refl (shut_many 38 _ refl (shut _ refl no_more))),
  refl,
  refl,
  record {
    lo = 0;
    hi = 0;
    one_free = own_free (more (within {a = 0} (omega arith) (omega arith)) (more (within {a = 0} (omega arith) (omega arith)) none));
    on_time = omega arith;
    near = omega arith;
  },
)

pub farther_met : FartherMet
unfolding computed FartherMet far_calls
farther_met = (
  hear 1 _ refl (shut_many 35 _ refl (hear 0 _ refl (shut_many 45 _ refl (hear 2 _ refl (shut _ refl no_more))))),
  refl,
)
