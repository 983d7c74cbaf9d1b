-- The proofs of what specs/Cases.antt states. Assumes nothing.
use mathlib.Core.Path.{refl}
use mathlib.Core.Bool.{true, false}
use mathlib.Core.List.{List, ◌∷◌}
use lib.Ieee.{to_bits, round}
use Rattle.settings.specs.Refusal.{outside}
use Rattle.rule.specs.Signed.{larger, smaller}
use Rattle.seam.specs.Seam.{half, late, joined, seam_of}
use Rattle.waves.specs.Wave.{Wave, wave, answer, refused, where_closed, gap_of}
use Rattle.waves.specs.Reading.{taken, last, with_some, gaps, largest, smallest, half_gap, extremes, reading}
use Rattle.waves.specs.State.{size, next, fits, blank, started, word_of, seam_word, word, following, put, handed, no_gap, signed, gap_at, gaps_at, front, places, asked}
use Rattle.waves.specs.Program.{Call, hands_in, Calls, done, hand_in, ask}
use Rattle.waves.specs.Cases.{closed, Reads, StartCases, WindowCases, OpenCases, RefusedCases, SignCases, BitsCases, state, FitCases, WordCases, some_calls, CallsWitness}
use Rattle.waves.specs.declared.Waves.{Waves}

pub start_cases : StartCases
unfolding StartCases started outside
start_cases = refl

pub window_cases : WindowCases
unfolding WindowCases Reads reading taken refused answer closed wave seam_of late joined last gaps with_some gap_of where_closed extremes largest smallest larger smaller
window_cases = (refl, refl, refl, refl, refl, refl, refl)

pub open_cases : OpenCases
unfolding OpenCases Reads reading taken refused answer closed wave seam_of late joined last gaps with_some gap_of where_closed extremes largest smallest larger smaller
open_cases = (refl, refl, refl, refl, refl, refl)

pub refused_cases : RefusedCases
unfolding RefusedCases Reads reading taken refused answer closed wave seam_of late joined last gaps with_some gap_of where_closed extremes largest smallest larger smaller
refused_cases = (refl, refl, refl, refl)

pub sign_cases : SignCases
unfolding SignCases Reads reading taken refused answer closed wave seam_of late joined last gaps with_some gap_of where_closed extremes largest smallest larger smaller
sign_cases = (refl, refl, refl)

pub bits_cases : BitsCases
unfolding BitsCases half_gap half to_bits round
bits_cases = refl

pub fit_cases : FitCases
unfolding FitCases fits size next state
fit_cases = (refl, refl, refl, refl, refl, refl)

pub word_cases : WordCases
unfolding WordCases asked places fits size next state front gaps_at gap_at no_gap outside signed with_some extremes largest smallest larger smaller
word_cases = (refl, refl, refl, refl)

hand : {s t : Waves} {cs : List Call} (w : Wave) → Calls (handed s w).waves cs t → Calls s (hands_in w (answer w) ∷ cs) t
unfolding handed
hand {s} w c = hand_in w (handed s w) refl c

pub calls_witness : CallsWitness
unfolding CallsWitness some_calls state closed wave answer refused seam_of late joined handed put word seam_word word_of following started blank outside asked places fits size next front gaps_at gap_at no_gap signed with_some extremes largest smallest larger smaller
calls_witness =
    ask _ refl
    (hand (closed 0 9)
    (hand (closed 2199023255552 7)
    (ask _ refl
    (hand (wave 3 true 4 false)
    (ask _ refl
    (hand (closed 3 1)
    (ask _ refl
    done)))))))
