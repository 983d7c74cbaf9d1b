-- The tile cases that have a star, the corrections next to zero, the ties of letters and silence, all with h 12; then clocks, the
-- limits of stamps and pulses. Each statement is proved in proofs/Cases.antt, under its name in small letters. Assumes nothing.
use Rattle.std.specs.Prelude.{◌≡◌, List, [], ◌∷◌, ℕ, ◌+◌, ◌-◌, ◌^◌, ℤ, pos, negsuc, Option, Some, None}
use Rattle.settings.specs.Settings.{settings, step}
use Rattle.rule.specs.Clock.{million, phase_most, reads, first_tick}
use Rattle.rule.specs.Stamp.{Stamp, heard, silent, earliest, latest, latest_stamp, silence, stamp_of, code_of}
use Rattle.rule.specs.Forward.{P, correction}
use Rattle.rule.specs.Letter.{letter}
use Rattle.rule.specs.Pulse.{tile_pulse}
use Rattle.rule.specs.declared.letter.Letter.{Letter}
use Rattle.rule.specs.declared.letter.Letter.TheVariants.{Kept, Early, Middle, Back, Late}

-- §14.1 a case: the drift limit r, the stamps, and P with the correction where one is given; §E3.1 and the letter
pub record Case : Type 0 where
  pub r : ℕ
  pub own : Stamp
  pub neighbours : List Stamp
  pub p : ℕ
  pub letter : Letter
  pub correction : Option ℤ

-- §14.1 a case by r, the neighbours, own, P, its letter, and the correction if one is given
unfoldable pub case : (r : ℕ) → (neighbours : List Stamp) → (own : Stamp) → (p : ℕ) → Letter → Option ℤ → Case
case r ns own p x c = record { r = r; own = own; neighbours = ns; p = p; letter = x; correction = c }

-- §14.1 two neighbours that are heard
unfoldable pub stamps : (a b : ℕ) → List Stamp
stamps a b = heard a ∷ heard b ∷ []

-- §14.1 the starred cases, each with its P and, where one is given, its correction
unfoldable pub starred : List Case
starred =
    case 0 (stamps 100 100) (heard 100) 100 Kept None
    ∷ case 0 (stamps 100 100) (heard 136) 112 Middle None
    ∷ case 0 (stamps 100 100) (heard 137) 113 Back None
    ∷ case 0 (stamps 100 100) (heard 200) 136 Late (Some (pos 64))
    ∷ case 0 (stamps 100 100) (heard 64) 64 Kept None
    ∷ case 0 (stamps 100 100) (heard 63) 64 Early (Some (negsuc 0))
    ∷ case 0 (stamps 100 300) (heard 220) 208 Middle None
    ∷ case 0 (stamps 0 100) (heard 110) 86 Back None
    ∷ case 0 (stamps 100 130) silent 166 Late None
    ∷ case 0 (heard 100 ∷ silent ∷ []) (heard 90) 90 Kept None
    ∷ case 0 (heard 100 ∷ silent ∷ []) (heard 50) 64 Early None
    ∷ case 10000 (stamps 100 100) (heard 137) 112 Middle None
    ∷ []

-- §4.3 a correction of -1, of 0 and of 1
unfoldable pub around_zero : List Case
around_zero =
    case 0 (stamps 100 100) (heard 63) 64 Early (Some (negsuc 0))
    ∷ case 0 (stamps 100 100) (heard 64) 64 Kept (Some (pos 0))
    ∷ case 0 (stamps 100 100) (heard 113) 112 Middle (Some (pos 1))
    ∷ []

-- §5.3 a late own beside a silent neighbour is not corrected, and an early one waits for the earliest of the other two; §5.2 beside a
-- silent own the latest of three decides
unfoldable pub with_silence : List Case
with_silence =
    case 0 (heard 100 ∷ silent ∷ []) (heard 200) 200 Kept (Some (pos 0))
    ∷ case 0 (heard 130 ∷ silent ∷ heard 100 ∷ []) (heard 50) 64 Early (Some (negsuc 13))
    ∷ case 0 (heard 130 ∷ heard 100 ∷ heard 120 ∷ []) silent 166 Late None
    ∷ []

-- §E3.1 each tie and what lies a tick past it, with neighbours at 100, where D is own - 112, J 24 and max + 3h 136: D = 0, where P is own too; D = J;
-- own - J = max + 3h; and P = own below, at min - 3h
unfoldable pub at_ties : List Case
at_ties =
    case 0 (stamps 100 100) (heard 111) 111 Kept (Some (pos 0))
    ∷ case 0 (stamps 100 100) (heard 112) 112 Middle (Some (pos 0))
    ∷ case 0 (stamps 100 100) (heard 136) 112 Middle (Some (pos 24))
    ∷ case 0 (stamps 100 100) (heard 137) 113 Back (Some (pos 24))
    ∷ case 0 (stamps 100 100) (heard 160) 136 Back (Some (pos 24))
    ∷ case 0 (stamps 100 100) (heard 161) 136 Late (Some (pos 25))
    ∷ case 0 (stamps 100 100) (heard 64) 64 Kept (Some (pos 0))
    ∷ case 0 (stamps 100 100) (heard 63) 64 Early (Some (negsuc 0))
    ∷ []

-- §14.1 c is the correction that a case gives, if it gives one
unfoldable pub Given : Option ℤ → Option ℤ → Type 0
Given None c = Unit {0}
Given (Some z) c = c ≡ Some z

-- §14.1 the rule, with the step of the case's r, gives its P, its letter, and its correction where there is one
unfoldable pub Meets : Case → Type 0
Meets x =
    let j = step 12 x.r in
    (P 12 j x.own (earliest x.neighbours) (latest x.neighbours) ≡ pos x.p)
    × (letter 12 j x.own (earliest x.neighbours) (latest x.neighbours) ≡ x.letter)
    × Given x.correction (correction 12 j x.own (earliest x.neighbours) (latest x.neighbours))

-- §14.1 each of some cases is met
unfoldable pub EachMeets : List Case → Type 0
EachMeets [] = Unit {0}
EachMeets (x ∷ xs) = Meets x × EachMeets xs

-- §14.1 each starred case is met by the rule as written
unfoldable pub StarredMet : Type 0
StarredMet = EachMeets starred

-- §4.3 each case next to zero is met
unfoldable pub AroundZeroMet : Type 0
AroundZeroMet = EachMeets around_zero

-- §E3.1 each case at a tie is met
unfoldable pub TiesMet : Type 0
TiesMet = EachMeets at_ties

-- §5.2 each case with silence is met, and a silent own has no correction
unfoldable pub SilenceMet : Type 0
SilenceMet = EachMeets with_silence × (correction 12 24 silent (heard 100) (heard 130) ≡ None)

-- §14.2 a clock of drift 10,000 and phase 0 reads 1111 at tick 1100 and just misses 1110 a tick before; it reads 1511 first at 1497,
-- and less at 1496. At drift 1 a tick in a million is gained, at drift 0 none. So it was before there were phases (§E4.6).
unfoldable pub ClockCases : Type 0
ClockCases =
    (reads 10000 0 1100 ≡ 1111)
    × (reads 10000 0 1099 ≡ 1109)
    × (first_tick 10000 0 1511 ≡ 1497)
    × (reads 10000 0 1497 ≡ 1511)
    × (reads 10000 0 1496 ≡ 1510)
    × (reads 1 0 999999 ≡ 999999)
    × (reads 1 0 1000000 ≡ 1000001)
    × (reads 0 0 1100 ≡ 1100)
    × (first_tick 0 0 1511 ≡ 1511)

-- §E4.1 with a phase: at tick 1099 that clock reads 1109.99 and its phase, 1110 from phase 10,000 on; at 1496 1510.96 and its phase, so it
-- first reads 1511 there from 40,000 on, and never before. The largest phase alone makes no reading: at drift 0 none matters.
unfoldable pub PhaseCases : Type 0
PhaseCases =
    (reads 10000 9999 1099 ≡ 1109)
    × (reads 10000 10000 1099 ≡ 1110)
    × (reads 10000 999999 1099 ≡ 1110)
    × (reads 10000 999999 1100 ≡ 1111)
    × (first_tick 10000 39999 1511 ≡ 1497)
    × (first_tick 10000 40000 1511 ≡ 1496)
    × (first_tick 10000 999999 1511 ≡ 1496)
    × (reads 0 999999 0 ≡ 0)
    × (reads 0 999999 1100 ≡ 1100)
    × (first_tick 0 999999 1511 ≡ 1511)
    × (phase_most + 1 ≡ million)

-- §6.1 2^64 - 1 stands for silence, and one less does not; the latest stamp (§6.2)
unfoldable pub StampLimits : Type 0
StampLimits =
    (latest_stamp ≡ 2 ^ 41 - 1)
    × (silence ≡ 2 ^ 64 - 1)
    × (stamp_of (2 ^ 64 - 1) ≡ silent)
    × (stamp_of (2 ^ 64 - 2) ≡ heard (2 ^ 64 - 2))
    × (code_of silent ≡ 2 ^ 64 - 1)
    × (code_of (heard 0) ≡ 0)

-- §14.4 columns 0, 2 and 3 of the printed wall, where the hold is 400, and two starred cases there; with drift 10,000 the tick of
-- 1111 + 400, and that of a phase that makes it a tick earlier (§E4.1)
unfoldable pub PulseCases : Type 0
PulseCases =
    let wall = settings 6 1 100 10 400 0 12 in
    (tile_pulse wall 0 0 (heard 1100) (stamps 1100 1100) ≡ 1500)
    × (tile_pulse wall 0 0 (heard 1100) (heard 1100 ∷ stamps 1100 1180) ≡ 1500)
    × (tile_pulse wall 0 0 (heard 1180) (stamps 1100 1100) ≡ 1536)
    × (tile_pulse wall 0 0 (heard 220) (stamps 100 300) ≡ 608)
    × (tile_pulse wall 0 0 silent (stamps 100 130) ≡ 566)
    × (tile_pulse (settings 6 1 100 10 400 10000 16) 10000 0 (heard 1111) (stamps 1111 1111) ≡ 1497)
    × (tile_pulse (settings 6 1 100 10 400 10000 16) 10000 39999 (heard 1111) (stamps 1111 1111) ≡ 1497)
    × (tile_pulse (settings 6 1 100 10 400 10000 16) 10000 40000 (heard 1111) (stamps 1111 1111) ≡ 1496)
