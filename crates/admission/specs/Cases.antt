-- Row calls at numbers, each with what it is turned away with, 0 where it is accepted. The wall has W 6, d 100, u 10, A 400, r 0,
-- h 12, or r 10,000 and h 16; what a case does not name is as in a call that is accepted. Assumes nothing.
use Rattle.std.specs.Prelude.{◌≡◌, List, [], ◌∷◌, map, ℕ, replicate, set}
use Rattle.settings.specs.Settings.{settings}
use Rattle.settings.specs.declared.Settings.{Settings}
use Rattle.admission.specs.Call.{Call, call}
use Rattle.admission.specs.Refusal.{row_refusal}

-- §7.4 a row call, with its settings and row before, and its number
pub record Case : Type 0 where
  pub settings : Settings
  pub before : List ℕ
  pub call : Call
  pub number : ℕ

-- §7.4 the record of such a case
unfoldable pub case : Settings → (before marks drifts phases links : List ℕ) → (room letter_room number : ℕ) → Case
case s ts ms ds qs ls room letter_room n = record { settings = s; before = ts; call = call ms ds qs ls room letter_room; number = n }

-- §14.4 the settings, with r 0 and h 12
unfoldable pub wall : Settings
wall = settings 6 1 100 10 400 0 12

-- §7.1 a row before, all at 1000
unfoldable pub times : List ℕ
times = replicate 6 1000

-- §7.1 .. with one time another
unfoldable pub time : (column t : ℕ) → List ℕ
time c t = set times c t

-- §7.1 drifts of 0
unfoldable pub drifts : List ℕ
drifts = replicate 6 0

-- §7.1 .. with one drift another
unfoldable pub drift : (column p : ℕ) → List ℕ
drift c p = set drifts c p

-- §E4.2 phases of 0
unfoldable pub phases : List ℕ
phases = replicate 6 0

-- §E4.2 .. with one phase another
unfoldable pub phase : (column q : ℕ) → List ℕ
phase c q = set phases c q

-- §7.3 link values that are delays of 100
unfoldable pub delays : List ℕ
delays = replicate 20 100

-- §7.3 .. with one value another
unfoldable pub value : (place v : ℕ) → List ℕ
value i v = set delays i v

-- §7.2 the marks of W 6, which are one byte
unfoldable pub marks : ℕ → List ℕ
marks b = b ∷ []

-- §7.4 21: each lent row, one short and one long
unfoldable pub lengths : List Case
lengths =
    case wall times (marks 0) drifts phases delays 6 6 0
    ∷ case wall (replicate 5 1000) (marks 0) drifts phases delays 6 6 21
    ∷ case wall (replicate 7 1000) (marks 0) drifts phases delays 6 6 21
    ∷ case wall times [] drifts phases delays 6 6 21
    ∷ case wall times (0 ∷ 0 ∷ []) drifts phases delays 6 6 21
    ∷ case wall times (marks 0) (replicate 5 0) phases delays 6 6 21
    ∷ case wall times (marks 0) (replicate 7 0) phases delays 6 6 21
    ∷ case wall times (marks 0) drifts (replicate 5 0) delays 6 6 21
    ∷ case wall times (marks 0) drifts (replicate 7 0) delays 6 6 21
    ∷ case wall times (marks 0) drifts phases (replicate 19 100) 6 6 21
    ∷ case wall times (marks 0) drifts phases (replicate 21 100) 6 6 21
    ∷ case wall times (marks 0) drifts phases delays 5 6 21
    ∷ case wall times (marks 0) drifts phases delays 7 6 21
    ∷ case wall times (marks 0) drifts phases delays 6 5 21
    ∷ case wall times (marks 0) drifts phases delays 6 7 21
    ∷ []

-- §7.4 22: the last column is 5, bit 32
unfoldable pub strays : List Case
strays =
    case wall times (marks 32) drifts phases delays 6 6 0
    ∷ case wall times (marks 64) drifts phases delays 6 6 22
    ∷ case wall times (marks 128) drifts phases delays 6 6 22
    ∷ []

-- §7.4 23: times up to 2^40 - 1; a faulty tile's is not looked at
unfoldable pub late_times : List Case
late_times =
    case wall (time 0 1099511627775) (marks 0) drifts phases delays 6 6 0
    ∷ case wall (time 0 1099511627776) (marks 0) drifts phases delays 6 6 23
    ∷ case wall (time 5 1099511627776) (marks 0) drifts phases delays 6 6 23
    ∷ case wall (time 5 1099511627776) (marks 1) drifts phases delays 6 6 23
    ∷ case wall (time 5 1099511627776) (marks 32) drifts phases delays 6 6 0
    ∷ case wall (time 5 18446744073709551615) (marks 32) drifts phases delays 6 6 0
    ∷ []

-- §7.4 24: some tile hears columns 0 and 1, 0 and 3, 2 and 5; none hears 0 and 4, 1 and 4, or 0 and 5
unfoldable pub crowds : List Case
crowds =
    case wall times (marks 3) drifts phases delays 6 6 24
    ∷ case wall times (marks 9) drifts phases delays 6 6 24
    ∷ case wall times (marks 36) drifts phases delays 6 6 24
    ∷ case wall times (marks 17) drifts phases delays 6 6 0
    ∷ case wall times (marks 18) drifts phases delays 6 6 0
    ∷ case wall times (marks 33) drifts phases delays 6 6 0
    ∷ []

-- §7.4 25: drifts up to r
unfoldable pub fast_clocks : List Case
fast_clocks =
    case wall times (marks 0) (drift 0 1) phases delays 6 6 25
    ∷ case (settings 6 1 100 10 400 10000 16) times (marks 0) (drift 5 10000) phases delays 6 6 0
    ∷ case (settings 6 1 100 10 400 10000 16) times (marks 0) (drift 5 10001) phases delays 6 6 25
    ∷ []

-- §E4.3 53: phases up to 999,999
unfoldable pub phase_limits : List Case
phase_limits =
    case wall times (marks 0) drifts (phase 0 999999) delays 6 6 0
    ∷ case wall times (marks 0) drifts (phase 0 1000000) delays 6 6 53
    ∷ case wall times (marks 0) drifts (phase 5 999999) delays 6 6 0
    ∷ case wall times (marks 0) drifts (phase 5 1000000) delays 6 6 53
    ∷ case wall times (marks 0) drifts (phase 5 4294967295) delays 6 6 53
    ∷ []

-- §7.4 26: delays from 90 to 100, in the first link and in the last, and no silence; faulty arrivals up to 2^40 - 1, or silence, where
-- column 3 is broken and place 11 is its link to tile 3
unfoldable pub links : List Case
links =
    case wall times (marks 0) drifts phases (value 0 89) 6 6 26
    ∷ case wall times (marks 0) drifts phases (value 0 90) 6 6 0
    ∷ case wall times (marks 0) drifts phases (value 19 100) 6 6 0
    ∷ case wall times (marks 0) drifts phases (value 19 101) 6 6 26
    ∷ case wall times (marks 0) drifts phases (value 11 18446744073709551615) 6 6 26
    ∷ case wall times (marks 8) drifts phases (value 11 0) 6 6 0
    ∷ case wall times (marks 8) drifts phases (value 11 1099511627775) 6 6 0
    ∷ case wall times (marks 8) drifts phases (value 11 1099511627776) 6 6 26
    ∷ case wall times (marks 8) drifts phases (value 11 18446744073709551614) 6 6 26
    ∷ case wall times (marks 8) drifts phases (value 11 18446744073709551615) 6 6 0
    ∷ case wall times (marks 8) drifts phases (value 10 89) 6 6 26
    ∷ []

-- §13.1 where two apply, the lower: a settings number with 21, 21 with 22, 22 with 23, 23 with 24, 24 with 25, and 25 in the last column
-- with 26 in the first; §E4.3 and 21 with 53, 24 with 53, then 25, 53 and 26 in this order, wherever in the row they apply
unfoldable pub order : List Case
order =
    case (settings 6 1 100 10 191 0 12) (replicate 5 1000) (marks 0) drifts phases delays 6 6 9
    ∷ case wall times (marks 64) (replicate 5 0) phases delays 6 6 21
    ∷ case wall (time 0 1099511627776) (marks 64) drifts phases delays 6 6 22
    ∷ case wall (time 5 1099511627776) (marks 3) drifts phases delays 6 6 23
    ∷ case wall times (marks 3) (drift 0 1) phases delays 6 6 24
    ∷ case wall times (marks 0) (drift 5 1) phases (value 0 89) 6 6 25
    ∷ case wall times (marks 0) drifts (replicate 5 1000000) delays 6 6 21
    ∷ case wall times (marks 3) drifts (phase 0 1000000) delays 6 6 24
    ∷ case wall times (marks 0) (drift 5 1) (phase 0 1000000) delays 6 6 25
    ∷ case wall times (marks 0) (drift 0 1) (phase 5 1000000) delays 6 6 25
    ∷ case wall times (marks 0) drifts (phase 5 1000000) (value 0 89) 6 6 53
    ∷ case wall times (marks 0) drifts (phase 0 1000000) (value 19 101) 6 6 53
    ∷ []

-- §7.4 the number that a case's call is given
unfoldable pub found : Case → ℕ
found x = row_refusal x.settings x.before x.call

-- §7.4 each of some cases is given its own number
unfoldable pub Met : List Case → Type 0
Met xs = map found xs ≡ map (λ x. x.number) xs

-- §7.4 every case above is given its number
unfoldable pub RefusalsMet : Type 0
RefusalsMet = Met lengths × Met strays × Met late_times × Met crowds × Met fast_clocks × Met phase_limits × Met links × Met order
