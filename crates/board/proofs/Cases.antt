-- The proofs of what specs/Cases.antt states: many closes are computed at once, the rest as it is. Assumes nothing.
use mathlib.Core.Path.{◌≡◌, refl, ◌∙◌, ap}
use mathlib.Core.List.{List, [], ◌∷◌}
use Prim.Native.Nat.{ℕ, suc, ◌-◌, ◌^◌}
use Rattle.settings.specs.Refusal.{or_else}
use Rattle.settings.specs.declared.Settings.{Settings}
use Rattle.senders.proofs.Cases.{senders_computed}
use Rattle.senders.specs.Senders.{last}
use Rattle.board.specs.Stand.{stand, closing, told, is_running}
use Rattle.board.specs.State.{looked_at, reached, fits, runs, start_tests, start_cause, start_refusal, fresh, first_stage, started, hears, pulsed, at as at_stand, shut, shut_many, answered, closed, closed_many}
use Rattle.board.specs.Closing.{end_of, due_by, closings, jumped}
use Rattle.board.specs.Cases.{wall, drifting, StartCases, state, FreshCase, RefusedCase, Arrival, ◌at◌, arrives, arrive, PulsesAt, InEach, TileCases, ThreeCases, LateStartCase, UnheardCases, RepeatCases, ToldCases, SenderCases, OverCases, late, LastCases}
use Rattle.board.specs.declared.Board.{Board}
use Rattle.board.specs.declared.stand.Stage.TheVariants as stage
use Rattle.board.proofs.Laws.Closing.{jumps}

-- what a state is computed by; the crates above go on from it
unfoldable pub board_computed : Unit {0}
unfolding senders_computed stand closing told is_running looked_at reached fits runs or_else start_tests start_cause start_refusal fresh first_stage started hears pulsed at_stand answered
board_computed = tt

-- with many closes at once
unfoldable computed : Unit {0}
unfolding board_computed end_of due_by closings jumped wall drifting state
computed = tt

pub start_cases : StartCases
unfolding computed StartCases
start_cases = (refl, refl, refl, refl, refl, refl, refl)

pub fresh_case : FreshCase
unfolding computed FreshCase
fresh_case = refl

pub refused_case : RefusedCase
unfolding computed RefusedCase
refused_case = refl

-- arrivals with many closes at once between them
unfoldable hops : Board → Arrival → Board
hops b (k at v) = (pulsed (jumped (v - b.stand.reading) b) k).board

unfoldable hop : Board → List Arrival → Board
hop b [] = b
hop b (x ∷ xs) = hop (hops b x) xs

hops_are : (b : Board) (x : Arrival) → arrives b x ≡ hops b x
unfolding arrives hops
hops_are b (k at v) = ap (λ (c : Board). (pulsed c k).board) (jumps (v - b.stand.reading) b)

hop_is : (b : Board) (xs : List Arrival) → arrive b xs ≡ hop b xs
unfolding arrive hop
hop_is b [] = refl
hop_is b (x ∷ xs) = ap (λ (c : Board). arrive c xs) (hops_are b x) ∙ hop_is (hops b x) xs

-- a case with many closes at once, in each of some orders
unfoldable HopsAt : Settings → (count p : ℕ) → List Arrival → Type 0
HopsAt s n p xs =
    let b = hop (started s n 0).board xs in
    ((jumped (p - b.stand.reading) b).stand ≡ stand p stage.Running) × ((jumped (suc p - b.stand.reading) b).stand ≡ stand p stage.Pulsed)

unfoldable EachHops : Settings → (count p : ℕ) → List (List Arrival) → Type 0
EachHops s n p [] = Unit {0}
EachHops s n p (xs ∷ orders) = HopsAt s n p xs × EachHops s n p orders

pulses_at : (s : Settings) (n p : ℕ) (xs : List Arrival) → HopsAt s n p xs → PulsesAt s n p xs
unfolding HopsAt PulsesAt
pulses_at s n p xs h =
    let b = hop (started s n 0).board xs in
    rw (hop_is (started s n 0).board xs) (
      ap (λ (c : Board). c.stand) (jumps (p - b.stand.reading) b) ∙ h.0,
      ap (λ (c : Board). c.stand) (jumps (suc p - b.stand.reading) b) ∙ h.1,
    )

each : (s : Settings) (n p : ℕ) (orders : List (List Arrival)) → EachHops s n p orders → InEach s n p orders
unfolding EachHops InEach
each s n p [] h = tt
each s n p (xs ∷ orders) h = (pulses_at s n p xs h.0, each s n p orders h.1)

pub tile_cases : TileCases
unfolding computed TileCases EachHops HopsAt hop hops
tile_cases = (
  each wall 2 500 _ ((refl, refl), ((refl, refl), ((refl, refl), ((refl, refl), ((refl, refl), ((refl, refl), tt)))))),
  each wall 2 512 _ ((refl, refl), ((refl, refl), tt)),
  each wall 2 513 _ ((refl, refl), ((refl, refl), tt)),
  each wall 2 536 _ ((refl, refl), ((refl, refl), tt)),
  each wall 2 464 _ ((refl, refl), ((refl, refl), tt)),
  each wall 2 464 _ ((refl, refl), ((refl, refl), tt)),
  each wall 2 608 _ ((refl, refl), ((refl, refl), tt)),
  each wall 2 486 _ ((refl, refl), ((refl, refl), tt)),
  each wall 2 566 _ ((refl, refl), ((refl, refl), tt)),
  each wall 2 490 _ ((refl, refl), ((refl, refl), tt)),
  each wall 2 464 _ ((refl, refl), ((refl, refl), tt)),
  each drifting 2 304 _ ((refl, refl), ((refl, refl), tt)),
)

pub three_cases : ThreeCases
unfolding computed ThreeCases EachHops HopsAt hop hops
three_cases = (
  each wall 3 464 _ ((refl, refl), ((refl, refl), ((refl, refl), tt))),
  each wall 3 566 _ ((refl, refl), ((refl, refl), ((refl, refl), tt))),
)

pub late_start_case : LateStartCase
unfolding computed LateStartCase hop hops
late_start_case =
    let b = (started wall 2 2199023255551).board in
    let xs = 2 at 2199023255551 ∷ 1 at 2199023255551 ∷ 0 at 2199023255551 ∷ [] in
    rw (hop_is b xs) (ap (λ (c : Board). c.stand) (jumps 401 (hop b xs)))

pub unheard_cases : UnheardCases
unfolding computed UnheardCases hop hops
unheard_cases =
    let start = (started wall 2 0).board in
    let b = hop start (1 at 100 ∷ []) in
    let three = 0 at 0 ∷ 1 at 0 ∷ 2 at 1000 ∷ [] in
    rw (hop_is start (1 at 100 ∷ []), hop_is b (0 at 1000100 ∷ []), hop_is (started wall 3 0).board three) (
      ap (λ (c : Board). c.stand) (jumps 1000000 b),
      ap (λ (c : Board). c.stand) (jumps 401 (hop b (0 at 1000100 ∷ []))),
      ap (λ (c : Board). c.stand) (jumps 1 (hop (started wall 3 0).board three)),
    )

pub repeat_cases : RepeatCases
unfolding computed RepeatCases hop hops
repeat_cases = (hop_is _ (1 at 5 ∷ 1 at 5 ∷ []), hop_is _ (1 at 5 ∷ 0 at 6 ∷ 1 at 9 ∷ 0 at 9 ∷ []))

pub told_cases : ToldCases
unfolding computed ToldCases
told_cases = refl

pub sender_cases : SenderCases
unfolding computed SenderCases
sender_cases = (refl, refl, refl, refl, refl)

pub over_cases : OverCases
unfolding computed OverCases shut shut_many closed closed_many
over_cases = (refl, refl, refl, refl, refl, refl, refl, refl)

pub last_cases : LastCases
unfolding computed LastCases late shut closed closed_many
last_cases = (refl, refl, refl, rw (jumps (2 ^ 64 - 1) (late 399 (last - 7) stage.Running)), refl, refl, refl)
