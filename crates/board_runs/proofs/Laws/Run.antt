-- A run and what follows it: once it is over, nothing counts. Assumes nothing.
use mathlib.Core.Path.{◌≡◌, refl}
use mathlib.Core.Bool.{Bool, true, false, cond}
use mathlib.Core.List.{List, [], ◌∷◌, ◌++◌}
use Prim.Native.Nat.{ℕ, ◌+◌, ◌≤◌, ◌<◌}
use native.Mathlib.Omega.{arith}
use borrow.Author.Tests.{eqb-false}
use Rattle.senders.specs.Senders.{last}
use Rattle.settings.specs.declared.Settings.{Settings}
use Rattle.board.specs.Events.{Event, pulse, close}
use Rattle.board.specs.Stand.{is_running}
use Rattle.board_runs.specs.Reading.{closes, pulses_after, last_after, Run, run, unless_over, run_from}
use Rattle.board_runs.proofs.Laws.Events.{closes_++}

module _ (s : Settings) (n v : ℕ) where
  -- a run that goes on
  unfoldable pub continue : Run → List Event → Run
  continue r es = cond (is_running r.stage) (run_from s n v r.events es) r

  pub run_++ : (b es fs : List Event) → run_from s n v b (es ++ fs) ≡ continue (run_from s n v b es) fs
  unfolding run_from continue run is_running
  run_++ b [] fs = refl
  run_++ b (pulse k ∷ es) fs = run_++ (b ++ pulse k ∷ []) es fs
  run_++ b (close ∷ es) fs = pick (pulses_after s n v b) (last_after v b) (run_++ (b ++ close ∷ []) es fs)
    where
      pick : (p l : Bool) → run_from s n v (b ++ close ∷ []) (es ++ fs) ≡ continue (run_from s n v (b ++ close ∷ []) es) fs →
          unless_over p l b (run_from s n v (b ++ close ∷ []) (es ++ fs)) ≡ continue (unless_over p l b (run_from s n v (b ++ close ∷ []) es)) fs
      pick true l e = unfold unless_over continue run is_running in refl
      pick false true e = unfold unless_over continue run is_running in refl
      pick false false e = unfold unless_over in e

  -- what counts stays within the readings that open
  pulse_inside : (b : List Event) (k : ℕ) → v + closes b ≤ last → v + closes (b ++ pulse k ∷ []) ≤ last
  unfolding closes
  pulse_inside b k i = omega (arith, closes_++ b (pulse k ∷ []))

  close_inside : (b : List Event) → v + closes b < last → v + closes (b ++ close ∷ []) ≤ last
  unfolding closes
  close_inside b i = omega (arith, closes_++ b (close ∷ []))

  not_last : (b : List Event) → v + closes b ≤ last → last_after v b ≡ false → v + closes b < last
  unfolding last_after
  not_last b i e = let ne = eqb-false (v + closes b) last e in omega arith

  unless_inside : (p l : Bool) (b : List Event) (r : Run) → v + closes b ≤ last → (l ≡ false → v + closes b < last) →
      (v + closes b < last → v + closes r.events ≤ last) → v + closes (unless_over p l b r).events ≤ last
  unfolding unless_over run
  unless_inside true l b r i f g = i
  unless_inside false true b r i f g = i
  unless_inside false false b r i f g = g (f refl)

  pub run_inside : (b es : List Event) → v + closes b ≤ last → v + closes (run_from s n v b es).events ≤ last
  unfolding run_from run
  run_inside b [] i = i
  run_inside b (pulse k ∷ es) i = run_inside (b ++ pulse k ∷ []) es (pulse_inside b k i)
  run_inside b (close ∷ es) i =
      unless_inside (pulses_after s n v b) (last_after v b) b (run_from s n v (b ++ close ∷ []) es) i (not_last b i)
      (λ k. run_inside (b ++ close ∷ []) es (close_inside b k))
