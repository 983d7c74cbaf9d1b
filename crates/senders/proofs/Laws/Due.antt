-- What the rule asks of senders that fit, and what it gives for them. Assumes nothing.
use mathlib.Core.Path.{◌≡◌}
use mathlib.Core.Bool.{true, false}
use mathlib.Core.List.{[], ◌∷◌}
use Prim.Native.Nat.{ℕ, ◌+◌, ◌≤◌}
use lib.ListN.{length}
use native.Mathlib.Omega.{arith}
use borrow.Author.Tests.{le-leb, lt-leb}
use Rattle.std.specs.Prelude.{Some, None}
use Rattle.settings.specs.Settings.{settings_refusal, step_of}
use Rattle.settings.specs.declared.Settings.{Settings}
use Rattle.settings.proofs.Laws.Cases.{by_order}
use Rattle.settings.proofs.Laws.Settings.{limits}
use Rattle.rule.specs.Stamp.{stamp_of, code_of, earliest, latest, ◌≼◌, All, none, more}
use Rattle.rule.specs.Closed.{closed_P, Forwardable}
use Rattle.rule.specs.Promises.{Tile}
use Rattle.rule.proofs.Promises.{closed}
use Rattle.rule.proofs.Laws.Coded.{code_stamp as stamp_code, forwardable, P_small}
use Rattle.rule.proofs.Laws.Stamp.{By, earliest_by, latest_by, earliest_≼_latest}
use Rattle.rule.proofs.Laws.Forward.{enough}
use Rattle.senders.specs.Senders.{last, code_at, stamp_at, own_stamp, neighbour_stamps, unheard, fit}
use Rattle.senders.specs.Due.{due, has_P, due_code}
use Rattle.senders.specs.declared.Senders.{Senders}
use Rattle.senders.proofs.Laws.Senders.{Fit, fit_is, code_stamp, of_two, of_three}

-- a P, or none
pub enough_heard : (k : ℕ) → k ≤ 1 → has_P k ≡ true
unfolding has_P
enough_heard k i = le-leb k 1 i

pub too_few : (k : ℕ) → 2 ≤ k → has_P k ≡ false
unfolding has_P
too_few k i = lt-leb k 1 i

-- settings and senders of a state that fits
pub record Sound (s : Settings) (x : Senders) : Type 0 where
  pub checked : settings_refusal s ≡ 0
  pub fit : fit x ≡ true

-- two neighbours or three, each silent or heard by the last reading
record Neighbours (x : Senders) : Type 0 where
  two : 2 ≤ length (neighbour_stamps x)
  by : All (By last) (neighbour_stamps x)
  ordered : earliest (neighbour_stamps x) ≼ latest (neighbour_stamps x)

neighbours_are : (x : Senders) → Fit x → Neighbours x
neighbours_are x f =
    by_order 3 x.count
    (λ i. let e = of_three x (omega (arith, f.most)) in
    record {
      two = rw e (omega arith);
      by = rw e (more f.one (more f.two (more f.three none)));
      ordered = rw e (earliest_≼_latest (stamp_at x 1) (stamp_at x 2 ∷ stamp_at x 3 ∷ []));
    })
    (λ i. let e = of_two x (omega (arith, f.least)) in
    record {
      two = rw e (omega arith);
      by = rw e (more f.one (more f.two none));
      ordered = rw e (earliest_≼_latest (stamp_at x 1) (stamp_at x 2 ∷ []));
    })

pub tile_of : {s : Settings} {x : Senders} → Sound s x → Tile s (neighbour_stamps x)
tile_of {x = x} k = record { checked = k.checked; two = (neighbours_are x (fit_is x k.fit)).two }

module _ {s : Settings} {x : Senders} (k : Sound s x) (few : unheard x ≤ 1) where
  ends : Neighbours x
  ends = neighbours_are x (fit_is x k.fit)

  pub asked : Forwardable s.unit (step_of s) (code_at x 0) (code_of (earliest (neighbour_stamps x))) (code_of (latest (neighbour_stamps x)))
  unfolding unheard own_stamp stamp_at
  asked =
      rw (code_stamp (code_at x 0)) at
      (forwardable {hi = last} (omega arith) (limits s k.checked) (enough (own_stamp x) (neighbour_stamps x) ends.two few) ends.ordered
      (fit_is x k.fit).own (earliest_by ends.by) (latest_by ends.by))

  pub due_is : Some (closed_P s.unit (step_of s) (stamp_of (code_at x 0)) (stamp_of (code_of (earliest (neighbour_stamps x)))) (stamp_of (code_of (latest (neighbour_stamps x)))) + s.hold)
      ≡ due_code s x
  unfolding due_code due own_stamp stamp_at
  due_is =
      rw (
        enough_heard (unheard x) few,
        closed (own_stamp x) (tile_of k),
        stamp_code {hi = last} (omega arith) (earliest_by ends.by),
        stamp_code {hi = last} (omega arith) (latest_by ends.by),
      )

  pub due_small : closed_P s.unit (step_of s) (stamp_of (code_at x 0)) (stamp_of (code_of (earliest (neighbour_stamps x)))) (stamp_of (code_of (latest (neighbour_stamps x)))) + s.hold
      ≤ 4398047698604
  due_small = omega (arith, P_small asked, (limits s k.checked).hold.1)

pub no_due : (s : Settings) (x : Senders) → 2 ≤ unheard x → None ≡ due_code s x
unfolding due_code
no_due s x i = rw (too_few (unheard x) i)
