-- A list of events with at most one faulty sender: the run goes on to the close of the reading that is due, and pulses there. Assumes nothing.
use mathlib.Core.Path.{◌≡◌, refl, ◌∙◌, subst}
use mathlib.Core.Bool.{true, false}
use mathlib.Core.List.{List, [], ◌∷◌, ◌++◌, map, append-nil, append_assoc}
use Prim.Native.Nat.{ℕ, suc, ◌+◌, ◌*◌, ◌≤◌, ◌<◌}
use native.Mathlib.Omega.{arith}
use borrow.Author.Tests.{ne_eqb}
use Rattle.settings.specs.declared.Settings.{Settings}
use Rattle.settings.proofs.Laws.Cases.{by_order}
use Rattle.settings.proofs.Laws.Settings.{limits}
use Rattle.rule.specs.Stamp.{Stamp, heard, silent, ◌≼◌, in_order, last, ◌≼*◌, none, both, FromTo, within, All, more}
use Rattle.rule.specs.Promises.{Tile, OneFree, own_free, neighbour_free, Envelope}
use Rattle.rule.proofs.Promises.{envelope}
use Rattle.rule.proofs.Laws.Stamp.{≼_refl}
use Rattle.senders.specs.Due.{due}
use Rattle.senders.specs.Senders.{last as last_reading, neighbours}
use Rattle.board.specs.Events.{Event, pulse, close}
use Rattle.board.specs.declared.stand.Stage.TheVariants.{Running, Pulsed}
use Rattle.board_runs.specs.Reading.{closes, first_pulse, neighbour_pulses, pulses_after, last_after, Run, run, unless_over, run_from}
use Rattle.board_runs.specs.Promises.{Correct, full_due}
use Rattle.board_runs.proofs.Laws.Events.{closes_++, or_else, first_++, Between, first_between}
use Rattle.board_runs.proofs.Laws.Senders.{by_count}
use Rattle.board_runs.proofs.Laws.State.{Accepted}
use Rattle.board_runs.proofs.Laws.Cut.{Cut, same, late, Cut*, empty, both as cut_both}
use Rattle.board_runs.proofs.Laws.Due.{not_before, in_time, reaches_then}

-- a first pulse in the whole list comes no later than in the part before, silence being last
module _ (v : ℕ) (es fs : List Event) where
  pub no_later : (k : ℕ) → first_pulse v k (es ++ fs) ≼ first_pulse v k es
  no_later k = rw (first_++ v k es fs) (pick (first_pulse v k es))
    where
      pick : (x : Stamp) → or_else x (first_pulse (v + closes es) k fs) ≼ x
      pick (heard a) = unfold or_else in ≼_refl (heard a)
      pick silent = last

  all_no_later : (ks : List ℕ) → map (λ k. first_pulse v k (es ++ fs)) ks ≼* map (λ k. first_pulse v k es) ks
  all_no_later [] = none
  all_no_later (k ∷ ks) = both (no_later k) (all_no_later ks)

-- before a close: each stamp is known, or comes after the reading that is closed
module _ (v : ℕ) (es fs : List Event) where
  pub cut_at : (k : ℕ) → Cut (v + closes es) (first_pulse v k es) (first_pulse v k (es ++ close ∷ fs))
  cut_at k = rw (first_++ v k es (close ∷ fs)) (pick (first_pulse v k es))
    where
      later : {y : Stamp} → heard (suc (v + closes es)) ≼ y → Cut (v + closes es) silent y
      later (in_order i) = late i
      later last = same

      pick : (x : Stamp) → Cut (v + closes es) x (or_else x (first_pulse (v + closes es) k (close ∷ fs)))
      pick (heard a) = unfold or_else in same
      pick silent = unfold or_else first_pulse in later (first_between (suc (v + closes es)) k fs).from

  all_cut : (ks : List ℕ) → Cut* (v + closes es) (map (λ k. first_pulse v k es) ks) (map (λ k. first_pulse v k (es ++ close ∷ fs)) ks)
  all_cut [] = empty
  all_cut (k ∷ ks) = cut_both (cut_at k) (all_cut ks)

-- a stamp that is heard in a range begins no later than the range ends
begins : {lo hi v w : ℕ} {x : Stamp} → FromTo lo hi x → Between v w x → v ≤ hi
begins {lo} {hi} {v} (within {a = a} p q) b = pick b.from
  where
    pick : heard v ≼ heard a → v ≤ hi
    pick (in_order i) = omega arith

module _ {s : Settings} {n v : ℕ} (a : Accepted s n v) where
  neighbours_two : (f : ℕ → Stamp) → (ns : List Stamp) × (map f (neighbours n) ≡ f 1 ∷ f 2 ∷ ns)
  unfolding neighbours
  neighbours_two f = by_count n a.two a.three (λ q. ([], rw q)) (λ q. (f 3 ∷ [], rw q))

  tile_of : (es : List Event) → Tile s (neighbour_pulses n v es)
  unfolding neighbour_pulses
  tile_of es = let (ns, e) = neighbours_two (λ k. first_pulse v k es) in record { checked = a.checked; two = rw e (omega arith) }

  starts : {lo hi : ℕ} (es : List Event) → OneFree lo hi (first_pulse v 0 es) (neighbour_pulses n v es) → v ≤ hi
  unfolding neighbour_pulses
  starts {lo} {hi} es (own_free q) = let (ns, e) = neighbours_two (λ k. first_pulse v k es) in pick (rw e at q)
    where
      pick : {ns : List Stamp} → All (FromTo lo hi) (first_pulse v 1 es ∷ ns) → v ≤ hi
      pick (more p q) = begins p (first_between v 1 es)
  starts es (neighbour_free p q) = begins p (first_between v 0 es)

  module _ (whole : List Event) (c : Correct s n v whole) where
    abbrev x : ℕ
    x = full_due s n v whole

    near : c.hi + 6 * s.unit ≤ c.lo + s.hold
    near = omega (arith, c.near)

    pub begun : v ≤ x
    unfolding full_due
    begun = omega (arith, starts whole c.one_free, in_time (tile_of whole) c.one_free near)

    opens : x < last_reading
    unfolding full_due due Envelope
    opens =
        let k = limits s a.checked in
        omega (arith, (envelope s c.lo c.hi (first_pulse v 0 whole) (neighbour_pulses n v whole) (tile_of whole) c.one_free).1, c.on_time, k.unit.1, k.hold.1)

    -- closes before it wait
    waits : (b fs : List Event) → b ++ fs ≡ whole → v + closes b < x → pulses_after s n v b ≡ false
    unfolding pulses_after full_due neighbour_pulses
    waits b fs e i =
        not_before (tile_of whole) (v + closes b) (rw e at (no_later v b fs 0)) (rw e at (all_no_later v b fs (neighbours n))) i

    -- its own close pulses
    pulses : (b fs : List Event) → b ++ close ∷ fs ≡ whole → v + closes b ≡ x → pulses_after s n v b ≡ true
    unfolding pulses_after full_due neighbour_pulses
    pulses b fs e i =
        rw i (reaches_then (tile_of whole) (first_pulse v 0 whole) (first_pulse v 0 b) (map (λ k. first_pulse v k b) (neighbours n)) c.one_free near
        (rw (e, i) at (cut_at v b fs 0)) (rw (e, i) at (all_cut v b fs (neighbours n))))

    -- so the run of a part of the list: it goes on while the reading that is due is not closed, and has pulsed there once it is
    pub record OnTime (es : List Event) (r : Run) : Type 0 where
      pub before : v + closes es ≤ x → r ≡ run es Running
      pub after : x < v + closes es → (r.stage ≡ Pulsed) × (v + closes r.events ≡ x)

    step : (b : List Event) (e : Event) (es : List Event) {r : Run} → OnTime ((b ++ e ∷ []) ++ es) r → OnTime (b ++ e ∷ es) r
    step b e es {r} o = subst (λ (gs : List Event). OnTime gs r) (append_assoc b (e ∷ []) es) o

    -- the reading after an event
    pulse_by : (b : List Event) (k : ℕ) → v + closes b ≤ x → v + closes (b ++ pulse k ∷ []) ≤ x
    unfolding closes
    pulse_by b k i = omega (arith, closes_++ b (pulse k ∷ []))

    close_by : (b : List Event) → v + closes b < x → v + closes (b ++ close ∷ []) ≤ x
    unfolding closes
    close_by b i = omega (arith, closes_++ b (close ∷ []))

    past_by : (b es : List Event) → v + closes (b ++ close ∷ es) ≤ v + closes b → ⊥
    unfolding closes
    past_by b es i = omega (arith, closes_++ b (close ∷ es))

    now : (b es : List Event) → v + closes b ≡ x → OnTime (b ++ close ∷ es) (run b Pulsed)
    unfolding run
    now b es q =
        record {
          before = λ k. let never : ⊥ = past_by b es (omega arith) in absurd never;
          after = λ k. (refl, q);
        }

    pub runs_on : (b es fs : List Event) → b ++ (es ++ fs) ≡ whole → v + closes b ≤ x → OnTime (b ++ es) (run_from s n v b es)
    unfolding run_from run unless_over last_after
    runs_on b [] fs e i =
        record { before = λ k. rw (append-nil b); after = λ k. let never : ⊥ = omega (arith, rw (append-nil b) at k) in absurd never }
    runs_on b (pulse k ∷ es) fs e i =
        step b (pulse k) es (runs_on (b ++ pulse k ∷ []) es fs (append_assoc b (pulse k ∷ []) (es ++ fs) ∙ e) (pulse_by b k i))
    runs_on b (close ∷ es) fs e i =
        by_order x (v + closes b)
        (λ k. rw (pulses b (es ++ fs) e (omega arith)) (now b es (omega arith)))
        (λ k. rw (waits b (close ∷ es ++ fs) e k, ne_eqb (v + closes b) last_reading (λ q. omega (arith, opens)))
        (step b close es (runs_on (b ++ close ∷ []) es fs (append_assoc b (close ∷ []) (es ++ fs) ∙ e) (close_by b k))))
