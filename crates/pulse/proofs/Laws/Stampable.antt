-- What the code makes of a link, what it asks before it reads one, and the pulse and letter of a tile of an accepted row by the
-- codes of its stamps. Assumes nothing.
use mathlib.Core.Path.{◌≡◌, refl, sym, ◌∙◌, ap, subst}
use mathlib.Core.Bool.{true, false}
use mathlib.Core.List.{List, [], ◌∷◌, map}
use Prim.Native.Nat.{ℕ, ◌+◌, ◌*◌, ◌≤◌, ◌<◌, min, max}
use lib.ListN.{length, get_or}
use native.Mathlib.Omega.{arith}
use Rattle.settings.specs.Settings.{step_of}
use Rattle.rule.specs.Clock.{reads}
use Rattle.rule.specs.Stamp.{Stamp, ◌≼◌, silence, code_of, earliest, latest, latest_stamp, All, none, more}
use Rattle.rule.specs.Closed.{Forwardable}
use Rattle.rule.specs.Pulse.{tile_P, tile_pulse, tile_letter}
use Rattle.rule.specs.declared.clock.Clock.{Clock}
use Rattle.settings.specs.declared.Settings.{Settings}
use Rattle.rule.proofs.Promises.{closed}
use Rattle.settings.proofs.Laws.Settings.{limits}
use Rattle.rule.proofs.Laws.Stamp.{By, earliest_by, latest_by, earliest_≼_latest}
use Rattle.rule.proofs.Laws.Clock.{pulse_latest}
use Rattle.rule.proofs.Laws.Forward.{enough, P_most}
use Rattle.rule.proofs.Laws.Coded.{stamp_silent, stamp_heard, code_stamp, earliest_two, earliest_three, latest_two, latest_three, forwardable}
use Rattle.columns.specs.Columns.{neighbours, link}
use Rattle.admission.specs.Call.{Call}
use Rattle.columns.specs.Marks.{marked, mark_bytes}
use Rattle.pulse.specs.Pulse.{arrives, arrival, read_at, clock_of, stamp, pulse, letter_at, pulsed_at}
use Rattle.pulse.specs.Pulsed.{pulsed}
use Rattle.pulse.specs.declared.Pulsed.{Pulsed}
use Rattle.pulse.specs.Stampable.{Stampable, stamped}
use Rattle.pulse.specs.Plain.{received}
use Rattle.columns.proofs.Laws.Columns.{own}
use Rattle.admission.proofs.Laws.Accepted.{Accepted}
use Rattle.pulse.proofs.Laws.Senders.{Sender}
use Rattle.pulse.proofs.Laws.Stamps.{admitted, stamp_by, few_silent, neighbours_by, tile_of}

-- the stamp of what a link brings
module _ (p : Clock) (ts ms ls : List ℕ) (k i : ℕ) where
  pub stamped_silent : marked ms k ≡ true → get_or ls i 0 ≡ silence → stamped p ts ms ls k i ≡ silence
  unfolding stamped code_of read_at arrives
  stamped_silent e q = rw (e, stamp_silent (get_or ls i 0) q)

  pub stamped_faulty : marked ms k ≡ true → (get_or ls i 0 ≡ silence → ⊥) → stamped p ts ms ls k i ≡ reads p.drift p.phase (get_or ls i 0)
  unfolding stamped code_of read_at arrives
  stamped_faulty e n = rw (e, stamp_heard (get_or ls i 0) n)

  pub stamped_correct : marked ms k ≡ false → stamped p ts ms ls k i ≡ received p ts ls k i
  unfolding stamped code_of read_at arrives received
  stamped_correct e = rw e

-- what the rule takes, and the pulse and its letter, by the codes of own and of the earliest and latest neighbour
pub record Pulsing (s : Settings) (ts : List ℕ) (x : Call) (c o l m : ℕ) : Type 0 where
  pub ready : Forwardable s.unit (step_of s) o l m
  pub pulses : pulsed_at s ts x c ≡ pulsed s (step_of s) (clock_of x.drifts x.phases c) o l m

ordered : (xs : List Stamp) → 2 ≤ length xs → earliest xs ≼ latest xs
ordered [] i = let never : ⊥ = omega arith in absurd never
ordered (x ∷ xs) i = earliest_≼_latest x xs

-- a tile of an accepted row
module _ {s : Settings} {ts : List ℕ} {x : Call} (r : Accepted s ts x) (c : ℕ) (i : c < s.width) where
  pub stampable : {k p : ℕ} → Sender s.width c k p → Stampable (clock_of x.drifts x.phases c) ts x.marks x.links k p
  unfolding link mark_bytes
  stampable {k} {p} e =
      let w = s.width in
      let l = limits s r.settings in
      subst (λ (q : ℕ). Stampable (clock_of x.drifts x.phases c) ts x.marks x.links k q) e.at
      record {
        clock_ok = admitted r c i;
        in_row = omega (arith, e.in_row, r.lengths.before);
        in_marks = omega (arith, e.in_row, r.lengths.marks);
        in_links = omega (arith, e.in_links, e.at, r.lengths.links);
        delay = λ m. (r.time k e.in_row m, omega (arith, r.delay c k i e.in_row e.heard_by m, l.delay));
        faulty = λ m n. r.arrival c k i e.in_row e.heard_by m n;
      }

  -- the stamp as the code has it
  pub code : {k p : ℕ} → Sender s.width c k p →
      stamped (clock_of x.drifts x.phases c) ts x.marks x.links k p ≡ code_of (stamp s.width ts x c k)
  unfolding stamped stamp arrival link
  code {k} {p} e = ap (stamped (clock_of x.drifts x.phases c) ts x.marks x.links k) (sym e.at)

  abbrev heard_at : ℕ → Stamp
  heard_at k = stamp s.width ts x c k

  abbrev beside_it : List Stamp
  beside_it = map (stamp s.width ts x c) (neighbours s.width c)

  small : latest_stamp ≤ 4398046511104
  small = omega arith

  pulsing : {o l m : ℕ} → o ≡ code_of (heard_at c) → l ≡ code_of (earliest beside_it) → m ≡ code_of (latest beside_it) → Pulsing s ts x c o l m
  unfolding pulse tile_pulse letter_at tile_letter
  pulsing {o} {l} {m} a b d =
      let k = limits s r.settings in
      let t = tile_of r c i (stamp s.width ts x c) in
      let own_by = stamp_by r c i c i (own s.width c c refl) in
      let all_by = neighbours_by r c i in
      record {
        ready = rw (a, b, d) (forwardable small k (enough (heard_at c) beside_it t.two (few_silent r c i)) (ordered beside_it t.two) own_by (earliest_by all_by) (latest_by all_by));
        pulses = rw (a, b, d, code_stamp small own_by, code_stamp small (earliest_by all_by), code_stamp small (latest_by all_by), closed (heard_at c) t);
      }

  -- a pulse is no later than a number of 64 bits can be
  pub pulse_small : pulse s ts x c ≤ silence
  unfolding pulse tile_pulse
  pulse_small =
      let k = limits s r.settings in
      let t = tile_of r c i (stamp s.width ts x c) in
      let all_by = neighbours_by r c i in
      let v = tile_P s (heard_at c) beside_it + s.hold in
      let small : tile_P s (heard_at c) beside_it ≤ latest_stamp + 3 * s.unit =
      rw (closed (heard_at c) t)
      (P_most k.unit.0 (step_of s) (enough (heard_at c) beside_it t.two (few_silent r c i)) (ordered beside_it t.two)
      (stamp_by r c i c i (own s.width c c refl)) (earliest_by all_by) (latest_by all_by)) in
      omega (arith, pulse_latest (get_or x.drifts c 0) (get_or x.phases c 0) 0 v v (omega (arith, k.hold, r.in_phase c i)) (omega arith), small, k.hold, k.unit)

  -- with two neighbours and with three
  pub pulse_two : {a b o p q : ℕ} → neighbours s.width c ≡ a ∷ b ∷ [] →
      o ≡ code_of (stamp s.width ts x c c) → p ≡ code_of (stamp s.width ts x c a) → q ≡ code_of (stamp s.width ts x c b) →
      Pulsing s ts x c o (min p q) (max p q)
  pulse_two {a} {b} {o} {p} {q} n is_o is_p is_q = go (rw n at (neighbours_by r c i))
    where
      go : All (By latest_stamp) (heard_at a ∷ heard_at b ∷ []) → Pulsing s ts x c o (min p q) (max p q)
      go (more l (more m none)) = pulsing is_o (rw (is_p, is_q, n) (earliest_two small l m)) (rw (is_p, is_q, n) (latest_two small l m))

  pub pulse_three : {a b d o p q v : ℕ} → neighbours s.width c ≡ a ∷ b ∷ d ∷ [] →
      o ≡ code_of (stamp s.width ts x c c) → p ≡ code_of (stamp s.width ts x c a) → q ≡ code_of (stamp s.width ts x c b) → v ≡ code_of (stamp s.width ts x c d) →
      Pulsing s ts x c o (min (min p q) v) (max (max p q) v)
  pulse_three {a} {b} {d} {o} {p} {q} {v} n is_o is_p is_q is_v = go (rw n at (neighbours_by r c i))
    where
      go : All (By latest_stamp) (heard_at a ∷ heard_at b ∷ heard_at d ∷ []) → Pulsing s ts x c o (min (min p q) v) (max (max p q) v)
      go (more l (more m (more k none))) =
          pulsing is_o (rw (is_p, is_q, is_v, n) (earliest_three small l m k)) (rw (is_p, is_q, is_v, n) (latest_three small l m k))

-- with the step as it was handed on
module _ {s : Settings} {ts : List ℕ} {x : Call} {c o l m : ℕ} (g : Pulsing s ts x c o l m) {j : ℕ} (e : j ≡ step_of s) where
  pub ready_at : Forwardable s.unit j o l m
  ready_at = rw e g.ready

  pub pulses_at : {v : Pulsed} → v ≡ pulsed s j (clock_of x.drifts x.phases c) o l m → v ≡ pulsed_at s ts x c
  pulses_at h = h ∙ rw e (sym g.pulses)
