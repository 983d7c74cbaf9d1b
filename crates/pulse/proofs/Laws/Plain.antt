-- The tiles of a plain stretch of an accepted row: their predecessors are correct, and their pulse and letter are those of three stamps that
-- are heard. Assumes nothing.
use mathlib.Core.Path.{◌≡◌, sym, ◌∙◌}
use mathlib.Core.Bool.{false}
use mathlib.Core.List.{List}
use Prim.Native.Nat.{ℕ, ◌+◌, ◌-◌, ◌*◌, ◌≤◌, ◌<◌, min, max}
use native.Mathlib.Omega.{arith}
use Rattle.settings.specs.Settings.{step_of}
use Rattle.rule.specs.Stamp.{code_of}
use Rattle.rule.specs.declared.clock.Clock.{Clock}
use Rattle.settings.specs.declared.Settings.{Settings}
use Rattle.settings.proofs.Laws.Settings.{Limits, limits}
use Rattle.admission.specs.Call.{Call}
use Rattle.columns.specs.Marks.{marked}
use Rattle.columns.specs.Plain.{Plain}
use Rattle.pulse.specs.Pulse.{clock_of, stamp, pulsed_at}
use Rattle.pulse.specs.Plain.{Receivable, received, from_left, from_own, from_right, Correct, correct_pulse}
use Rattle.pulse.specs.declared.Pulsed.{Pulsed}
use Rattle.columns.proofs.Laws.Columns.{links_inner, neighbours_inner}
use Rattle.admission.proofs.Laws.Accepted.{Accepted}
use Rattle.columns.specs.Columns.{links_before}
use Rattle.columns.specs.Window.{first_sender}
use Rattle.columns.proofs.Laws.Window.{sender_inner}
use Rattle.pulse.proofs.Laws.Senders.{Sender, sender}
use Rattle.pulse.proofs.Laws.Stampable.{stamped_correct, stampable, code, Pulsing, pulse_two, ready_at, pulses_at}

module _ {s : Settings} {ts : List ℕ} {x : Call} (r : Accepted s ts x) {c count : ℕ} (p : Plain s.width x.marks c count) (k : ℕ) (i : c ≤ k) (j : k < c + count) where
  abbrev clock : Clock
  clock = clock_of x.drifts x.phases k

  bounds : Limits s
  bounds = limits s r.settings

  -- away from the ends
  record Away : Type 0 where
    pub past : 3 ≤ k
    pub short : k + 3 < s.width

  away : Away
  away = record { past = omega (arith, p.past); short = omega (arith, p.short) }

  here : k < s.width
  here = omega (arith, away.short)

  senders : Sender s.width k (k - 1) (3 * k + 1) × Sender s.width k k (3 * k + 1 + 1) × Sender s.width k (k + 1) (3 * k + 1 + 2)
  senders =
      let a = away in
      let from : first_sender s.width k ≡ k - 1 = sender_inner s.width k (omega arith) (omega arith) in
      let at : links_before s.width k ≡ 3 * k + 1 = links_inner s.width bounds.width.0 k (omega arith) (omega arith) in
      let wide = bounds.width.0 in (
        sender s.width k wide here 0 (omega arith) (omega arith) (omega arith),
        sender s.width k wide here 1 (omega arith) (omega arith) (omega arith),
        sender s.width k wide here 2 (omega arith) (omega arith) (omega arith),
      )

  receivable : {n q : ℕ} → Sender s.width k n q → marked x.marks n ≡ false → Receivable clock ts x.links n q
  receivable e m =
      let t = stampable r k here e in
      record { clock_ok = t.clock_ok; in_row = t.in_row; in_links = t.in_links; time = (t.delay m).0; delay = (t.delay m).1 }

  heard : {n q : ℕ} → Sender s.width k n q → marked x.marks n ≡ false → received clock ts x.links n q ≡ code_of (stamp s.width ts x k n)
  heard {n} {q} e m = sym (stamped_correct clock ts x.marks x.links n q m) ∙ code r k here e

  correct_left : marked x.marks (k - 1) ≡ false
  correct_left = p.correct (k - 1) (omega (arith, away.past)) (omega arith)

  correct_own : marked x.marks k ≡ false
  correct_own = p.correct k (omega arith) (omega arith)

  correct_right : marked x.marks (k + 1) ≡ false
  correct_right = p.correct (k + 1) (omega arith) (omega arith)

  pulsing : (step : ℕ) →
      let ls = x.links in
      Pulsing s ts x k (from_own s step clock ts ls k)
      (min (from_left s step clock ts ls k) (from_right s step clock ts ls k)) (max (from_left s step clock ts ls k) (from_right s step clock ts ls k))
  pulsing step =
      let a = away in
      let e = senders in
      pulse_two r k here (neighbours_inner s.width bounds.width.0 k (omega arith) (omega arith) (omega arith) (omega arith))
      (heard e.1 correct_own) (heard e.0 correct_left) (heard e.2 correct_right)

  module _ (step : ℕ) (e : step ≡ step_of s) where
    pub plain_tile : Correct s step clock ts x.links k
    plain_tile =
        let a = away in
        let f = senders in
        record {
          later = omega arith;
          narrow = omega (arith, bounds.width);
          left = receivable f.0 correct_left;
          own = receivable f.1 correct_own;
          right = receivable f.2 correct_right;
          ready = ready_at (pulsing step) e;
          held = bounds.hold;
        }

    pub plain_pulse : {v : Pulsed} → v ≡ correct_pulse s step clock ts x.links k → v ≡ pulsed_at s ts x k
    unfolding correct_pulse
    plain_pulse h = pulses_at (pulsing step) e h
