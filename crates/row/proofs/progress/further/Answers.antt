-- `progress::further` meets its contract. Assumes nothing.
use mathlib.Core.Path.{◌≡◌, sym, ◌∙◌, ap, subst}
use Prim.Native.Nat.{ℕ, ◌+◌, ◌≤◌, ◌<◌}
use lib.ListN.{length}
use native.Mathlib.Omega.{arith}
use Rattle.settings.proofs.Laws.Settings.{Limits, limits}
use Rattle.admission.specs.Call.{Call, call}
use Rattle.columns.specs.Marks.{mark_bytes}
use Rattle.columns.specs.Plain.{Plain}
use Rattle.row.specs.declared.progress.Progress.{Progress}
use Rattle.admission.proofs.Laws.Accepted.{Accepted, accepted}
use Rattle.pulse.proofs.Laws.Plain.{plain_tile, plain_pulse}
use Rattle.row.proofs.Laws.Progress.{tile_more}
use Rattle.row.proofs.progress.further.Goals.{Start}
use Rattle.row.proofs.progress.further.Goals as goal

-- what was lent
abbrev lent : Start → Call
lent s = call s.args.marks.now s.args.drifts.now s.args.phases.now s.args.links.now s.args.settings.width s.args.settings.width

ok : (s : Start) → Accepted s.args.settings s.args.before.now (lent s)
ok s = accepted s.args.settings s.args.before.now (lent s) s.requires.width_value.0

bounds : (s : Start) → Limits s.args.settings
bounds s = limits s.args.settings (ok s).settings

record Sizes (s : Start) : Type 0 where
  pub here : s.args.done.next < s.args.settings.width
  pub most : s.args.settings.width ≤ 256
  pub times : length s.args.times.now ≡ s.args.settings.width
  pub letters : length s.args.letters.now ≡ s.args.settings.width
  pub before : length s.args.before.now ≡ s.args.settings.width
  pub drifts : length s.args.drifts.now ≡ s.args.settings.width
  pub phases : length s.args.phases.now ≡ s.args.settings.width
  pub marks : length s.args.marks.now ≡ mark_bytes s.args.settings.width

sizes : (s : Start) → Sizes s
unfolding call
sizes s = record {
  here = s.requires.width_value.4;
  most = (bounds s).width.1;
  times = s.requires.width_value.2;
  letters = s.requires.width_value.3;
  before = (ok s).lengths.before;
  drifts = (ok s).lengths.drifts;
  phases = (ok s).lengths.phases;
  marks = (ok s).lengths.marks;
}

-- a plain stretch, and a column of it
module _ (s : Start) {k : ℕ} (plain : 0 < k → Plain (length s.args.before.now) s.args.marks.now s.args.done.next k) (some : k ≡ 0 → ⊥) where
  stretch : Plain s.args.settings.width s.args.marks.now s.args.done.next k
  stretch = subst (λ (w : ℕ). Plain w s.args.marks.now s.args.done.next k) (sizes s).before (plain (omega (arith, some)))

  in_row : (c : ℕ) → c < s.args.done.next + k → c + 3 ≤ s.args.settings.width
  in_row c to = omega (arith, to, stretch.short)

pub plain-count-requires : goal.plain-count-requires
plain-count-requires c = let z = sizes (goal.at.plain-count-requires c).Start in
    (omega (arith, z.here, z.before), omega (arith, z.most, z.before), z.marks ∙ ap mark_bytes (sym z.before))

-- one tile
pub put-requires : goal.put-requires
put-requires c = let z = sizes (goal.at.put-requires c).Start in (omega (arith, z.here, z.times), omega (arith, z.most, z.times), omega (arith, z.times, z.letters))

pub returns-then-count-eq0 : goal.returns-then-count-eq0
returns-then-count-eq0 c = let z = sizes (goal.at.returns-then-count-eq0 c).Start in
    record {
      filled = tile_more c.requires.so_far (omega (arith, z.here, z.times)) (omega (arith, z.here, z.letters)) z.here c.pulse-pulsed.ensures c.put.ensures.row
          c.put.ensures.letters c.put.ensures.ends;
      onward = omega (arith, ap (λ (d : Progress). d.next) c.put.ensures.ends);
    }

pub clock-clock-requires : goal.clock-clock-requires
clock-clock-requires c = let s = (goal.at.clock-clock-requires c).Start in
    let i = in_row s c.plain-count.ensures c.if-count-eq0.false c.loop-c.c (omega arith) in
    (omega (arith, i, (sizes s).drifts), omega (arith, i, (sizes s).phases))

pub correct-pulsed-requires : goal.correct-pulsed-requires
unfolding call
correct-pulsed-requires c = let s = (goal.at.correct-pulsed-requires c).Start in
    let p = stretch s c.plain-count.ensures c.if-count-eq0.false in
    rw c.clock-clock.ensures (plain_tile (ok s) p c.loop-c.c (omega arith) (omega arith) s.args.step s.requires.width_value.1)

pub put-so_far-requires : goal.put-so_far-requires
put-so_far-requires c = let s = (goal.at.put-so_far-requires c).Start in
    let z = sizes s in
    let i = in_row s c.plain-count.ensures c.if-count-eq0.false c.loop-c.c (omega arith) in
    let f = c.loop-c.invariant.0 in (
      omega (arith, i, z.times, f.pulses.as_long),
      omega (arith, z.most, z.times, f.pulses.as_long),
      omega (arith, z.times, z.letters, f.pulses.as_long, f.letters.as_long),
    )

pub loop-c-preserved : goal.loop-c-preserved
unfolding call
loop-c-preserved c = let s = (goal.at.loop-c-preserved c).Start in
    let z = sizes s in
    let p = stretch s c.plain-count.ensures c.if-count-eq0.false in
    let k = c.loop-c.c in
    let i = in_row s c.plain-count.ensures c.if-count-eq0.false k (omega arith) in
    let pulsed = plain_pulse (ok s) p k (omega arith) (omega arith) s.args.step s.requires.width_value.1 (rw c.clock-clock.ensures at c.correct-pulsed.ensures) in (
      tile_more c.loop-c.invariant.0 (omega (arith, i, z.times)) (omega (arith, i, z.letters)) (omega (arith, i)) (rw c.loop-c.invariant.1 pulsed)
          c.put-so_far.ensures.row c.put-so_far.ensures.letters c.put-so_far.ensures.ends,
      omega (arith, ap (λ (d : Progress). d.next) c.put-so_far.ensures.ends, c.loop-c.invariant.1),
    )
