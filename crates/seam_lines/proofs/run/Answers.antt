-- `run` meets its contract. Assumes nothing.
use mathlib.Core.Path.{◌≡◌, ap}
use Prim.Native.Nat.{ℕ, ◌-◌}
use native.Mathlib.Omega.{arith}
use Rattle.tables.specs.Word.{bytes}
use Rattle.seam_lines.specs.Seam.{run_after}
use Rattle.columns.proofs.Laws.Wrote.{wrote_none, wrote_then, wrote_as}
use Rattle.tables.proofs.Laws.Word.{bytes_length}
use Rattle.seam_lines.proofs.Laws.Runs.{run_none, run_more, run_length}
use Rattle.seam_lines.proofs.run.Goals as goal

pub loop-b-init : goal.loop-b-init
loop-b-init c = let a = c.args in
    wrote_as (wrote_none a.out.now a.at) (run_none (bytes a.head.length a.head.word) a.marks.now a.times.now a.gap a.from)

pub seam-end-requires : goal.seam-end-requires
seam-end-requires c = let a = c.args in
    let b = c.loop-b.b in
    let room = c.loop-b.invariant in
    let short = bytes_length a.head.length a.head.word in
    let long = run_length (bytes a.head.length a.head.word) a.marks.now a.times.now (omega (arith, c.requires.tables.1)) a.gap a.from (b - a.from) (omega (arith, c.loop-b-test.true, c.requires)) in record {
      tables = (c.requires.tables.0, c.requires.tables.1, omega arith, omega arith, c.requires.tables.2);
      marks_len = (c.requires.tables.3, c.requires.times_in_bounds.0, c.requires.times_in_bounds.1, omega (arith, long, room.goes, room.as_long));
    }

pub loop-b-preserved : goal.loop-b-preserved
loop-b-preserved c = let a = c.args in
    let b = c.loop-b.b in
    let more = run_more (bytes a.head.length a.head.word) a.marks.now a.times.now a.gap a.from b (omega arith) in
    wrote_as (wrote_then c.loop-b.invariant c.seam-end.ensures) more

pub returns : goal.returns
returns c = let a = c.args in
    let done : c.loop-b.b ≡ a.to = omega arith in
    wrote_as c.loop-b.invariant (ap (λ (b : ℕ). run_after (bytes a.head.length a.head.word) a.marks.now a.times.now a.gap a.from (b - a.from)) done)
