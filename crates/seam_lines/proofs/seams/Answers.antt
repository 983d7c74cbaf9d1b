-- `seams` meets its contract: five runs write the lines, in order. Assumes nothing.
use mathlib.Core.Path.{◌≡◌, refl, ◌∙◌, ap}
use mathlib.Core.List.{List, ◌++◌}
use Prim.Native.Nat.{ℕ, ◌+◌, ◌-◌, ◌*◌, ◌≤◌}
use lib.ListN.{length}
use native.Mathlib.Omega.{arith}
use Rattle.columns.specs.Marks.{mark_bytes}
use Rattle.columns.specs.Wrote.{Wrote}
use Rattle.tables.specs.Word.{bytes}
use Rattle.seam_lines.specs.Seam.{run_after}
use Rattle.columns.proofs.Laws.Wrote.{wrote_then, wrote_as}
use Rattle.tables.proofs.Laws.Word.{bytes_length}
use Rattle.tile_lines.proofs.Laws.Code.{coded_all}
use Rattle.seam_lines.proofs.Laws.Room.{Row, first_fits, third_fits, fourth_fits, fifth_fits, first_left, third_left, fourth_left}
use Rattle.seam_lines.proofs.Laws.Runs.{five_runs}
use Rattle.seam_lines.proofs.seams.Goals as goal

row : (long word : ℕ) (ts : List ℕ) {w : ℕ} → long ≤ 7 → 6 ≤ w → w ≤ 256 → length ts ≡ w → Row (bytes long word) ts w
row long word ts i wide most same = record { short = omega (arith, bytes_length long word, i); wide = wide; most = most; same = same }

marks : (ms ts : List ℕ) {w : ℕ} → length ms ≡ mark_bytes w → length ts ≡ w → length ms ≡ mark_bytes (length ts)
marks ms ts e same = rw same e

-- the room that the first two leave for those after them
module _ {h ts : List ℕ} {w : ℕ} (k : Row h ts w) (ms : List ℕ) {o p : List ℕ} {at end : ℕ} where
  left_1 : at + 64 * (w + 1) ≤ length o → Wrote o at (run_after h ms ts 1 1 (2 - 1)) p end → end + 49 * w ≤ length p
  left_1 i wrote = first_left k ms _ _ _ w refl refl (omega arith) wrote

  left_2 : at + 49 * w ≤ length o → Wrote o at (run_after h ms ts 2 2 (3 - 2)) p end → end + 49 * (w - 1) ≤ length p
  left_2 i wrote = first_left k ms _ _ _ (w - 1) refl refl (omega (arith, k.wide)) wrote

pub run-a-requires : goal.run-a-requires
run-a-requires c = let a = c.args in
    let p = c.requires.tables in
    let q = c.requires.width_in_bounds in
    let k = row c.of-head.result.length c.of-head.result.word a.times.now c.of-head.ensures.1 p.1 p.2 p.5 in
    record {
      tables = (p.0, c.of-head.ensures.1, omega (arith, p.2, p.5), marks a.marks.now a.times.now p.4 p.5);
      times_in_bounds = (omega (arith, p.5, q.0), coded_all a.codes.now a.marks.now a.times.now a.width p.5 q.1);
      gap_le_from = first_fits k _ _ _ _ _ refl refl refl (omega (arith, q.2));
    }

pub run-b-requires : goal.run-b-requires
run-b-requires c = let a = c.args in
    let p = c.requires.tables in
    let q = c.requires.width_in_bounds in
    let k = row c.of-head.result.length c.of-head.result.word a.times.now c.of-head.ensures.1 p.1 p.2 p.5 in
    record {
      tables = (p.0, c.of-head.ensures.1, omega (arith, p.2, p.5), marks a.marks.now a.times.now p.4 p.5);
      times_in_bounds = (omega (arith, p.5, q.0), coded_all a.codes.now a.marks.now a.times.now a.width p.5 q.1);
      gap_le_from = first_fits k _ _ _ _ _ refl refl refl (left_1 k a.marks.now q.2 c.run-a.ensures);
    }

pub run-c-requires : goal.run-c-requires
run-c-requires c = let a = c.args in
    let p = c.requires.tables in
    let q = c.requires.width_in_bounds in
    let k = row c.of-head.result.length c.of-head.result.word a.times.now c.of-head.ensures.1 p.1 p.2 p.5 in
    record {
      tables = (p.0, c.of-head.ensures.1, omega (arith, p.2, p.5), marks a.marks.now a.times.now p.4 p.5);
      times_in_bounds = (omega (arith, p.5, q.0), coded_all a.codes.now a.marks.now a.times.now a.width p.5 q.1);
      gap_le_from = third_fits k _ _ (left_2 k a.marks.now (left_1 k a.marks.now q.2 c.run-a.ensures) c.run-b.ensures);
    }

pub run-d-requires : goal.run-d-requires
run-d-requires c = let a = c.args in
    let p = c.requires.tables in
    let q = c.requires.width_in_bounds in
    let k = row c.of-head.result.length c.of-head.result.word a.times.now c.of-head.ensures.1 p.1 p.2 p.5 in
    let two = left_2 k a.marks.now (left_1 k a.marks.now q.2 c.run-a.ensures) c.run-b.ensures in
    record {
      tables = (p.0, c.of-head.ensures.1, omega (arith, p.2, p.5), marks a.marks.now a.times.now p.4 p.5);
      times_in_bounds = (omega (arith, p.5, q.0), coded_all a.codes.now a.marks.now a.times.now a.width p.5 q.1);
      gap_le_from = fourth_fits k _ _ (third_left k a.marks.now two c.run-c.ensures);
    }

pub run-requires : goal.run-requires
run-requires c = let a = c.args in
    let p = c.requires.tables in
    let q = c.requires.width_in_bounds in
    let k = row c.of-head.result.length c.of-head.result.word a.times.now c.of-head.ensures.1 p.1 p.2 p.5 in
    let two = left_2 k a.marks.now (left_1 k a.marks.now q.2 c.run-a.ensures) c.run-b.ensures in
    let three = third_left k a.marks.now two c.run-c.ensures in
    record {
      tables = (p.0, c.of-head.ensures.1, omega (arith, p.2, p.5), marks a.marks.now a.times.now p.4 p.5);
      times_in_bounds = (omega (arith, p.5, q.0), coded_all a.codes.now a.marks.now a.times.now a.width p.5 q.1);
      gap_le_from = fifth_fits k _ _ (fourth_left k a.marks.now three c.run-d.ensures);
    }

pub returns : goal.returns
returns c = let a = c.args in
    let ms = a.marks.now in
    let ts = a.times.now in
    let w = a.width in
    let runs =
    wrote_then (wrote_then (wrote_then (wrote_then c.run-a.ensures c.run-b.ensures) c.run-c.ensures) c.run-d.ensures) c.run.ensures in
    let heads =
    ap
    (λ (h : List ℕ). run_after h ms ts 1 1 (2 - 1) ++ run_after h ms ts 2 2 (3 - 2) ++ run_after h ms ts 1 2 (w - 1 - 2)
    ++ run_after h ms ts 2 (w - 1) (w - (w - 1)) ++ run_after h ms ts 1 (w - 1) (w - (w - 1)))
    c.of-head.ensures.0 in
    wrote_as runs (heads ∙ five_runs w a.row ms ts c.requires.tables.1)
