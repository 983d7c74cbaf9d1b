-- `between` meets its contract. Assumes nothing.
use Prim.Native.Nat.{ℕ, ◌/◌, ◌<◌}
use lib.ListN.{length}
use native.Mathlib.Omega.{arith}
use Rattle.columns.specs.Marks.{mark_bytes}
use Rattle.places.specs.Seams.{row_seam, between}
use Rattle.places.proofs.seams.between.Goals.{Start}
use Rattle.places.proofs.seams.between.Goals as goal

in_marks : (s : Start) {k : ℕ} → k < length s.args.times.now → k / 8 < length s.args.marks.now
unfolding mark_bytes
in_marks s i = omega (arith, s.requires.0)

pub marked-left_faulty-requires : goal.marked-left_faulty-requires
marked-left_faulty-requires c = in_marks (goal.at.marked-left_faulty-requires c).Start c.requires.1

pub marked-right_faulty-requires : goal.marked-right_faulty-requires
marked-right_faulty-requires c = in_marks (goal.at.marked-right_faulty-requires c).Start c.requires.2

pub returns : goal.returns
unfolding row_seam between
returns c = rw (c.join.ensures, c.marked-left_faulty.ensures, c.marked-right_faulty.ensures)
