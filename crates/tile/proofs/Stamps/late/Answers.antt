-- `Stamps::late` meets its contract: its tests are the definition's. Assumes nothing.
use mathlib.Core.Path.{◌≡◌}
use lib.IntN.{pos}
use lib.ListN.{get_or}
use borrow.Author.Rules.{rules}
use mir.Syntax.{w64}
use mir.Val.{to_z, of_z}
use mir.ValLaws.{to_z-of_z}
use Rattle.tile.specs.Tile.{late_at, late_from, silent_at, reading_at}
use Rattle.tile.proofs.Stamps.late.Goals as goal

pub returns-then-at-lt0 : goal.returns-then-at-lt0
unfolding late_at late_from silent_at reading_at
returns-then-at-lt0 c =
    let read : to_z w64 (of_z w64 (get_or c.args.self.at c.args.place (pos 0))) ≡ get_or c.args.self.at c.args.place (pos 0) = to_z-of_z w64 (get_or c.args.self.at c.args.place (pos 0)) (search rules) in
    rw (read, c.if-not-self-place.true, rw read at c.if-at-lt0.true)

pub returns-else-at-lt0 : goal.returns-else-at-lt0
unfolding late_at late_from silent_at reading_at
returns-else-at-lt0 c =
    let read : to_z w64 (of_z w64 (get_or c.args.self.at c.args.place (pos 0))) ≡ get_or c.args.self.at c.args.place (pos 0) = to_z-of_z w64 (get_or c.args.self.at c.args.place (pos 0)) (search rules) in
    rw (read, c.if-not-self-place.true, rw read at c.if-at-lt0.false)

pub returns-else-not-self-place : goal.returns-else-not-self-place
unfolding late_at late_from silent_at
returns-else-not-self-place c = rw c.if-not-self-place.false
