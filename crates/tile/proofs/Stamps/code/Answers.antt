-- `Stamps::code` meets its contract: a stamp that is not late is a natural number. Assumes nothing.
use mathlib.Core.Path.{◌≡◌}
use lib.IntN.{pos}
use lib.ListN.{get_or}
use borrow.Author.Rules.{rules}
use mir.Syntax.{w64}
use mir.Val.{to_z, of_z}
use mir.ValLaws.{to_z-of_z}
use native.Mathlib.Omega.{arith}
use Rattle.rule.specs.Signed.{natural}
use Rattle.rule.specs.Stamp.{code_of}
use Rattle.tile.specs.Tile.{late_at, silent_at, reading_at, stamp_at, stamp_from}
use Rattle.tile.proofs.Laws.{Reading, on_time}
use Rattle.tile.proofs.Stamps.code.Goals.{Else-self-place}
use Rattle.tile.proofs.Stamps.code.Goals as goal

-- the stamp read is a natural number
reading : (c : Else-self-place) → Reading (get_or c.args.self.at c.args.place (pos 0))
unfolding late_at silent_at reading_at
reading c = on_time (get_or c.args.self.at c.args.place (pos 0)) (rw c.if-self-place.false at c.requires.1)

pub returns-then-self-place : goal.returns-then-self-place
unfolding code_of stamp_at stamp_from silent_at
returns-then-self-place c = rw c.if-self-place.true

-- and it is the one that stands there
pub overflow_cast-result : goal.overflow_cast-result
overflow_cast-result c =
    let r = reading (goal.at.overflow_cast-result c).Else-self-place in
    let read : to_z w64 (of_z w64 (get_or c.args.self.at c.args.place (pos 0))) ≡ get_or c.args.self.at c.args.place (pos 0) = to_z-of_z w64 (get_or c.args.self.at c.args.place (pos 0)) (search rules) in
    rw (read, r.is) (tt, omega (arith, r.small))

pub returns : goal.returns
unfolding code_of stamp_at stamp_from silent_at reading_at natural
returns c =
    let r = reading (goal.at.returns c).Else-self-place in
    let read : to_z w64 (of_z w64 (get_or c.args.self.at c.args.place (pos 0))) ≡ get_or c.args.self.at c.args.place (pos 0) = to_z-of_z w64 (get_or c.args.self.at c.args.place (pos 0)) (search rules) in
    rw (read, c.if-self-place.false, r.is)
