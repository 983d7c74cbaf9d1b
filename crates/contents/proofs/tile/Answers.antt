-- `tile` meets its contract: the three or four places written hold the tile's link values. Assumes nothing.
use mathlib.Core.Path.{◌≡◌, sym, ◌∙◌}
use mathlib.Core.Bool.{true}
use lib.ListN.{length-set}
use native.Mathlib.Omega.{arith}
use Rattle.columns.specs.Window.{four_senders}
use Rattle.contents.proofs.Laws.Contents.{three_links, four_links}
use Rattle.contents.proofs.Laws.Places.{three_places, four_places}
use borrow.Author.Rules.{rules}
use Rattle.contents.proofs.tile.Goals.{Then-four_senders}
use Rattle.contents.proofs.tile.Goals as goal

-- a tile with a fourth link
fourth : (c : Then-four_senders) → four_senders c.args.width c.args.c ≡ true
fourth c = sym c.four_senders.ensures ∙ c.if-four_senders.true

pub bounds-links-n-2 : goal.bounds-links-n-2
bounds-links-n-2 c = simp length-set (search rules)

pub bounds-links-n-3 : goal.bounds-links-n-3
bounds-links-n-3 c = simp length-set (search rules)

pub eight-requires-then-four_senders : goal.eight-requires-then-four_senders
eight-requires-then-four_senders c = omega (arith, (c.requires.n_in_bounds_2 (fourth c)).1)

pub bounds-links-n-then-four_senders : goal.bounds-links-n-then-four_senders
bounds-links-n-then-four_senders c = simp length-set (omega (arith, (c.requires.n_in_bounds_2 (fourth (goal.at.bounds-links-n-then-four_senders c).Then-four_senders)).0))

pub returns-then-four_senders : goal.returns-then-four_senders
returns-then-four_senders c = let a = c.args in
    let f = fourth (goal.at.returns-then-four_senders c).Then-four_senders in
    let e = c.requires.le_width in
    rw (four_links a.width e.0 a.c e.2 a.body.now a.at e.4 f, ← c.eight-then-four_senders.ensures, ← c.eight-3.ensures, ← c.eight-2.ensures, ← c.eight.ensures)
    (four_places a.links.now a.n _ _ _ _ (omega (arith, (c.requires.n_in_bounds_2 f).0)))

pub returns : goal.returns
returns c = let a = c.args in
    let f = sym c.four_senders.ensures ∙ c.if-four_senders.false in
    let e = c.requires.le_width in
    rw (three_links a.width e.0 a.c e.2 a.body.now a.at e.4 f, ← c.eight-3.ensures, ← c.eight-2.ensures, ← c.eight.ensures)
    (three_places a.links.now a.n _ _ _ (omega arith))
