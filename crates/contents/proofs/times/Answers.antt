-- `times` meets its contract. Assumes nothing.
use mathlib.Core.Path.{◌≡◌, refl, ◌∙◌, ap}
use Prim.Native.Nat.{ℕ, ◌*◌}
use lib.ListN.{length}
use native.Mathlib.Omega.{arith}
use Rattle.columns.specs.Columns.{table_from}
use Rattle.columns.proofs.Laws.Wrote.{wrote_more, wrote_within, wrote_whole, table_none, table_more}
use Rattle.fields.specs.Bytes.{big_endian}
use Rattle.contents.specs.Contents.{times_in}
use Rattle.contents.proofs.times.Goals as goal

pub loop-c-init : goal.loop-c-init
loop-c-init c = table_none _ _ 0

pub loop-c-preserved : goal.loop-c-preserved
loop-c-preserved c = wrote_more c.loop-c.invariant _ (omega (arith, c.loop-c.invariant.as_long)) (table_more _ c.loop-c.c c.eight.ensures) refl

pub shape_of-times : goal.shape_of-times
shape_of-times c = c.loop-c.invariant.as_long

pub returns : goal.returns
unfolding times_in
returns c = let i = c.loop-c.invariant in
    let end : c.loop-c.c ≡ length c.args.times.now = omega (arith, i.as_long, wrote_within i (omega arith)) in
    wrote_whole i end ∙ ap (λ (n : ℕ). table_from n 0 (λ k. big_endian 8 c.args.body.now (8 * k))) end
