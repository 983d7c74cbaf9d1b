-- `tiles` meets its contract. Assumes nothing.
use mathlib.Core.Path.{◌≡◌, refl, sym, ◌∙◌, ap}
use mathlib.Core.List.{List}
use Prim.Native.Nat.{ℕ, ◌+◌, ◌*◌, ◌≤◌}
use lib.ListN.{length}
use native.Mathlib.Numerals.{add-one}
use native.Mathlib.Omega.{arith}
use Rattle.columns.specs.Columns.{predecessors, links_before, table_from}
use Rattle.fields.specs.Bytes.{big_endian}
use Rattle.columns.specs.Window.{LinksCounted}
use Rattle.columns.specs.Wrote.{Wrote}
use Rattle.columns.proofs.Laws.Wrote.{wrote_none, wrote_more, wrote_then, wrote_within, wrote_whole, table_none, table_more}
use Rattle.columns.proofs.Promises.{links_counted}
use Rattle.contents.specs.Contents.{tile_place, drifts_in, phases_in, links_below, links_in}
use Rattle.contents.proofs.Laws.Contents.{links_below_length, links_end, tile_end, three_at_least, with_fourth}
use Rattle.contents.proofs.tiles.Goals.{In-loop-c}
use Rattle.contents.proofs.tiles.Goals as goal

place : (w : ℕ) (body : List ℕ) (c : ℕ) {links₀ links : List ℕ} {n : ℕ} → Wrote links₀ 0 (links_below w body c) links n → n ≡ links_before w c
place w body c r = omega (arith, r.goes, links_below_length w body c)

here : (c : In-loop-c) → c.loop-c.n ≡ links_before c.args.width c.loop-c.c
here c = place c.args.width c.args.body.now c.loop-c.c c.loop-c.invariant.link

counted : (w : ℕ) → 6 ≤ w → links_before w w ≡ 3 * w + 2
unfolding LinksCounted
counted w wide = links_counted w wide

in_wall : (c : In-loop-c) →
    let l = c.loop-c in
    (l.n + length (predecessors c.args.width l.c) ≤ 3 * c.args.width + 2)
    × (6 * l.c + 8 * l.n + 6 + 8 * length (predecessors c.args.width l.c) ≤ 30 * c.args.width + 16)
    × (3 ≤ length (predecessors c.args.width l.c))
unfolding tile_place
in_wall c = let l = c.loop-c in
    let wide = c.requires.le_width.0 in
    let i = c.loop-c-test.true in (
      omega (arith, here c, links_end c.args.width wide l.c i),
      omega (arith, here c, tile_end c.args.width wide l.c i),
      three_at_least c.args.width wide l.c i,
    )

pub loop-c-init : goal.loop-c-init
unfolding links_before links_below
loop-c-init c = record { drift = table_none _ _ 0; phase = table_none _ _ 0; link = wrote_none _ 0 }

pub overflow_mul-at : goal.overflow_mul-at
overflow_mul-at c = omega (arith, in_wall c)

pub overflow_mul-at-in-loop-c : goal.overflow_mul-at-in-loop-c
overflow_mul-at-in-loop-c c = omega (arith, in_wall c)

pub overflow_add-at : goal.overflow_add-at
overflow_add-at c = omega (arith, in_wall c)

pub two-requires : goal.two-requires
two-requires c = omega (arith, in_wall c)

pub offset_bounds-drifts-c : goal.offset_bounds-drifts-c
offset_bounds-drifts-c c = omega (arith, in_wall (goal.at.offset_bounds-drifts-c c).In-loop-c)

pub overflow_add-at-in-loop-c : goal.overflow_add-at-in-loop-c
overflow_add-at-in-loop-c c = omega (arith, in_wall (goal.at.overflow_add-at-in-loop-c c).In-loop-c)

pub four-requires : goal.four-requires
four-requires c = omega (arith, in_wall (goal.at.four-requires c).In-loop-c)

pub offset_bounds-phases-c : goal.offset_bounds-phases-c
offset_bounds-phases-c c = omega (arith, in_wall (goal.at.offset_bounds-phases-c c).In-loop-c)

pub overflow_add-at-in-loop-c-2 : goal.overflow_add-at-in-loop-c-2
overflow_add-at-in-loop-c-2 c = omega (arith, in_wall (goal.at.overflow_add-at-in-loop-c-2 c).In-loop-c)

pub tile-n-requires : goal.tile-n-requires
unfolding tile_place
tile-n-requires c = let l = (goal.at.tile-n-requires c).In-loop-c in
    let i = in_wall l in
    let e = here l in
    let long = c.loop-c.invariant.link.as_long in
    let wide = c.requires.le_width in
    let within = c.loop-c-test.true in
    record {
      le_width = (wide.0, wide.1, within, e, ap (λ (n : ℕ). 6 * c.loop-c.c + 8 * n + 6) e);
      n_in_bounds = (omega (arith, i, long), omega (arith, long), omega (arith, i), omega arith);
      n_in_bounds_2 =
          λ f. let four = with_fourth c.args.width wide.0 c.loop-c.c within f in (omega (arith, i, four, long), omega (arith, i, four));
    }

pub loop-c-preserved : goal.loop-c-preserved
unfolding links_before links_below tile_place
loop-c-preserved c = let e = c.loop-c.invariant in
    let a = c.args in
    let p = place a.width a.body.now c.loop-c.c e.link in
    let drift_at = c.two.ensures.number ∙ ap (λ (n : ℕ). big_endian 2 a.body.now (6 * c.loop-c.c + 8 * n)) p in
    let phase_at = c.four.ensures.number ∙ ap (λ (n : ℕ). big_endian 4 a.body.now (6 * c.loop-c.c + 8 * n + 2)) p in
    record {
      drift = wrote_more e.drift _ (omega (arith, c.loop-c-test.true, c.requires.drifts_len.0)) (table_more _ c.loop-c.c drift_at) refl;
      phase = wrote_more e.phase _ (omega (arith, c.loop-c-test.true, c.requires.drifts_len.1)) (table_more _ c.loop-c.c phase_at) refl;
      link = rw add-one (wrote_then e.link c.tile-n.ensures);
    }

pub shape_of-drifts : goal.shape_of-drifts
shape_of-drifts c = c.loop-c.invariant.drift.as_long

pub shape_of-phases : goal.shape_of-phases
shape_of-phases c = c.loop-c.invariant.phase.as_long

pub shape_of-links : goal.shape_of-links
shape_of-links c = c.loop-c.invariant.link.as_long

pub returns : goal.returns
unfolding drifts_in phases_in links_in
returns c = let e = c.loop-c.invariant in
    let w = c.args.width in
    let body = c.args.body.now in
    let end : c.loop-c.c ≡ w = omega (arith, c.loop-c-test.false, wrote_within e.drift (omega arith), c.requires.drifts_len.0) in
    let last : c.loop-c.n ≡ length c.args.links.now =
    omega (arith, place w body c.loop-c.c e.link, ap (links_before w) end, counted w c.requires.le_width.0, c.requires.drifts_len.2) in
    record {
      drifts = wrote_whole e.drift (end ∙ sym c.requires.drifts_len.0) ∙ ap (λ (n : ℕ). table_from n 0 (λ k. big_endian 2 body (tile_place w k))) end;
      phases = wrote_whole e.phase (end ∙ sym c.requires.drifts_len.1) ∙ ap (λ (n : ℕ). table_from n 0 (λ k. big_endian 4 body (tile_place w k + 2))) end;
      links = wrote_whole e.link last ∙ ap (links_below w body) end;
    }
