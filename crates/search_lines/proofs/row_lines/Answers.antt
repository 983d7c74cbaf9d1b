-- `row_lines` meets its contract. Assumes nothing.
use Rattle.std.proofs.Common.{◌≡◌, length, take, ap, arith, length-append}
use lib.ListN.{length-take}
use lib.Seq.{take_all}
use Rattle.std.proofs.lemmas.Iterator.{YieldsList-from_slice, YieldsList-from_take}
use Rattle.std.proofs.lemmas.Iterator.Consumers.{YieldsList-turn, YieldsList-end}
use Rattle.columns.proofs.Laws.Wrote.{wrote_none, wrote_then, wrote_as}
use Rattle.search_lines.specs.Text.{reach_texts, gap_text}
use Rattle.search_lines.proofs.Laws.{texts_next, texts_length}
use Rattle.search_lines.proofs.row_lines.Goals as goal

pub loop-later-init : goal.loop-later-init
unfolding reach_texts
loop-later-init c = wrote_none _ _

pub reach_line-end-requires : goal.reach_line-end-requires
reach_line-end-requires c = let a = c.args in
    let p = a.place in
    let n = length c.loop-later.yielded in
    let ls = take 16 a.asked.now in
    let turn = YieldsList-turn (YieldsList-from_take 16 (YieldsList-from_slice a.asked.now (cc)) (cc)) c.loop-later.yielded _ c.loop-later.yielded_by _ _ c.in-Some.later c.in-Some.is c.next.ensures.steps in
    omega (
      arith,
      turn.0,
      c.loop-later.invariant.goes,
      c.loop-later.invariant.as_long,
      c.line-end.ensures.few,
      c.line-end.ensures.text.as_long,
      texts_length p.settings a.gap p.row (take n ls),
      length-take n ls,
      length-take 16 a.asked.now,
      c.requires,
    )

pub loop-later-preserved : goal.loop-later-preserved
loop-later-preserved c = let a = c.args in
    let ls = take 16 a.asked.now in
    let turn = YieldsList-turn (YieldsList-from_take 16 (YieldsList-from_slice a.asked.now (cc)) (cc)) c.loop-later.yielded _ c.loop-later.yielded_by _ _ c.in-Some.later c.in-Some.is c.next.ensures.steps in
    rw length-append
    (wrote_as (wrote_then c.loop-later.invariant c.reach_line-end.ensures) (texts_next a.place.settings a.gap a.place.row ls (length c.loop-later.yielded) c.in-Some.later.now turn.0 turn.1))

pub returns : goal.returns
unfolding gap_text
returns c = let a = c.args in
    let ls = take 16 a.asked.now in
    let all = YieldsList-end (YieldsList-from_take 16 (YieldsList-from_slice a.asked.now (cc)) (cc)) c.loop-later.yielded _ c.loop-later.yielded_by _ _ c.in-None.is c.next.ensures.steps in
    let whole : take (length c.loop-later.yielded) ls ≡ ls = take_all (length c.loop-later.yielded) ls (omega (arith, all.1)) in
    wrote_then c.line-end.ensures.text (wrote_as c.loop-later.invariant (ap (reach_texts a.place.settings a.gap a.place.row) whole))
