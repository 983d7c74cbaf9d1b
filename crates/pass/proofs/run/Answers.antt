-- `run` ends, as its contract says. Assumes nothing.
use mathlib.Core.Path.{◌≡◌, refl, sym, ◌∙◌}
use native.Mathlib.Omega.{arith}
use Rattle.row.specs.Row.{pulses}
use Rattle.stages.specs.Fit.{due_of}
use Rattle.file.proofs.Laws.Stands.{none_due}
use Rattle.stream.proofs.Laws.State.{ready_between}
use Rattle.stream.proofs.Laws.Run as run
use Rattle.asked.proofs.Laws.Onward.{ahead}
use Rattle.pass.proofs.run.Goals as goal

pub loop-asked-init : goal.loop-asked-init
loop-asked-init g c = (refl, refl, sym c.link_space-links.ensures, refl, refl, run.begun _ 0 _ _ _ _ c.start-state.ensures)

pub finish-requires : goal.finish-requires
finish-requires g c =
    let i = c.loop-asked.invariant.5.between in
    (none_due c.loop-asked.state.wall i.stands (sym c.due-due.ensures.due ∙ c.if-due-eq0.true), i.text)

pub returns-then-due-eq0 : goal.returns-then-due-eq0
returns-then-due-eq0 g c =
    let at = c.loop-asked in
    let i = at.invariant.5 in
    let over = none_due at.state.wall i.between.stands (sym c.due-due.ensures.due ∙ c.if-due-eq0.true) in
    record { keeps = at.kept; lent = pulses at.row at.letters; output = at.output; ends = run.finishes _ 0 _ _ _ _ _ _ over i c.finish.ensures }

pub advance-going-requires : goal.advance-going-requires
advance-going-requires g c =
    let i = c.loop-asked.invariant in
    let made = c.in-Ok.ensures in
    (c.requires, ready_between _ _ _ _ _ i.5.between made, omega (arith, i.2), omega (arith, i.3), omega (arith, i.4), made.room)

pub loop-asked-smaller : goal.loop-asked-smaller
loop-asked-smaller g c =
    let at = c.loop-asked in
    let some : due_of at.state.wall ≡ 0 → ⊥ = λ e. c.if-due-eq0.false (c.due-due.ensures.due ∙ e) in
    let made = c.in-Ok.ensures in
    run.turn_less _ 0 (ahead _ _) _ _ _ _ _ _ _ _ _ _ _ some at.invariant.5 made c.advance-going.ensures

pub loop-asked-preserved : goal.loop-asked-preserved
loop-asked-preserved g c =
    let at = c.loop-asked in
    let i = at.invariant in
    let kept = c.advance-going.auto in
    let some : due_of at.state.wall ≡ 0 → ⊥ = λ e. c.if-due-eq0.false (c.due-due.ensures.due ∙ e) in
    let made = c.in-Ok.ensures in (
      c.ready.auto.input ∙ i.0,
      kept.output ∙ i.1,
      kept.links ∙ i.2,
      kept.row ∙ i.3,
      kept.letters ∙ i.4,
      run.turn_standing _ 0 (ahead _ _) _ _ _ _ _ _ _ _ _ _ _ some i.5 made c.advance-going.ensures,
    )

pub returns-in-Err : goal.returns-in-Err
returns-in-Err g c =
    let at = c.loop-asked in
    record {
      keeps = at.kept;
      lent = pulses at.row at.letters;
      output = at.output;
      ends = run.stopped _ 0 _ _ _ _ _ c.in-Err.failed at.invariant.5;
    }
