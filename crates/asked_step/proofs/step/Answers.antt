-- `step` meets its contract. Assumes nothing.
use mathlib.Core.Path.{refl}
use lib.ListN.{take}
use Rattle.row.specs.Row.{pulses}
use Rattle.asked.specs.Asked.{told_of}
use Rattle.asked_step.proofs.Laws.{row_left, taken_is, copy_fits, told}
use Rattle.asked_step.proofs.step.Goals as goal

pub take_fit-taken-requires : goal.take_fit-taken-requires
take_fit-taken-requires c = let p = c.requires in
    let a = c.args in
    (p.2, copy_fits a.wall p.1 p.5 c.copy_from_slice.ensures.after, copy_fits a.wall p.1 p.5 refl, copy_fits a.wall p.1 p.6 refl)

pub tell-requires : goal.tell-requires
tell-requires c = let p = c.requires in
    let a = c.args in
    let times = c.copy_from_slice.ensures.after in
    let letters = c.copy_from_slice-2.ensures.after in (
      p.0,
      copy_fits a.wall p.1 p.5 times,
      copy_fits a.wall p.1 p.6 letters,
      taken_is a.wall a.part.now (pulses a.row.now a.letters.now) times letters c.take_fit-taken.ensures,
      p.8,
    )

pub returns : goal.returns
returns c = let p = c.requires in
    let a = c.args in
    let lent = pulses a.row.now a.letters.now in
    let times = c.copy_from_slice.ensures.after in
    told (told_of a.asked (take 16 a.given.now)) a.wall a.kept a.part.now lent times c.copy_from_slice-2.ensures.after c.tell.ensures
    (row_left a.wall a.part.now lent times c.take_fit-taken.ensures)
