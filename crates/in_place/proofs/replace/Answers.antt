-- `replace` meets its contract. Assumes nothing.
use Rattle.in_place.proofs.Laws.{replaces}
use Rattle.in_place.proofs.replace.Goals as goal

pub take_fit-requires : goal.take_fit-requires
take_fit-requires c = let p = c.requires in
    (p.0, rw c.copy_from_slice.ensures.after p.1, p.1, p.2)

pub returns : goal.returns
returns c = replaces c.copy_from_slice.ensures.after c.copy_from_slice-2.ensures.after c.take_fit.ensures
