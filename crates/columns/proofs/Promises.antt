-- The proofs of what specs/Window.antt states. Assumes nothing.
use native.Mathlib.Omega.{arith}
use Rattle.columns.proofs.Laws.Columns.{predecessors_window, links_early, links_inner, links_late}
use Rattle.columns.specs.Window.{WindowRight, LinksCounted, LinksStart}

-- where a tile's predecessors and links stand
pub window_right : WindowRight
unfolding WindowRight
window_right w c wide i = predecessors_window w c wide i

pub links_counted : LinksCounted
unfolding LinksCounted
links_counted w wide = links_late w wide w (omega arith) (omega arith)

pub links_start : LinksStart
unfolding LinksStart
links_start w c wide i = (links_early w wide c, links_inner w wide c, λ j. links_late w wide c j (omega arith))
