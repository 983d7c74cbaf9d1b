-- `polzaintu_wall_due` meets its contract. Assumes nothing.
use mathlib.Core.Path.{◌∙◌, ap}
use Rattle.stages.specs.Fit.{due_of}
use Rattle.polzaintu.proofs.polzaintu_wall_due.Goals as goal

pub returns : goal.returns
returns c = c.due.ensures.due ∙ ap due_of c.wall_in-wall.ensures
