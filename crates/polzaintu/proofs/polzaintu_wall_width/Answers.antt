-- `polzaintu_wall_width` meets its contract. Assumes nothing.
use mathlib.Core.Path.{◌∙◌, ap}
use Rattle.stages.specs.Fit.{width_of}
use Rattle.polzaintu.proofs.polzaintu_wall_width.Goals as goal

pub returns : goal.returns
returns c = c.width.ensures.width ∙ ap width_of c.wall_in-wall.ensures
