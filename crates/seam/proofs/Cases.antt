-- The cases of specs/Cases.antt, computed. Assumes nothing.
use mathlib.Core.Path.{refl}
use Rattle.seam.specs.Seam.{late, joined, seam_of, halves_of, side_of}
use Rattle.seam.specs.Cases.{SeamIs, OpenCases, LateCases}

pub open_cases : OpenCases
unfolding OpenCases SeamIs halves_of side_of seam_of late joined
open_cases = ((refl, refl, refl), (refl, refl, refl), (refl, refl, refl), (refl, refl, refl))

pub late_cases : LateCases
unfolding LateCases SeamIs halves_of side_of seam_of late joined
late_cases = (
  (refl, refl, refl),
  (refl, refl, refl),
  (refl, refl, refl),
  (refl, refl, refl),
  (refl, refl, refl),
  (refl, refl, refl),
  (refl, refl, refl),
  (refl, refl, refl),
  (refl, refl, refl),
  (refl, refl, refl),
)
