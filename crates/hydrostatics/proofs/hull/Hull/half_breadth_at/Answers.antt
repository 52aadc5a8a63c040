-- The place is in the table. Assumes nothing.
use mathlib.Core.Path.{refl}
use Rattle.hydrostatics.specs.Hull.{half_breadth}
use Rattle.hydrostatics.proofs.hull.Hull.half_breadth_at.Goals as goal

pub returns : goal.returns
unfolding half_breadth
returns c = refl
