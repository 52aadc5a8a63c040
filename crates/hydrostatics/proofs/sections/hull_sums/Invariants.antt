-- The sums of each row are stored at its number. Assumes nothing.
use Rattle.ranges.specs.Sizes.{most_rows}
use Rattle.hydrostatics.specs.Row.{sums_at, waterline_of}
use Rattle.hydrostatics.specs.Private.Sums.{no_sums}
use Rattle.hydrostatics.proofs.Filling.{Filling}
use Rattle.hydrostatics.proofs.sections.hull_sums.Given as goal

abbrev pub invariant-loop-r : goal.invariant-loop-r
invariant-loop-r l = Filling no_sums (λ r. sums_at l.half_breadths l.particulars (waterline_of r)) most_rows l.r l.sums
