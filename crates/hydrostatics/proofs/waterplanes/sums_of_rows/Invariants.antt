-- The sums of each row are stored at its number. Assumes nothing.
use Rattle.ranges.specs.Sizes.{most_rows}
use Rattle.hydrostatics.specs.Row.{waterline_of}
use Rattle.hydrostatics.specs.Private.Sums.{no_sums}
use Rattle.hydrostatics.specs.Private.Waterplanes.{sums_from, up_to}
use Rattle.hydrostatics.proofs.Filling.{Filling}
use Rattle.hydrostatics.proofs.waterplanes.sums_of_rows.Given as goal

abbrev pub invariant-loop-r : goal.invariant-loop-r
invariant-loop-r l = Filling no_sums (λ r. sums_from (up_to (waterline_of r) l.lines)) most_rows l.r l.sums
