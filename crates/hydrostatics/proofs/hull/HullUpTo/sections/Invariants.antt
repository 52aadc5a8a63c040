-- What is made of each station is stored at its number. Assumes nothing.
use Prim.Native.Nat.{◌+◌, ◌^◌}
use Rattle.ranges.specs.Fields.{range_of, most}
use Rattle.hydrostatics.specs.Hull.{half_breadth}
use Rattle.hydrostatics.specs.Private.Sections.{area_at, moment_at}
use Rattle.hydrostatics.proofs.Filling.{Filling}
use Rattle.hydrostatics.proofs.hull.HullUpTo.sections.Given as goal

abbrev pub invariant-loop-i : goal.invariant-loop-i
invariant-loop-i l =
    Filling 0 (area_at l.self.half_breadths.now l.self.particulars l.self.waterline) (most (range_of 0) + 1) l.i l.areas
    × Filling 0 (moment_at l.self.half_breadths.now l.self.particulars l.self.waterline) (most (range_of 0) + 1) l.i l.moments
    × Filling 0 (λ i. half_breadth l.self.half_breadths.now l.self.particulars i l.self.waterline) (most (range_of 0) + 1) l.i l.half_breadths
    × Filling 0 (λ i. half_breadth l.self.half_breadths.now l.self.particulars i l.self.waterline ^ 3) (most (range_of 0) + 1) l.i l.cubes
