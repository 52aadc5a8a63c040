-- What each waterline contributes is stored at its number, and the rows are made of that. Assumes nothing.
use Prim.Native.Nat.{ℕ, ◌+◌, ◌<◌}
use Rattle.ranges.specs.Fields.{range_of, most}
use Rattle.hydrostatics.specs.Private.Waterplanes.{waterline_at, no_waterline, LineInRange}
use Rattle.hydrostatics.proofs.Filling.{Filling}
use Rattle.hydrostatics.proofs.waterplanes.hull_sums.Given as goal

abbrev pub invariant-loop-j : goal.invariant-loop-j
invariant-loop-j l = ((k : ℕ) → k < l.j → LineInRange l.hull.half_breadths.now l.hull.particulars k) × Filling no_waterline (waterline_at l.hull.half_breadths.now l.hull.particulars) (most (range_of 1) + 1) l.j l.lines
