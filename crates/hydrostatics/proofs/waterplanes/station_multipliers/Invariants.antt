-- Each multiplier is stored at its station. Assumes nothing.
use Prim.Native.Nat.{◌+◌}
use Rattle.ranges.specs.Fields.{range_of, most}
use Rattle.simpson.specs.Multipliers.{multiplier}
use Rattle.hydrostatics.proofs.Filling.{Filling}
use Rattle.hydrostatics.proofs.waterplanes.station_multipliers.Given as goal

abbrev pub invariant-loop-i : goal.invariant-loop-i
invariant-loop-i l = Filling 0 (multiplier l.n) (most (range_of 0) + 1) l.i l.u
