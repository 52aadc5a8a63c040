-- Each ordinate times its place is stored at its place, and the sum is over these. Assumes nothing.
use Prim.Native.Nat.{◌+◌, ◌*◌}
use lib.ListN.{get_or}
use Rattle.ranges.specs.Fields.{range_of, most}
use Rattle.hydrostatics.proofs.Filling.{Filling}
use Rattle.hydrostatics.proofs.sections.moment_sum.Given as goal

abbrev pub invariant-loop-i : goal.invariant-loop-i
invariant-loop-i l = Filling 0 (λ i. get_or l.ordinates i 0 * i) (most (range_of 0) + 1) l.i l.moments
