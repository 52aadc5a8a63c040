-- The intervals: two come off the front each time.
use Prim.Native.Nat.{◌-◌}
use lib.ListN.{length}
use Rattle.hydrostatics.proofs.sections.+curve_sum.Given as goal

abbrev pub decreases-curve_sum : goal.decreases-curve_sum
decreases-curve_sum l = length l.ordinates.now - 1
