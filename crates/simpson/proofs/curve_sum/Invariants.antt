-- The running sum is that of the stations passed. One that 64 bits do not hold makes the whole sum too large, since what follows takes nothing off. Assumes nothing.
use Rattle.simpson.proofs.Running.{Running}
use Rattle.simpson.proofs.curve_sum.Given as goal

abbrev pub invariant-loop-i : goal.invariant-loop-i
invariant-loop-i l = Running l.ordinates l.i l.sum
