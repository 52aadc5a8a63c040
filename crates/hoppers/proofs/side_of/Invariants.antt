-- The sums are those of the widths passed, and never more than the whole, which is small. Assumes nothing.
use Prim.Native.Nat.{◌^◌}
use lib.ListN.{get_or}
use Rattle.simpson.proofs.Sweep.{Swept}
use Rattle.hoppers.proofs.side_of.Given as goal

abbrev pub invariant-loop-i : goal.invariant-loop-i
invariant-loop-i l = Swept l.n (λ i. get_or l.table i 0) l.i l.widths × Swept l.n (λ i. get_or l.table i 0 ^ 2) l.i l.squares × Swept l.n (λ i. get_or l.table i 0 ^ 3) l.i l.cubes
