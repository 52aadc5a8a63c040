-- The front is filled so far, and the rest is as it was. Assumes nothing.
use mathlib.Core.Path.{◌≡◌}
use mathlib.Core.List.{◌++◌, map}
use lib.IntN.{nat_abs}
use lib.ListN.{take, drop}
use Rattle.offsets.proofs.reader.copy_sizes.Given as goal

abbrev pub invariant-loop-i : goal.invariant-loop-i
invariant-loop-i l = l.to ≡ map nat_abs (take l.i l.table) ++ drop l.i l.initial.to
