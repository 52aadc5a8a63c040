-- The walk, tank by tank: each is tried, and what it brings is added. Assumes nothing.
use Prim.Native.Nat.{◌*◌}
use lib.ListN.{drop}
use Rattle.ranges.specs.Sizes.{tank_width}
use Rattle.loading.proofs.Stowage.{AtTank}
use Rattle.loading.proofs.tanks.tanks_aboard.Given as goal

abbrev pub invariant-loop-i : goal.invariant-loop-i
invariant-loop-i l = AtTank l.tanks (drop (tank_width * l.i) l.tanks) l.i l.all
