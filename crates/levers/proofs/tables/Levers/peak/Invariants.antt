-- So far it is the peak of the angles passed. Assumes nothing.
use Prim.Native.Nat.{◌-◌}
use mathlib.Core.Path.{◌≡◌}
use Rattle.levers.specs.Levers.{lever, peak_up_to}
use Rattle.levers.proofs.tables.Levers.peak.Given as goal

abbrev pub invariant-loop-i : goal.invariant-loop-i
invariant-loop-i l = l.first ≡ peak_up_to (lever l.self.kn l.self.off) (l.i - 1)
