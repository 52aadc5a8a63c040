-- What was walked is never more than the whole, which is small. Assumes nothing.
use Prim.Native.Nat.{◌*◌}
use Rattle.ranges.specs.Sizes.{shift_width}
use Rattle.inclining.proofs.Shifts.{Heeled}
use Rattle.inclining.proofs.heeling_by.Given as goal

abbrev pub invariant-loop-shift : goal.invariant-loop-shift
invariant-loop-shift l = Heeled l.fn.shifts (shift_width * l.shift-index) l.moment l.deflection
