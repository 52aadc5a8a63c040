-- What is left of the shifts has the first number out of range where the whole table has it. Assumes nothing.
use Rattle.inclining.proofs.Sought.{Sought}
use Rattle.inclining.proofs.shift_outside.Given as goal

abbrev pub invariant-loop-i : goal.invariant-loop-i
invariant-loop-i l = Sought l.fn.shifts l.i
