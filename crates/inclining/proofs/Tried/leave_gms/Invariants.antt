-- The front of the table is filled so far, and the rest is as it was. Assumes nothing.
use Rattle.inclining.proofs.Shifts.{Left}
use Rattle.inclining.proofs.Tried.leave_gms.Given as goal

abbrev pub invariant-loop-i : goal.invariant-loop-i
invariant-loop-i l = Left l.self.test l.fn.shifts l.initial.gms l.gms l.i
