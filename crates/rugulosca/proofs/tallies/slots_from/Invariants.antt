-- The walk, slot by slot. Assumes nothing.
use Rattle.rugulosca.proofs.Panels.{Reading}
use Rattle.rugulosca.proofs.tallies.slots_from.Given as goal

abbrev pub invariant-loop-i : goal.invariant-loop-i
invariant-loop-i l = Reading l.numbers l.slots l.i
