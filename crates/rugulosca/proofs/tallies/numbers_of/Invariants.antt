-- The walk, slot by slot. Assumes nothing.
use Rattle.rugulosca.proofs.Panels.{Spelling}
use Rattle.rugulosca.proofs.tallies.numbers_of.Given as goal

abbrev pub invariant-loop-i : goal.invariant-loop-i
invariant-loop-i l = Spelling l.fn.slots l.numbers l.i
