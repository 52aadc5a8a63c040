-- What was taken, with the digits still to come, is the whole; a digit more fits, since there are ten at the most. Assumes nothing.
use Rattle.numerals.proofs.Taken.{Taken}
use Rattle.numerals.proofs.reading.digits_from.Given as goal

abbrev pub invariant-loop-stop : goal.invariant-loop-stop
invariant-loop-stop l = Taken l.text l.from l.value l.stop
