-- Each digit leaves less to be read. Assumes nothing.
use Rattle.std.proofs.Common.{length}
use Rattle.trials.proofs.text.U64Number.read.Given as goal

abbrev pub decreases-loop-digit : goal.decreases-loop-digit
decreases-loop-digit l = length l.text.rest.now
