-- No count is above how many numbers were tried. Assumes nothing.
use Rattle.std.proofs.Common.{◌≤◌}
use Rattle.trials.proofs.trying.try_each.Given as goal

abbrev pub invariant-loop-i : goal.invariant-loop-i
invariant-loop-i g l = (l.count.tried ≤ l.i-counter) × (l.count.differing ≤ l.i-counter) × (l.count.changed ≤ l.i-counter)
