-- The walk over the rows: all before row r are usable. Assumes nothing.
use mathlib.Core.Path.{◌≡◌}
use Rattle.hydrostatics.specs.Usable.{usable_up_to}
use Rattle.ranges.specs.Outcome.{answered}
use Rattle.loading.proofs.usable.first_unusable.Given as goal

abbrev pub invariant-loop-r : goal.invariant-loop-r
invariant-loop-r l = usable_up_to l.numbers l.r ≡ answered l.r
