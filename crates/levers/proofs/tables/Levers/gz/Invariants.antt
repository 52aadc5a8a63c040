-- The front of the table is filled so far. Assumes nothing.
use lib.IntN.{pos}
use lib.ListN.{replicate}
use Rattle.arithmetic.proofs.Parts.{Stored}
use Rattle.levers.specs.Levers.{lever, at_each}
use Rattle.levers.specs.Sines.{angle_count}
use Rattle.levers.proofs.tables.Levers.gz.Given as goal

abbrev pub invariant-loop-i : goal.invariant-loop-i
invariant-loop-i l =
    Stored (at_each (lever l.self.kn l.self.off)) (replicate angle_count (pos 0)) l.lever-items l.i
