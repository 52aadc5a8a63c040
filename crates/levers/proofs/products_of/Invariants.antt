-- The front of the table is filled so far; the table of sines is the definition's. Assumes nothing.
use lib.ListN.{replicate}
use Rattle.arithmetic.proofs.Parts.{Stored}
use Rattle.levers.specs.Levers.{products}
use Rattle.levers.specs.Sines.{angle_count}
use Rattle.levers.proofs.products_of.Given as goal

abbrev pub invariant-loop-i : goal.invariant-loop-i
invariant-loop-i l = Stored (products l.kg) (replicate angle_count 0) l.off l.i
