-- The sums are those of the waterlines passed, and never more than the whole, which is small. Assumes nothing.
use Prim.Native.Nat.{◌*◌}
use Rattle.simpson.proofs.Sweep.{Swept}
use Rattle.hydrostatics.specs.Private.Waterplanes.{line, last}
use Rattle.hydrostatics.proofs.waterplanes.row_sums.Given as goal

abbrev pub invariant-loop-j : goal.invariant-loop-j
invariant-loop-j l = Swept (last l.lines) (λ j. (line l.lines j).q) l.j l.sum × Swept (last l.lines) (λ j. (line l.lines j).q * j) l.j l.sz × Swept (last l.lines) (λ j. (line l.lines j).x) l.j l.sx
