-- The sums are those of the stations passed, whose half-breadths are in range; so they are small. Assumes nothing.
use Prim.Native.Nat.{ℕ, ◌*◌, ◌^◌, ◌≤◌, ◌<◌}
use Rattle.ranges.specs.Fields.{range_of, most}
use Rattle.simpson.proofs.Sweep.{Swept}
use Rattle.hydrostatics.specs.Hull.{half_breadth}
use Rattle.hydrostatics.proofs.hull.Hull.waterline_sums.Given as goal

abbrev pub invariant-loop-i : goal.invariant-loop-i
invariant-loop-i l =
    ((k : ℕ) → k < l.i → half_breadth l.self.half_breadths.now l.self.particulars k l.j ≤ most (range_of 5))
    × Swept l.self.particulars.n (λ i. half_breadth l.self.half_breadths.now l.self.particulars i l.j) l.i l.q
    × Swept l.self.particulars.n (λ i. half_breadth l.self.half_breadths.now l.self.particulars i l.j * i) l.i l.x
    × Swept l.self.particulars.n (λ i. half_breadth l.self.half_breadths.now l.self.particulars i l.j ^ 3) l.i l.c
