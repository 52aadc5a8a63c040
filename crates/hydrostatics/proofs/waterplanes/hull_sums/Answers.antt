-- What each waterline contributes is stored at its number, and the rows are made of that. Assumes nothing.
use Prim.Native.Nat.{◌+◌}
use native.Mathlib.Omega.{arith}
use lib.ListN.{take}
use lib.Seq.{length-take-le}
use Rattle.hydrostatics.specs.Private.Hull.{InRange}
use Rattle.hydrostatics.proofs.Filling.{filling_all, filled_front}
use Rattle.hydrostatics.proofs.Keeping.{Kept, kept_small, kept_sums}
use Rattle.hydrostatics.proofs.Tried.{lines_in_range}
use Rattle.hydrostatics.proofs.waterplanes.hull_sums.Goals as goal
use Rattle.hydrostatics.proofs.waterplanes.hull_sums.Goals.{After-loop-j}

-- every waterline was swept
is_in_range : (c : After-loop-j) → let hull = c.args.hull in InRange hull.half_breadths.now hull.particulars
is_in_range c = lines_in_range c.args.hull.complete (λ j h. c.loop-j.invariant.0 j (omega arith))

kept : (c : After-loop-j) → let hull = c.args.hull in Kept hull.half_breadths.now hull.particulars (take (hull.particulars.m + 1) c.loop-j.lines)
kept c =
    let all = c.loop-j.invariant.1 in
    record {
      long = length-take-le (c.args.hull.particulars.m + 1) c.loop-j.lines (omega (arith, all.long, c.args.hull.complete.particulars.m_most));
      each = filled_front (filling_all all (omega arith));
    }

pub sums_of_rows-requires : goal.sums_of_rows-requires
sums_of_rows-requires c =
    let k = kept (goal.at.sums_of_rows-requires c).After-loop-j in
    (kept_small k (is_in_range (goal.at.sums_of_rows-requires c).After-loop-j), omega (arith, k.long, c.args.hull.complete.particulars.m_least))

pub returns : goal.returns
returns c = (is_in_range (goal.at.returns c).After-loop-j, kept_sums (kept (goal.at.returns c).After-loop-j) c.sums_of_rows.ensures)
