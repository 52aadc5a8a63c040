-- Both tables are summed over the same angles. Assumes nothing.
use native.Mathlib.Omega.{arith}
use Rattle.levers.proofs.Summed.{sum_most, lever_sum}
use Rattle.levers.proofs.tables.Levers.sum.Goals as goal

pub invariant_of-result : goal.invariant_of-result
invariant_of-result c =
    let s = c.args.self.now in
    record { whole_small = omega (arith, c.sum_over.ensures, sum_most s.kn_in_range c.requires); off_small = omega (arith, c.sum_over-2.ensures, sum_most s.off_in_range c.requires) }

pub returns : goal.returns
returns c =
    lever_sum c.args.self.now.kn c.args.self.now.off _ _ c.sum_over.ensures c.sum_over-2.ensures
