-- The row's five sums are curves over what is kept of each station. Assumes nothing.
use Prim.Native.Nat.{◌≤◌}
use mathlib.Core.Path.{◌∙◌}
use native.Mathlib.Omega.{arith}
use Rattle.ranges.specs.Fields.{range_of, least, most}
use Rattle.hydrostatics.proofs.Stations.{total_s, total_sz, total_sx, total_q, total_c, along_is, along_can, lever_is, lever_can}
use Rattle.hydrostatics.proofs.hull.HullUpTo.sums.Goals as goal
use Rattle.hydrostatics.proofs.hull.HullUpTo.sums.Goals.{After-sections}

-- how long and how deep the hull is
sized : (c : After-sections) → let p = c.args.self.now.particulars in (least (range_of 0) ≤ p.n) × (p.n ≤ most (range_of 0)) × (c.args.self.now.waterline ≤ most (range_of 1))
sized c = let range = c.args.self.now.in_range.complete.particulars in (range.n_least, range.n_most, omega (arith, range.m_most, c.args.self.now.has_row))

pub curve_sum-requires : goal.curve_sum-requires
curve_sum-requires c = along_can (sized (goal.at.curve_sum-requires c).After-sections).0 (sized (goal.at.curve_sum-requires c).After-sections).1 c.sections.ensures.areas_are (total_s c.args.self.now.in_range c.args.self.now.waterline (sized (goal.at.curve_sum-requires c).After-sections).2)

pub curve_sum-requires-2 : goal.curve_sum-requires-2
curve_sum-requires-2 c = along_can (sized (goal.at.curve_sum-requires-2 c).After-sections).0 (sized (goal.at.curve_sum-requires-2 c).After-sections).1 c.sections.ensures.moments_are (total_sz c.args.self.now.in_range c.args.self.now.waterline (sized (goal.at.curve_sum-requires-2 c).After-sections).2)

pub moment_sum-requires : goal.moment_sum-requires
moment_sum-requires c = lever_can (sized (goal.at.moment_sum-requires c).After-sections).0 (sized (goal.at.moment_sum-requires c).After-sections).1 c.sections.ensures.areas_are (total_sx c.args.self.now.in_range c.args.self.now.waterline (sized (goal.at.moment_sum-requires c).After-sections).2)

pub curve_sum-requires-3 : goal.curve_sum-requires-3
curve_sum-requires-3 c = along_can (sized (goal.at.curve_sum-requires-3 c).After-sections).0 (sized (goal.at.curve_sum-requires-3 c).After-sections).1 c.sections.ensures.half_breadths_are (total_q c.args.self.now.in_range c.args.self.now.waterline (sized (goal.at.curve_sum-requires-3 c).After-sections).2)

pub curve_sum-requires-4 : goal.curve_sum-requires-4
curve_sum-requires-4 c = along_can (sized (goal.at.curve_sum-requires-4 c).After-sections).0 (sized (goal.at.curve_sum-requires-4 c).After-sections).1 c.sections.ensures.cubes_are (total_c c.args.self.now.in_range c.args.self.now.waterline (sized (goal.at.curve_sum-requires-4 c).After-sections).2)

pub returns : goal.returns
returns c =
    let hull = c.args.self.now.in_range in
    let k = c.args.self.now.waterline in
    let size = sized (goal.at.returns c).After-sections in
    let sections = c.sections.ensures in
    rw (
      c.curve_sum.ensures ∙ along_is size.0 size.1 sections.areas_are (total_s hull k size.2),
      c.curve_sum-2.ensures ∙ along_is size.0 size.1 sections.moments_are (total_sz hull k size.2),
      c.moment_sum.ensures ∙ lever_is size.0 size.1 sections.areas_are (total_sx hull k size.2),
      c.curve_sum-3.ensures ∙ along_is size.0 size.1 sections.half_breadths_are (total_q hull k size.2),
      c.curve_sum-4.ensures ∙ along_is size.0 size.1 sections.cubes_are (total_c hull k size.2),
    )
