-- The sums are the definition's, and the difference is its numerator, which is never negative. Assumes nothing.
use native.Mathlib.Omega.{arith}
use Rattle.hoppers.proofs.Inertia.{Summed, area_most, cubes_most, first_most, lean_below, lean_most, made, made_most}
use Rattle.hoppers.proofs.inertia_of.Goals as goal
use Rattle.hoppers.proofs.inertia_of.Goals.{After-side_of-to_starboard}

-- both sides are summed
summed :
    (c : After-side_of-to_starboard)
    → let s = c.args in
    Summed s.port.now s.starboard.now s.interval c.side_of-to_port.result c.side_of-to_starboard.result
summed c =
    record { surface = c.requires; port_is = c.side_of-to_port.ensures; starboard_is = c.side_of-to_starboard.ensures }

pub overflow_add-area : goal.overflow_add-area
overflow_add-area c = omega (arith, area_most (summed (goal.at.overflow_add-area c).After-side_of-to_starboard))

pub overflow_add-cubes : goal.overflow_add-cubes
overflow_add-cubes c = omega (arith, cubes_most (summed (goal.at.overflow_add-cubes c).After-side_of-to_starboard))

pub overflow_mul-numerator : goal.overflow_mul-numerator
overflow_mul-numerator c = omega (arith, area_most (summed (goal.at.overflow_mul-numerator c).After-side_of-to_starboard))

pub overflow_mul-numerator-2 : goal.overflow_mul-numerator-2
overflow_mul-numerator-2 c = omega (arith, first_most (summed (goal.at.overflow_mul-numerator-2 c).After-side_of-to_starboard))

pub overflow_mul-numerator-3 : goal.overflow_mul-numerator-3
overflow_mul-numerator-3 c = omega (arith, lean_most (summed (goal.at.overflow_mul-numerator-3 c).After-side_of-to_starboard) c.apart-lean.ensures)

pub overflow_sub-numerator : goal.overflow_sub-numerator
overflow_sub-numerator c = lean_below (summed (goal.at.overflow_sub-numerator c).After-side_of-to_starboard) c.apart-lean.ensures

pub overflow_mul-numerator-4 : goal.overflow_mul-numerator-4
overflow_mul-numerator-4 c = omega (arith, overflow_sub-numerator c, first_most (summed (goal.at.overflow_mul-numerator-4 c).After-side_of-to_starboard))

pub overflow_mul-area : goal.overflow_mul-area
overflow_mul-area c = omega (arith, area_most (summed (goal.at.overflow_mul-area c).After-side_of-to_starboard))

pub overflow_mul-result : goal.overflow_mul-result
overflow_mul-result c = omega (arith, made_most (summed (goal.at.overflow_mul-result c).After-side_of-to_starboard) c.apart-lean.ensures c.rounded_up.ensures)

pub returns : goal.returns
returns c = made (summed (goal.at.returns c).After-side_of-to_starboard) c.apart-lean.ensures c.rounded_up.ensures
