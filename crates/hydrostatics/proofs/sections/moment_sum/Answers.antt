-- Each ordinate times its place is stored at its place, and the sum is over these. Assumes nothing.
use Prim.Native.Nat.{◌*◌, ◌≤◌}
use mathlib.Core.Path.{sym, ◌∙◌}
use native.Mathlib.Omega.{arith}
use lib.ListN.{get_or, length}
use Rattle.hydrostatics.specs.Private.Hull.{Filled}
use Rattle.hydrostatics.proofs.Filling.{filling_all}
use Rattle.hydrostatics.proofs.Plain.{moment_is, lever_fits, filled_curve, filled_summable}
use Rattle.hydrostatics.proofs.sections.moment_sum.Goals as goal
use Rattle.hydrostatics.proofs.sections.moment_sum.Goals.{After-loop-i}

pub overflow_mul-moments : goal.overflow_mul-moments
overflow_mul-moments c = omega (arith, lever_fits c.requires c.loop-i.i (omega arith))

room : (c : After-loop-i) → length c.args.ordinates.now ≤ length c.loop-i.moments
room c = omega (arith, c.loop-i.invariant.long, c.requires.most_stations)

filled : (c : After-loop-i) → let o = c.args.ordinates.now in Filled 0 (λ i. get_or o i 0 * i) (length o) c.loop-i.moments
filled c = filling_all c.loop-i.invariant (omega arith)

pub curve_sum-requires : goal.curve_sum-requires
curve_sum-requires c =
    let can = c.requires in
    filled_summable (filled (goal.at.curve_sum-requires c).After-loop-i) (omega arith) (room (goal.at.curve_sum-requires c).After-loop-i) (omega arith) (omega (arith, moment_is c.args.ordinates.now))

pub returns : goal.returns
returns c =
    let can = c.requires in
    c.curve_sum.ensures
    ∙ filled_curve (filled (goal.at.returns c).After-loop-i) (omega arith) (room (goal.at.returns c).After-loop-i)
    ∙ sym (moment_is c.args.ordinates.now)
