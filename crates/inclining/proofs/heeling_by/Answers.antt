-- What was walked is never more than the whole, which is small. Assumes nothing.
use mathlib.Core.List.{[]}
use mathlib.Core.Path.{◌≡◌, sym, ap, subst, ◌∙◌}
use Prim.Native.Nat.{◌+◌, ◌*◌, ◌<◌}
use native.Mathlib.Omega.{arith}
use lib.ListN.{length, get_or}
use Rattle.ranges.specs.Sizes.{shift_width}
use Rattle.inclining.specs.Private.Heeling.{heeling_of, shift_at, ShiftInRange}
use Rattle.inclining.proofs.Shifts.{shift_of_record, heeled_none, heeled_more, heeled_all, here_in_range, moment_fits, deflection_fits}
use Rattle.inclining.proofs.heeling_by.Goals as goal
use Rattle.inclining.proofs.heeling_by.Goals.{In-loop-shift}

pub loop-shift-init : goal.loop-shift-init
loop-shift-init c = heeled_none _ c.requires

-- there is a shift, and it is the one at hand
more : (c : In-loop-shift) → shift_width * c.loop-shift.shift-index < length c.args.shifts.now
more c = omega (arith, c.loop-shift-test.true, c.as_chunks.ensures.front_len)

here : (c : In-loop-shift) → shift_at (get_or c.as_chunks.result.0.now c.loop-shift.shift-index []) 0 ≡ shift_at c.args.shifts.now (shift_width * c.loop-shift.shift-index)
here c =
    shift_of_record c.args.shifts.now c.as_chunks.ensures.front c.loop-shift.shift-index (omega (arith, c.loop-shift-test.true, c.as_chunks.ensures.front_len))

pub heeling_of-one-requires : goal.heeling_of-one-requires
heeling_of-one-requires c = subst ShiftInRange (sym (here c)) (here_in_range _ c.requires c.loop-shift.invariant (more c))

pub overflow_add-moment : goal.overflow_add-moment
overflow_add-moment c =
    let at = (goal.at.overflow_add-moment c).In-loop-shift in
    let one = c.heeling_of-one.ensures ∙ ap heeling_of (here at) in
    rw one (omega (arith, moment_fits _ c.requires c.loop-shift.invariant (more at)))

pub overflow_add-deflection : goal.overflow_add-deflection
overflow_add-deflection c =
    let at = (goal.at.overflow_add-deflection c).In-loop-shift in
    let one = c.heeling_of-one.ensures ∙ ap heeling_of (here at) in
    rw one (omega (arith, deflection_fits _ c.requires c.loop-shift.invariant (more at)))

pub loop-shift-preserved : goal.loop-shift-preserved
loop-shift-preserved c =
    let at = (goal.at.loop-shift-preserved c).In-loop-shift in
    let on : shift_width * c.loop-shift.shift-index + shift_width ≡ shift_width * (c.loop-shift.shift-index + 1) = omega arith in
    let one = c.heeling_of-one.ensures ∙ ap heeling_of (here at) in
    rw (one, ← on) (heeled_more _ c.requires c.loop-shift.invariant (more at))

pub returns : goal.returns
returns c =
    heeled_all _ c.requires c.loop-shift.invariant (omega (arith, c.loop-shift-test.false, c.as_chunks.ensures.front_len, c.requires.whole))
