-- Shift by shift, and then what is no whole one. Assumes nothing.
use mathlib.Core.Path.{◌≡◌, sym}
use Prim.Native.Nat.{◌/◌, ◌<◌}
use native.Mathlib.Omega.{arith}
use lib.ListN.{length}
use Rattle.ranges.specs.Sizes.{shift_width}
use Rattle.ranges.proofs.Outside.{some_place, none_place}
use Rattle.inclining.proofs.Sought.{sought_start, sought_next, sought_fits, sought_here, left_over, sought_left, shift_told, no_shift_told}
use Rattle.inclining.proofs.shift_outside.Goals as goal
use Rattle.inclining.proofs.shift_outside.Goals.{In-loop-i, After-loop-i}

pub loop-i-init : goal.loop-i-init
loop-i-init c = sought_start _

-- there is a shift
more : (c : In-loop-i) → c.loop-i.i < length c.args.shifts.now / shift_width
more c = omega (arith, c.loop-i-test.true, c.as_chunks.ensures.front_len)

pub overflow_add-result : goal.overflow_add-result
overflow_add-result c =
    let there = more (goal.at.overflow_add-result c).In-loop-i in
    let at = some_place (sym c.in-Some.ensures) in
    omega (arith, at.0, sought_fits _ c.loop-i.invariant c.as_chunks.ensures.front there at.1)

pub returns-in-Some : goal.returns-in-Some
returns-in-Some c =
    let there = more (goal.at.returns-in-Some c).In-loop-i in
    let at = some_place (sym c.in-Some.ensures) in
    shift_told _
    (omega (arith, at.0, sought_here _ c.loop-i.invariant c.as_chunks.ensures.front there at.1))
    (omega (arith, at.0, sought_fits _ c.loop-i.invariant c.as_chunks.ensures.front there at.1))

pub loop-i-preserved : goal.loop-i-preserved
loop-i-preserved c =
    sought_next _ c.loop-i.invariant c.as_chunks.ensures.front (more (goal.at.loop-i-preserved c).In-loop-i) (none_place (sym c.in_default.ensures))

-- every whole shift was walked
walked : (c : After-loop-i) → c.loop-i.i ≡ length c.args.shifts.now / shift_width
walked c = omega (arith, c.loop-i-test.false, c.loop-i.auto.i-end, c.as_chunks.ensures.front_len)

pub overflow_add-result-in-Some-first_outside : goal.overflow_add-result-in-Some-first_outside
overflow_add-result-in-Some-first_outside c =
    let all = walked (goal.at.overflow_add-result-in-Some-first_outside c).After-loop-i in
    let at = some_place (sym c.in-Some-first_outside.ensures) in
    omega (arith, at.0, at.1, all, c.as_chunks.ensures.front_len, left_over _ c.loop-i.invariant all _ c.as_chunks.ensures.back)

pub returns-in-Some-first_outside : goal.returns-in-Some-first_outside
returns-in-Some-first_outside c =
    let all = walked (goal.at.returns-in-Some-first_outside c).After-loop-i in
    let at = some_place (sym c.in-Some-first_outside.ensures) in
    shift_told _
    (omega (arith, at.0, all, c.as_chunks.ensures.front_len, sought_left _ c.loop-i.invariant all _ c.as_chunks.ensures.back))
    (omega (arith, at.0, at.1, all, c.as_chunks.ensures.front_len, left_over _ c.loop-i.invariant all _ c.as_chunks.ensures.back))

pub returns : goal.returns
returns c =
    let all = walked (goal.at.returns c).After-loop-i in
    let none = none_place (sym c.in_default-first_outside.ensures) in
    no_shift_told _ (omega (arith, none, left_over _ c.loop-i.invariant all _ c.as_chunks.ensures.back, sought_left _ c.loop-i.invariant all _ c.as_chunks.ensures.back))
