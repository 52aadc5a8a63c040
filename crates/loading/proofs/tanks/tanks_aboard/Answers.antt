-- The walk, tank by tank: each is tried, and what it brings is added. Assumes nothing.
use mathlib.Core.List.{[], ◌++◌}
use mathlib.Core.Path.{◌≡◌, sym, ap, ◌∙◌}
use Prim.Native.Nat.{◌+◌, ◌*◌, ◌/◌, ◌<◌}
use native.Mathlib.Omega.{arith}
use lib.ListN.{length, drop, get_or, length-drop}
use Rattle.ranges.specs.Fields.{tank}
use Rattle.ranges.specs.Outcome.{refused}
use Rattle.ranges.specs.Outside.{first_outside}
use Rattle.ranges.specs.Refusals.{out_of_range, place_of_tanks}
use Rattle.ranges.specs.Sizes.{tank_width}
use Rattle.ranges.proofs.Outside.{some_place, none_place}
use Rattle.loading.specs.Private.Aboard.{Bearable, ◌with◌, of_tank}
use Rattle.loading.proofs.Reaches.{reach_less}
use Rattle.loading.proofs.Stowage.{at_first_tank, tanks_few, refused_outside, next_fits, refused_overfull, next_reach, past_tank, tanks_bearable, past_all_tanks, trial_refused}
use Rattle.loading.proofs.Walks.{nothing_is, record_next}
use Rattle.loading.proofs.tanks.tanks_aboard.Goals as goal
use Rattle.loading.proofs.tanks.tanks_aboard.Goals.{In-loop-i}

pub loop-i-init : goal.loop-i-init
loop-i-init c = rw (nothing_is c.default-all.result c.default-all.ensures) (at_first_tank c.args.tanks.now c.requires)

-- the record at hand is the front of what is left
next : (c : In-loop-i) → (drop (tank_width * c.loop-i.i) c.args.tanks.now ≡ get_or c.as_chunks.result.0.now c.loop-i.i [] ++ drop (tank_width * (c.loop-i.i + 1)) c.args.tanks.now) × (length (get_or c.as_chunks.result.0.now c.loop-i.i []) ≡ tank_width)
next c =
    let more : c.loop-i.i < length c.args.tanks.now / tank_width = omega (arith, c.loop-i-test.true, c.as_chunks.ensures.front_len) in
    record_next tank_width c.args.tanks.now c.as_chunks.ensures.front c.loop-i.i more (omega arith)

pub overflow_mul-at : goal.overflow_mul-at
overflow_mul-at c = let n = next (goal.at.overflow_mul-at c).In-loop-i in omega (arith, n.1, tanks_few c.loop-i.invariant _ _ n.0 n.1 c.requires)

pub overflow_add-at : goal.overflow_add-at
overflow_add-at c = let n = next (goal.at.overflow_add-at c).In-loop-i in omega (arith, n.1, tanks_few c.loop-i.invariant _ _ n.0 n.1 c.requires)

pub overflow_add-at-in-Some : goal.overflow_add-at-in-Some
overflow_add-at-in-Some c =
    let n = next (goal.at.overflow_add-at-in-Some c).In-loop-i in
    let at = some_place (sym c.in-Some.ensures) in
    omega (arith, n.1, tanks_few c.loop-i.invariant _ _ n.0 n.1 c.requires)

pub returns-in-Some : goal.returns-in-Some
returns-in-Some c =
    let n = next (goal.at.returns-in-Some c).In-loop-i in
    let at = some_place (sym c.in-Some.ensures) in
    let place : place_of_tanks + tank_width * c.loop-i.i + c.in-Some.place ≡ place_of_tanks + (tank_width * c.loop-i.i + first_outside tank (get_or c.as_chunks.result.0.now c.loop-i.i [])) =
    omega (arith, at.0) in
    rw c.at.ensures (trial_refused c.args.tanks.now _ (refused_outside c.loop-i.invariant _ _ n.0 n.1 at.1 ∙ sym (ap (refused out_of_range) place)))

pub of-tank-requires : goal.of-tank-requires
of-tank-requires c =
    let n = next (goal.at.of-tank-requires c).In-loop-i in
    next_fits c.loop-i.invariant _ _ n.0 n.1 (none_place (sym c.in_default.ensures))

pub returns-then-tank : goal.returns-then-tank
returns-then-tank c =
    let n = next (goal.at.returns-then-tank c).In-loop-i in
    rw c.at-then-tank.ensures (trial_refused c.args.tanks.now _
    (refused_overfull c.loop-i.invariant _ _ n.0 n.1 (none_place (sym c.in_default.ensures))
    (omega (arith, c.if-tank.true, ap (λ t. t.contents) c.of-tank.ensures, ap (λ t. t.capacity) c.of-tank.ensures))))

pub add-all-requires : goal.add-all-requires
add-all-requires c =
    let n = next (goal.at.add-all-requires c).In-loop-i in
    let one : Bearable c.aboard.result =
    rw (c.aboard.ensures ∙ ap of_tank c.of-tank.ensures)
    (reach_less (next_reach c.loop-i.invariant _ _ n.0 n.1 (none_place (sym c.in_default.ensures))) (omega arith) (omega arith)) in
    (tanks_bearable c.loop-i.invariant c.requires, one)

pub loop-i-preserved : goal.loop-i-preserved
loop-i-preserved c =
    let n = next (goal.at.loop-i-preserved c).In-loop-i in
    past_tank c.loop-i.invariant _ _ n.0 n.1 (none_place (sym c.in_default.ensures)) (omega (arith, c.if-tank.false, ap (λ t. t.contents) c.of-tank.ensures, ap (λ t. t.capacity) c.of-tank.ensures)) (c.add-all.ensures ∙ ap (λ b. c.loop-i.all with b) (c.aboard.ensures ∙ ap of_tank c.of-tank.ensures))

pub returns : goal.returns
returns c =
    past_all_tanks c.loop-i.invariant (omega (arith, c.loop-i-test.false, c.loop-i.auto.i-end, c.as_chunks.ensures.front_len, length-drop (tank_width * c.loop-i.i) c.args.tanks.now)) c.requires
