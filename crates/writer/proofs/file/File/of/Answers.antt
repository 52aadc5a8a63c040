-- Each refusal is the definition's, since the tests come in its order. Assumes nothing.
use Prim.Native.Nat.{◌≤◌}
use mathlib.Core.Path.{sym, ◌∙◌}
use native.Mathlib.Omega.{arith}
use lib.ListN.{length}
use mir.Facts.{Fits-le, Fits-lit}
use Rattle.offsets.proofs.Sound.{points_most}
use Rattle.ranges.proofs.Facts.{particulars_in_range}
use Rattle.ranges.proofs.Outside.{some_place, none_place}
use Rattle.ranges.specs.Fields.{particulars}
use Rattle.ranges.specs.Outside.{bad_particular}
use Rattle.writer.specs.Private.Putting.{RightSizes}
use Rattle.writer.proofs.Tried.{refuses_particular, refuses_half_breadth_size, refuses_item_size, refuses_tank_size, refuses_half_breadth, refuses_item, refuses_tank}
use Rattle.writer.proofs.file.File.of.Goals as goal
use Rattle.writer.proofs.file.File.of.Goals.{In_default, Else-not-tanks_fit}

hull : (c : In_default) → length particulars ≤ bad_particular c.args.p
hull c = none_place (sym c.bad_particular.ensures ∙ c.in_default.is)

sizes : (c : Else-not-tanks_fit) → RightSizes c.args.p c.args.half_breadths.now c.args.items.now c.args.tanks.now
sizes c = record {
  particulars_in = none_place (sym c.bad_particular.ensures ∙ c.in_default.is);
  half_breadth_size = c.if-half_breadths-p.false;
  item_size = sym c.items_fit.ensures ∙ c.if-not-items_fit.false;
  tank_size = sym c.tanks_fit.ensures ∙ c.if-not-tanks_fit.false;
}

pub returns-in-Some-clause-refused : goal.returns-in-Some-clause-refused
returns-in-Some-clause-refused c =
    let bad = some_place (sym c.bad_particular.ensures ∙ c.in-Some.is) in
    λ room. rw c.at.ensures (refuses_particular _ _ _ _ room bad.0 (omega (arith, bad.0, bad.1)))

pub overflow_add-p : goal.overflow_add-p
overflow_add-p c = let five = particulars_in_range _ (hull (goal.at.overflow_add-p c).In_default) in omega arith

pub overflow_add-p-2 : goal.overflow_add-p-2
overflow_add-p-2 c = let five = particulars_in_range _ (hull (goal.at.overflow_add-p-2 c).In_default) in omega arith

pub overflow_mul-p : goal.overflow_mul-p
overflow_mul-p c = let five = particulars_in_range _ (hull (goal.at.overflow_mul-p c).In_default) in Fits-le (points_most five.n_most five.m_most) (Fits-lit tt)

pub returns-then-half_breadths-p-clause-refused : goal.returns-then-half_breadths-p-clause-refused
returns-then-half_breadths-p-clause-refused c =
    λ room. rw c.at-then-half_breadths-p.ensures (refuses_half_breadth_size _ _ _ _ room (hull (goal.at.returns-then-half_breadths-p-clause-refused c).In_default) c.if-half_breadths-p.true)

pub returns-then-not-items_fit-clause-refused : goal.returns-then-not-items_fit-clause-refused
returns-then-not-items_fit-clause-refused c =
    λ room.
    rw c.at-then-not-items_fit.ensures
    (refuses_item_size _ _ _ _ room (hull (goal.at.returns-then-not-items_fit-clause-refused c).In_default) c.if-half_breadths-p.false (sym c.items_fit.ensures ∙ c.if-not-items_fit.true))

pub returns-then-not-tanks_fit-clause-refused : goal.returns-then-not-tanks_fit-clause-refused
returns-then-not-tanks_fit-clause-refused c =
    λ room.
    rw c.at-then-not-tanks_fit.ensures
    (refuses_tank_size _ _ _ _ room (hull (goal.at.returns-then-not-tanks_fit-clause-refused c).In_default) c.if-half_breadths-p.false (sym c.items_fit.ensures ∙ c.if-not-items_fit.false) (sym c.tanks_fit.ensures ∙ c.if-not-tanks_fit.true))

pub overflow_add-place : goal.overflow_add-place
overflow_add-place c =
    let bad = some_place (sym c.first_outside.ensures ∙ c.in-Some-first_outside.is) in
    omega (arith, bad.0, bad.1)

pub returns-in-Some-first_outside-clause-refused : goal.returns-in-Some-first_outside-clause-refused
returns-in-Some-first_outside-clause-refused c =
    let bad = some_place (sym c.first_outside.ensures ∙ c.in-Some-first_outside.is) in
    λ room.
    rw c.at-in-Some-first_outside.ensures
    (refuses_half_breadth _ _ _ _ room (sizes (goal.at.returns-in-Some-first_outside-clause-refused c).Else-not-tanks_fit) bad.0 (omega (arith, bad.0, bad.1)))

pub overflow_add-place-in-Some-first_outside-2 : goal.overflow_add-place-in-Some-first_outside-2
overflow_add-place-in-Some-first_outside-2 c =
    let bad = some_place (sym c.first_outside-2.ensures ∙ c.in-Some-first_outside-2.is) in
    omega (arith, bad.0, bad.1)

pub returns-in-Some-first_outside-2-clause-refused : goal.returns-in-Some-first_outside-2-clause-refused
returns-in-Some-first_outside-2-clause-refused c =
    let bad = some_place (sym c.first_outside-2.ensures ∙ c.in-Some-first_outside-2.is) in
    let half_breadths = none_place (sym c.first_outside.ensures ∙ c.in_default-first_outside.is) in
    λ room.
    rw c.at-in-Some-first_outside-2.ensures
    (refuses_item _ _ _ _ room (sizes (goal.at.returns-in-Some-first_outside-2-clause-refused c).Else-not-tanks_fit) half_breadths bad.0 (omega (arith, bad.0, bad.1)))

pub overflow_add-place-in-Some-first_outside-3 : goal.overflow_add-place-in-Some-first_outside-3
overflow_add-place-in-Some-first_outside-3 c =
    let bad = some_place (sym c.first_outside-3.ensures ∙ c.in-Some-first_outside-3.is) in
    omega (arith, bad.0, bad.1)

pub returns-in-Some-first_outside-3-clause-refused : goal.returns-in-Some-first_outside-3-clause-refused
returns-in-Some-first_outside-3-clause-refused c =
    let bad = some_place (sym c.first_outside-3.ensures ∙ c.in-Some-first_outside-3.is) in
    let half_breadths = none_place (sym c.first_outside.ensures ∙ c.in_default-first_outside.is) in
    let items = none_place (sym c.first_outside-2.ensures ∙ c.in_default-first_outside-2.is) in
    λ room.
    rw c.at-in-Some-first_outside-3.ensures
    (refuses_tank _ _ _ _ room (sizes (goal.at.returns-in-Some-first_outside-3-clause-refused c).Else-not-tanks_fit) half_breadths items bad.0 (omega (arith, bad.0, bad.1)))

pub invariant_of-result : goal.invariant_of-result
invariant_of-result c =
    record {
      passes = record {
        right_sizes = sizes (goal.at.invariant_of-result c).Else-not-tanks_fit;
        half_breadths_in = none_place (sym c.first_outside.ensures ∙ c.in_default-first_outside.is);
        items_in = none_place (sym c.first_outside-2.ensures ∙ c.in_default-first_outside-2.is);
        tanks_in = none_place (sym c.first_outside-3.ensures ∙ c.in_default-first_outside-3.is);
      };
    }
