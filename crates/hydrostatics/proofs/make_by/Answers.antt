-- Each refusal is the first whose line holds; where none does, the hull is in range and its rows follow. Assumes nothing.
use Prim.Native.Nat.{◌+◌, ◌-◌, ◌≤◌, ◌<◌}
use mathlib.Core.Path.{◌≡◌, refl, sym, ◌∙◌}
use borrow.Author.Rules.{rules}
use native.Mathlib.Omega.{arith}
use lib.ListN.{length, take}
use lib.Seq.{length-take-le}
use Rattle.arithmetic.proofs.Products.{product_fits}
use Rattle.ranges.specs.Fields.{range_of, most}
use Rattle.ranges.proofs.Outside.{some_place, none_place}
use Rattle.hydrostatics.proofs.Answers.{particulars_passed, bad_particular_said, wrong_table, wrong_room, bad_half_breadth, rows_follow, refuses_at, makes}
use Rattle.hydrostatics.proofs.SumsMade.{made_front, all_within, fills_hull}
use Rattle.hydrostatics.proofs.Tried.{found, none_outside}
use Rattle.hydrostatics.proofs.make_by.Goals as goal

pub returns-in-Some : goal.returns-in-Some
returns-in-Some g c = let at = some_place (sym c.in-Some.ensures) in refuses_at (bad_particular_said _ _ _ at.0 (omega (arith, at))) c.at.ensures

pub overflow_add-p : goal.overflow_add-p
overflow_add-p g c = let range = particulars_passed c.in_default.ensures in omega arith

pub overflow_add-p-2 : goal.overflow_add-p-2
overflow_add-p-2 g c = let range = particulars_passed c.in_default.ensures in omega arith

pub overflow_sub-count : goal.overflow_sub-count
overflow_sub-count g c = let range = particulars_passed c.in_default.ensures in omega arith

pub overflow_mul-p : goal.overflow_mul-p
overflow_mul-p g c =
    let range = particulars_passed c.in_default.ensures in
    let stations : c.args.p.n + 1 ≤ most (range_of 0) + 1 = omega arith in
    let waterlines : c.args.p.m + 1 ≤ most (range_of 1) + 1 = omega arith in
    product_fits stations waterlines tt

pub returns-then-half_breadths-p : goal.returns-then-half_breadths-p
returns-then-half_breadths-p g c = refuses_at (wrong_table _ _ _ refl (none_place (sym c.in_default.ensures)) c.if-half_breadths-p.true) c.at-then-half_breadths-p.ensures

pub returns-then-rows-count : goal.returns-then-rows-count
returns-then-rows-count g c = refuses_at (wrong_room _ _ _ refl (none_place (sym c.in_default.ensures)) c.if-half_breadths-p.false c.if-rows-count.true) c.at-then-rows-count.ensures

pub invariant_of-hull : goal.invariant_of-hull
invariant_of-hull g c = record { complete = record { particulars = particulars_passed c.in_default.ensures; points = c.if-half_breadths-p.false } }

pub unwrap-outside-requires : goal.unwrap-outside-requires
unwrap-outside-requires g c = found _ (c.requires.makes _ _ c.in_default-sums_of.ensures) c.first_outside.ensures

pub overflow_add-outside : goal.overflow_add-outside
overflow_add-outside g c =
    let at = some_place (sym (sym c.unwrap-outside.ensures ∙ c.first_outside.ensures)) in
    let there : c.unwrap-outside.result < length c.args.half_breadths.now = omega (arith, at) in
    search rules

pub returns-in_default-sums_of : goal.returns-in_default-sums_of
returns-in_default-sums_of g c =
    let at = some_place (sym (sym c.unwrap-outside.ensures ∙ c.first_outside.ensures)) in
    refuses_at (bad_half_breadth _ _ _ refl (none_place (sym c.in_default.ensures)) c.if-half_breadths-p.false c.if-rows-count.false at.0 (omega (arith, at))) c.at-in_default-sums_of.ensures

pub invariant_of-made : goal.invariant_of-made
invariant_of-made g c =
    let range = particulars_passed c.in_default.ensures in
    let made = c.requires.makes _ _ c.in-Some-sums_of.ensures in
    let all : length (take (c.args.p.m - 1) c.in-Some-sums_of.sums) ≡ c.args.p.m - 1 = length-take-le _ _ (omega arith) in
    record { within = all_within (made_front made.1) all made.0 }

pub returns : goal.returns
returns g c =
    let range = particulars_passed c.in_default.ensures in
    let made = c.requires.makes _ _ c.in-Some-sums_of.ensures in
    let all : length (take (c.args.p.m - 1) c.in-Some-sums_of.sums) ≡ c.args.p.m - 1 = length-take-le _ _ (omega arith) in
    makes (rows_follow _ _ _ refl (none_place (sym c.in_default.ensures)) c.if-half_breadths-p.false c.if-rows-count.false refl (omega (arith, none_outside made.0)))
    (fills_hull (made_front made.1) all c.fill.ensures)
