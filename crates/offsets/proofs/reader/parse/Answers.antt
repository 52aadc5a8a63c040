-- Each step of the reading is one of the file's. Assumes nothing.
use mathlib.Core.Path.{◌≡◌, ◌∙◌}
use native.Mathlib.Omega.{arith}
use Rattle.std.proofs.lemmas.Result.{err_from_is_err_and}
use Rattle.offsets.proofs.Chain.{stops_at_count, stops_at_hull, hull_in_range, stops_at_grid, stops_at_items, stops_at_tanks, stops_at_end, all_read, from_start}
use Rattle.ranges.specs.Sizes.{points_of}
use Rattle.offsets.proofs.Sound.{points_most}
use Rattle.offsets.proofs.reader.parse.Goals as goal

pub points_of-points-requires : goal.points_of-points-requires
points_of-points-requires c = hull_in_range c.in_ok-count.ensures.reads c.in_ok-particulars.ensures

pub section-requires : goal.section-requires
section-requires c =
    let range = hull_in_range c.in_ok-count.ensures.reads c.in_ok-particulars.ensures in
    omega (arith, points_most range.0 range.1, c.points_of-points.ensures, c.requires.half_breadth_room)

pub returns-in_err-count : goal.returns-in_err-count
returns-in_err-count c =
    let p = err_from_is_err_and c.from_residual.result c.from_residual.ensures.1 in
    rw (p.1, p.2) (record { read = from_start c.args.text.now ∙ stops_at_count c.in_err-count.ensures.reads; fits = tt })

pub returns-in_err-particulars : goal.returns-in_err-particulars
returns-in_err-particulars c =
    let p = err_from_is_err_and c.from_residual-in_err-particulars.result c.from_residual-in_err-particulars.ensures.1 in
    rw (p.1, p.2) (record { read = from_start c.args.text.now ∙ stops_at_hull c.in_ok-count.ensures.reads c.in_err-particulars.ensures; fits = tt })

pub returns-in_err-section : goal.returns-in_err-section
returns-in_err-section c =
    let p = err_from_is_err_and c.from_residual-in_err-section.result c.from_residual-in_err-section.ensures.1 in
    rw (p.1, p.2) (record { read = from_start c.args.text.now ∙ stops_at_grid c.in_ok-count.ensures.reads c.in_ok-particulars.ensures _ (rw c.points_of-points.ensures at c.in_err-section.ensures.reads); fits = tt })

pub returns-in_err-item_count : goal.returns-in_err-item_count
returns-in_err-item_count c =
    let p = err_from_is_err_and c.from_residual-in_err-item_count.result c.from_residual-in_err-item_count.ensures.1 in
    rw (p.1, p.2) (record { read = from_start c.args.text.now ∙ stops_at_items c.in_ok-count.ensures.reads c.in_ok-particulars.ensures _ (rw c.points_of-points.ensures at c.in_ok-section.ensures.reads) _ c.in_err-item_count.ensures.reads; fits = tt })

pub returns-in_err-tank_count : goal.returns-in_err-tank_count
returns-in_err-tank_count c =
    let p = err_from_is_err_and c.from_residual-in_err-tank_count.result c.from_residual-in_err-tank_count.ensures.1 in
    rw (p.1, p.2) (record { read = from_start c.args.text.now ∙ stops_at_tanks c.in_ok-count.ensures.reads c.in_ok-particulars.ensures _ (rw c.points_of-points.ensures at c.in_ok-section.ensures.reads) _ c.in_ok-item_count.ensures.reads _ c.in_err-tank_count.ensures.reads; fits = tt })

pub returns-in_err-finish : goal.returns-in_err-finish
returns-in_err-finish c =
    let p = err_from_is_err_and c.from_residual-in_err-finish.result c.from_residual-in_err-finish.ensures.1 in
    rw (p.1, p.2) (record { read = from_start c.args.text.now ∙ stops_at_end c.in_ok-count.ensures.reads c.in_ok-particulars.ensures _ (rw c.points_of-points.ensures at c.in_ok-section.ensures.reads) _ c.in_ok-item_count.ensures.reads _ c.in_ok-tank_count.ensures.reads _ c.in_err-finish.ensures; fits = tt })

pub returns : goal.returns
returns c =
    let range = hull_in_range c.in_ok-count.ensures.reads c.in_ok-particulars.ensures in
    let grid = rw c.points_of-points.ensures at c.in_ok-section.ensures in
    let read =
    all_read c.in_ok-count.ensures.reads c.in_ok-particulars.ensures _ grid.reads _ c.in_ok-item_count.ensures.reads _ c.in_ok-tank_count.ensures.reads c.in_ok-finish.ensures
    in
    let points : c.in_ok-section.field-0 ≡ points_of c.in_ok-particulars.particulars.n c.in_ok-particulars.particulars.m = omega (arith, grid.bounded) in
    record { read = from_start c.args.text.now ∙ rw points at read; fits = (range.0, range.1, c.in_ok-item_count.ensures.bounded.1, c.in_ok-tank_count.ensures.bounded.1) }
