-- At a row's own weight that row's draft and KM; else the straight line to the next, and KM by its reading. Assumes nothing.
use mathlib.Core.Path.{◌≡◌, ap}
use Prim.Native.Nat.{◌/◌}
use native.Mathlib.Omega.{arith}
use Rattle.hydrostatics.specs.Usable.{spacing}
use Rattle.loading.proofs.Trying.{lent_usable}
use Rattle.loading.proofs.Flotation.{Afloat, next_there, draft_line, draft_fits, km_line, floats_on, floats_between}
use Rattle.loading.proofs.floating.afloat.Goals as goal
use Rattle.loading.proofs.floating.afloat.Goals.{After-row-spacing, After-row-row}

found : (c : After-row-row) → let s = c.args in Afloat s.rows.numbers.now s.weight c.row_below-r.result c.row-row.result
found c =
    record { usable = lent_usable c.args.rows.numbers.now c.args.rows.usable; within = c.requires; below = c.row_below-r.ensures; here = c.row-row.ensures }

spacing_is : (c : After-row-spacing) → c.row-spacing.result.draft / 2 ≡ spacing c.args.rows.numbers.now
spacing_is c = ap (λ row. row.draft / 2) c.row-spacing.ensures

pub returns-then-weight-below : goal.returns-then-weight-below
returns-then-weight-below c = floats_on (found (goal.at.returns-then-weight-below c).After-row-row) _ (omega (arith, c.if-weight-below.true))

pub overflow_add-r : goal.overflow_add-r
overflow_add-r c = omega (arith, next_there (found (goal.at.overflow_add-r c).After-row-row) c.if-weight-below.false)

pub row-next-requires : goal.row-next-requires
row-next-requires c = omega (arith, next_there (found (goal.at.row-next-requires c).After-row-row) c.if-weight-below.false)

pub on_line-requires : goal.on_line-requires
on_line-requires c = draft_line (found (goal.at.on_line-requires c).After-row-row) c.if-weight-below.false c.row-next.ensures (spacing_is (goal.at.on_line-requires c).After-row-spacing)

pub overflow_add-result : goal.overflow_add-result
overflow_add-result c = omega (arith, draft_fits (found (goal.at.overflow_add-result c).After-row-row) c.if-weight-below.false c.row-next.ensures (spacing_is (goal.at.overflow_add-result c).After-row-spacing) c.on_line.ensures)

pub km_between-requires : goal.km_between-requires
km_between-requires c = km_line (found (goal.at.km_between-requires c).After-row-row) c.if-weight-below.false c.row-next.ensures

pub returns : goal.returns
returns c = floats_between (found (goal.at.returns c).After-row-row) c.if-weight-below.false c.row-next.ensures (spacing_is (goal.at.returns c).After-row-spacing) c.on_line.ensures _ c.km_between.ensures
