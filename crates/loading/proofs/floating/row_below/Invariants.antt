-- The walk up the rows while the next is not above the weight. Assumes nothing.
use mathlib.Core.Path.{◌≡◌}
use Prim.Native.Nat.{◌+◌, ◌-◌, ◌≤◌}
use Rattle.hydrostatics.specs.Usable.{row_in}
use Rattle.loading.specs.Private.Afloat.{count_of}
use Rattle.loading.specs.Table.{hull, rows_from, place_from, place_of}
use Rattle.loading.proofs.floating.row_below.Given as goal

abbrev pub invariant-loop-r : goal.invariant-loop-r
invariant-loop-r l =
    let rows = l.rows.numbers.now in ((row_in rows l.r).displacement ≤ l.weight) × (place_of (hull rows) l.weight ≡ place_from (row_in rows l.r) (rows_from rows (l.r + 1) (count_of rows - (l.r + 1))) l.weight)
