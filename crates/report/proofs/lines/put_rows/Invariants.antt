-- The lines of the rows passed are put, and each turn puts one more. Assumes nothing.
use mathlib.Core.Path.{◌≡◌}
use lib.ListN.{length}
use Rattle.ranges.specs.Sizes.{row_width}
use Rattle.report.proofs.Fields.{RowsPut}
use Rattle.report.proofs.lines.put_rows.Given as goal

abbrev pub invariant-loop-row : goal.invariant-loop-row
invariant-loop-row l =
    (goal.iterator-loop-row.can_next l.row-iterator × goal.iterator-loop-row.is_finite l.row-iterator) × (l.row-iterator.size ≡ row_width)
    × RowsPut l.rows (length l.yielded) l.row-iterator.rest.now l.initial.to l.to
