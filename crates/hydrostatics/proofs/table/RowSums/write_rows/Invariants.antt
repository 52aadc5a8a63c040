-- The table holds the rows that are written, one after another, and what stood beyond them. Assumes nothing.
use Rattle.hydrostatics.specs.Private.Table.{rows_from}
use Rattle.hydrostatics.proofs.Writing.{Written}
use Rattle.hydrostatics.proofs.table.RowSums.write_rows.Given as goal

abbrev pub invariant-loop-r : goal.invariant-loop-r
invariant-loop-r l = Written (rows_from l.self.particulars l.self.sums.now) l.initial.rows l.r l.rows
