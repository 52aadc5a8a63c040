-- The rows before row r have passed; a row that does not pass is the first. Assumes nothing.
use Rattle.hydrostatics.specs.Private.Table.{rows_from}
use Rattle.hydrostatics.proofs.Passing.{Passing}
use Rattle.hydrostatics.proofs.table.RowSums.try_rows.Given as goal

abbrev pub invariant-loop-r : goal.invariant-loop-r
invariant-loop-r l = Passing (rows_from l.self.particulars l.self.sums.now) l.r l.before
