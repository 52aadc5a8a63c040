-- The table holds the rows that are written, one after another, and what stood beyond them. Assumes nothing.
use mathlib.Core.Path.{◌∙◌}
use native.Mathlib.Omega.{arith}
use Rattle.hydrostatics.proofs.Writing.{written_none, written_more}
use Rattle.hydrostatics.proofs.table.RowSums.write_rows.Goals as goal

pub loop-r-init : goal.loop-r-init
loop-r-init c = written_none

pub loop-r-preserved : goal.loop-r-preserved
loop-r-preserved c =
    written_more c.loop-r.invariant c.row_from-made.ensures c.copy_from_slice.new.self (omega arith) (c.copy_from_slice.ensures.after ∙ c.numbers.ensures) (omega arith)
