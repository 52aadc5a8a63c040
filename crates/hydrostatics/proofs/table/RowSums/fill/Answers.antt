-- Under a success the rows are written, and otherwise the table is not touched. Assumes nothing.
use Rattle.hydrostatics.proofs.Passed.{made_left, refused_on}
use Rattle.hydrostatics.proofs.table.RowSums.fill.Goals as goal

pub returns-in_err-count : goal.returns-in_err-count
returns-in_err-count c = refused_on c.in_err-count.ensures c.from_residual.ensures.1

pub returns : goal.returns
returns c = made_left c.in_ok-count.ensures c.write_rows.ensures
