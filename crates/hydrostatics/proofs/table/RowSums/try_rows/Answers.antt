-- The rows before row r have passed; a row that does not pass is the first. Assumes nothing.
use mathlib.Core.Path.{ap}
use native.Mathlib.Omega.{arith}
use Rattle.std.specs.Prelude.{Err}
use Rattle.ranges.specs.Reasons.{paper}
use Rattle.hydrostatics.proofs.Passing.{passing_none, passing_more, passing_all, too_low, too_high, refusal}
use Rattle.hydrostatics.proofs.table.RowSums.try_rows.Goals as goal

pub loop-r-init : goal.loop-r-init
loop-r-init c = passing_none

pub returns-then-row-before : goal.returns-then-row-before
returns-then-row-before c = refusal (too_low c.loop-r.invariant c.row_from-row.ensures c.if-row-before.true _ (omega arith)) (ap (λ r. paper (Err r)) c.at.ensures)

pub returns-then-row-gt-HIGHEST_METACENTRE : goal.returns-then-row-gt-HIGHEST_METACENTRE
returns-then-row-gt-HIGHEST_METACENTRE c = refusal (too_high c.loop-r.invariant c.row_from-row.ensures c.if-row-before.false c.if-row-gt-HIGHEST_METACENTRE.true _ (omega arith)) (ap (λ r. paper (Err r)) c.at-then-row-gt-HIGHEST_METACENTRE.ensures)

pub loop-r-preserved : goal.loop-r-preserved
loop-r-preserved c = (passing_more c.loop-r.invariant c.row_from-row.ensures c.if-row-before.false c.if-row-gt-HIGHEST_METACENTRE.false)

pub returns : goal.returns
returns c = passing_all c.loop-r.invariant (omega arith)
