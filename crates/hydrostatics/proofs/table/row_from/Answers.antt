-- Each product is within its bound, and the quotients are the definition's; where S is 0, so are its quotients. Assumes nothing.
use native.Mathlib.Omega.{arith}
use Rattle.hydrostatics.proofs.Formulas.{products, row_is, row_empty}
use Rattle.hydrostatics.proofs.table.row_from.Goals as goal

pub overflow_mul-displacement-3 : goal.overflow_mul-displacement-3
overflow_mul-displacement-3 c = omega (arith, products c.requires)

pub returns-then-sum-eq0 : goal.returns-then-sum-eq0
returns-then-sum-eq0 c = row_empty _ _ _ c.if-sum-eq0.true

pub returns : goal.returns
returns c = row_is _ _ _
