-- A number of 64 bits has few digits. Assumes nothing.
use native.Mathlib.Omega.{arith}
use Rattle.arithmetic.proofs.Crossing.{back_is}
use Rattle.numerals.proofs.Pieces.{few_of_signed}
use Rattle.numerals.proofs.lines.I64Printable.print.Goals as goal

pub returns-clause-few : goal.returns-clause-few
returns-clause-few c = omega (arith, rw (back_is c.ranges.self) at c.print.ensures.length_is, few_of_signed c.ranges.self)
