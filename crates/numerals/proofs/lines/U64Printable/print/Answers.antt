-- A number of 64 bits has few digits. Assumes nothing.
use native.Mathlib.Omega.{arith}
use Rattle.numerals.proofs.Pieces.{few_of_wholes}
use Rattle.numerals.proofs.lines.U64Printable.print.Goals as goal

pub returns-clause-few : goal.returns-clause-few
returns-clause-few c = omega (arith, c.print_whole.ensures.length_is, few_of_wholes c.args.self (omega arith))
