-- A number, and a separator after it. Assumes nothing.
use borrow.Author.Rules.{rules}
use Rattle.numerals.proofs.Pieces.{both_put}
use Rattle.writer.proofs.lines.put_number.Goals as goal

pub returns : goal.returns
returns g c = search (rules, both_put)
