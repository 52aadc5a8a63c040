-- A token that is found is refused, a number or not. Assumes nothing.
use Rattle.offsets.proofs.Chain.{after_last, at_last}
use Rattle.offsets.proofs.reading.Cursor.finish.Goals as goal

pub returns-in-Some : goal.returns-in-Some
returns-in-Some c d = rw c.at.ensures (after_last _ _ _ c.in-Some.found c.in-Some.ensures d)

pub returns : goal.returns
returns c d = at_last _ c.in_default.ensures d
