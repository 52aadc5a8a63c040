-- A letter, the fields and a line feed. Assumes nothing.
use native.Mathlib.Omega.{arith}
use Rattle.numerals.proofs.Pieces.{was_put}
use Rattle.report.proofs.Fields.{few_line}
use Rattle.report.proofs.Pieces.{few_of, puts_both, room_le, room_next}
use Rattle.report.proofs.lines.put_line.Goals as goal

pub returns : goal.returns
returns c =
    let letter = was_put (room_le (omega arith) c.requires) c.put_byte.ensures in
    let fields = puts_both (few_of letter) c.put_fields.ensures in
    few_line letter c.put_fields.ensures (was_put (room_next fields c.requires (omega arith)) c.put_byte-2.ensures)
