-- The bytes are copied into the part from their place on. Assumes nothing.
use mathlib.Core.Path.{refl}
use native.Mathlib.Omega.{arith}
use Rattle.numerals.proofs.Pieces.{piece_put, with_room}
use Rattle.numerals.proofs.lines.Lines.put.Goals as goal

pub returns : goal.returns
returns c = with_room (omega arith) (piece_put _ _ c.args.bytes.now refl refl _ c.copy_from_slice.ensures.after refl)
