-- Where the text is full, nothing is put. Assumes nothing.
use mathlib.Core.Path.{refl}
use native.Mathlib.Omega.{arith}
use Rattle.numerals.proofs.Pieces.{without_room}
use Rattle.numerals.proofs.lines.Lines.put_byte.Goals as goal

pub returns-then-self : goal.returns-then-self
returns-then-self c = without_room (omega arith) refl
