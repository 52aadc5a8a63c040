-- The number is printed into the room that is left, or leaves it as it was. Assumes nothing.
use Prim.Native.Nat.{◌+◌, ◌≤◌}
use mathlib.Core.Path.{refl, ap}
use native.Mathlib.Omega.{arith}
use lib.ListN.{length}
use Rattle.numerals.proofs.Pieces.{piece_laid, text_unlaid, lines_same, with_room, without_room}
use Rattle.numerals.specs.Printed.{printed}
use Rattle.numerals.proofs.lines.Lines.put_number.Goals as goal

pub returns-then-room-count-clause-puts : goal.returns-then-room-count-clause-puts
returns-then-room-count-clause-puts g c =
    let said = c.print-count.ensures.text in
    without_room (omega (arith, said.length_is)) (lines_same c.args.self.now _ (text_unlaid c.args.self.now (printed (g.N.Printable.value c.args.number)) _ (omega (arith, said.length_is)) said.left))

pub returns-clause-puts : goal.returns-clause-puts
returns-clause-puts g c =
    let said = c.print-count.ensures.text in
    let text = printed (g.N.Printable.value c.args.number) in
    let room : c.args.self.now.at + length text ≤ length c.args.self.now.text.now = omega (arith, said.length_is, c.args.self.now.within) in
    with_room (omega arith) (piece_laid _ _ text refl (ap (λ n. c.args.self.now.at + n) said.length_is) _ room said.left refl)
