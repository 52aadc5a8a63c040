-- To put what is left of the line from here on is to put all of it from the start. Assumes nothing.
use native.Mathlib.Omega.{arith}
use Rattle.numerals.proofs.Pieces.{leads_all, leads_on, leads_end, room_for_next}
use Rattle.writer.proofs.Put.{line_next, line_last}
use Rattle.writer.proofs.lines.put_line.Goals as goal

pub loop-number-init : goal.loop-number-init
loop-number-init g c = leads_all _ _ c.requires.room

pub put_number-requires : goal.put_number-requires
put_number-requires g c = room_for_next _ _ (line_next g.N.Printable.value c.args.numbers.now c.loop-number.number-index c.number-item.result c.loop-number.invariant c.loop-number-test.true c.number-item.is)

pub loop-number-preserved : goal.loop-number-preserved
loop-number-preserved g c = leads_on c.put_number.ensures (line_next g.N.Printable.value c.args.numbers.now c.loop-number.number-index c.number-item.result c.loop-number.invariant c.loop-number-test.true c.number-item.is)

pub put_number-requires-2 : goal.put_number-requires-2
put_number-requires-2 g c =
    room_for_next _ _ (line_last g.N.Printable.value c.args.numbers.now c.loop-number.number-index c.index-numbers-last.result c.loop-number.invariant (omega arith) c.requires.some c.index-numbers-last.is)

pub returns : goal.returns
returns g c =
    leads_end (leads_on c.put_number-2.ensures (line_last g.N.Printable.value c.args.numbers.now c.loop-number.number-index c.index-numbers-last.result c.loop-number.invariant (omega arith) c.requires.some c.index-numbers-last.is))
