-- The lines of what is left of the table are its next line and those after it. Assumes nothing.
use mathlib.Core.List.{map, ◌++◌}
use mathlib.Core.Path.{◌∙◌}
use native.Mathlib.Omega.{arith}
use Rattle.numerals.proofs.Pieces.{Leads, leads_on, leads_end, room_for_next, puts_append}
use Rattle.writer.specs.Private.Putting.{rows_text}
use Rattle.writer.specs.Written.{line}
use Rattle.writer.proofs.Put.{rows_next, rows_last}
use Rattle.writer.proofs.lines.put_table.Goals as goal
use Rattle.writer.proofs.lines.put_table.Goals.{In-Some}

next : (g : _) (c : In-Some g) → Leads (line (map g.N.Printable.value c.in-Some.line.now) ++ rows_text c.args.width (map g.N.Printable.value c.next.new.self.rest.now)) c.loop-line.to (rows_text c.args.width (map g.N.Printable.value c.args.table.now)) c.put_line.new.to
next g c =
    let steps = c.in-Some.ensures.steps in
    rows_next g.N.Printable.value c.args.width c.loop-line.line-iterator.rest.now c.loop-line.invariant.2 c.in-Some.line.now c.next.new.self.rest.now steps.1.0 (steps.1.1 ∙ c.loop-line.invariant.1) c.requires.some

pub put_line-requires-in-loop-line-clause-room : goal.put_line-requires-in-loop-line-clause-room
put_line-requires-in-loop-line-clause-room g c = room_for_next _ _ (next g (goal.at.put_line-requires-in-loop-line-clause-room g c).In-Some)

pub loop-line-preserved : goal.loop-line-preserved
loop-line-preserved g c =
    let size = c.in-Some.ensures.steps.0 in
    ((omega arith, tt), size ∙ c.loop-line.invariant.1, leads_on c.put_line-in-loop-line.ensures (next g (goal.at.loop-line-preserved g c).In-Some))

pub returns : goal.returns
returns g c =
    let few = c.in-None.ensures.steps.1.0 in
    puts_append c.put_line.ensures (leads_end (rows_last g.N.Printable.value c.args.width c.loop-line.line-iterator.rest.now c.loop-line.invariant.2 (omega (arith, few, c.loop-line.invariant.1))))
