-- To put the lines of what is left of the table is to put all of them from the start. Assumes nothing.
use mathlib.Core.List.{map}
use mathlib.Core.Path.{◌≡◌}
use Rattle.numerals.proofs.Pieces.{Leads}
use Rattle.writer.specs.Private.Putting.{rows_text}
use Rattle.writer.proofs.lines.put_table.Given as goal

abbrev pub invariant-loop-line : goal.invariant-loop-line
invariant-loop-line g l =
    ((goal.iterator-loop-line g).can_next l.line-iterator × (goal.iterator-loop-line g).is_finite l.line-iterator) × (l.line-iterator.size ≡ l.width)
    × Leads (rows_text l.width (map g.N.Printable.value l.line-iterator.rest.now)) l.to (rows_text l.width (map g.N.Printable.value l.table)) l.initial.to
