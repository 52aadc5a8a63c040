-- To put what is left of the line from here on is to put all of it from the start. Assumes nothing.
use mathlib.Core.List.{map}
use lib.ListN.{drop}
use Rattle.numerals.proofs.Pieces.{Leads}
use Rattle.writer.specs.Written.{line}
use Rattle.writer.proofs.lines.put_line.Given as goal

abbrev pub invariant-loop-number : goal.invariant-loop-number
invariant-loop-number g l = Leads (line (map g.N.Printable.value (drop l.number-index l.numbers))) l.to (line (map g.N.Printable.value l.numbers)) l.initial.to
