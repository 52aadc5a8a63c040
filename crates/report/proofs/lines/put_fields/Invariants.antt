-- The fields of the numbers passed are put, and each turn puts one more. Assumes nothing.
use Prim.Native.Nat.{◌*◌}
use mathlib.Core.List.{map}
use lib.ListN.{take}
use Rattle.report.specs.Lines.{fields}
use Rattle.report.specs.Private.Putting.{PutsFew, most_field}
use Rattle.report.proofs.lines.put_fields.Given as goal

abbrev pub invariant-loop-number : goal.invariant-loop-number
invariant-loop-number g l = PutsFew (most_field * l.number-index) (fields (map g.N.Printable.value (take l.number-index l.numbers))) l.initial.to l.to
