-- What is read and what is still to be read are the whole run. Assumes nothing.
use mathlib.Core.Path.{◌≡◌}
use lib.ListN.{length}
use Rattle.ranges.specs.Bounds.{section_of}
use Rattle.offsets.proofs.Runs.{Run}
use Rattle.offsets.proofs.reading.Cursor.numbers.Given as goal

abbrev pub invariant-loop-i : goal.invariant-loop-i
invariant-loop-i l = (l.self.text.now ≡ l.initial.self.text.now) × Run l.initial.self.text.now (section_of l.fn.kind) (length l.initial.table) l.initial.self.next l.table l.i l.self.next
