-- What is left of the table from place i on has the first number out of range where the whole table has it. Assumes nothing.
use mathlib.Core.Path.{◌≡◌}
use lib.ListN.{drop}
use Rattle.ranges.specs.Outside.{outside_from, first_outside}
use Rattle.ranges.specs.Bounds.{section_of}
use Rattle.ranges.proofs.tables.first_outside.Given as goal

abbrev pub invariant-loop-i : goal.invariant-loop-i
invariant-loop-i g l =
    outside_from (section_of l.fn.kind) l.i (drop l.i (g.N.Number.values l.table)) ≡ first_outside (section_of l.fn.kind) (g.N.Number.values l.table)
