-- What rows, display and a table's use refuse has one of the paper's numbers.
--     up_to_numbered, rows_numbered     any rows, and those of a hull
--     display_numbered                  the display of a row
--     usable_numbered                   the use of a table of rows
-- Assumes nothing.
use Prim.Native.Nat.{ℕ, zero, suc}
use mathlib.Core.List.{List}
use Rattle.ranges.specs.Outcome.{Numbered}
use Rattle.ranges.specs.Sizes.{rows_over}
use Rattle.ranges.specs.declared.Particulars.{Particulars}
use Rattle.ranges.proofs.Numbered.{numbered, then_numbered}
use Rattle.hydrostatics.specs.Display.{display_of}
use Rattle.hydrostatics.specs.Row.{row_of}
use Rattle.hydrostatics.specs.Rows.{rows_up_to, rows_by, rows_of}
use Rattle.hydrostatics.specs.Usable.{usable_up_to}
use Rattle.hydrostatics.specs.declared.Row.{Row}

pub up_to_numbered : (row : ℕ → Row) (count : ℕ) → Numbered (rows_up_to row count)
unfolding rows_up_to
up_to_numbered row zero = search numbered
up_to_numbered row (suc r) = then_numbered (up_to_numbered row r) (λ before. search numbered)

pub rows_numbered : (table : List ℕ) (p : Particulars) (room : ℕ) → Numbered (rows_of table p room)
unfolding rows_by
rows_numbered table p room = let rest = up_to_numbered (row_of table p) (rows_over p.m) in search numbered depth 8

pub display_numbered : (row : Row) → Numbered (display_of row)
unfolding display_of
display_numbered row = search numbered

pub usable_numbered : (rows : List ℕ) (count : ℕ) → Numbered (usable_up_to rows count)
unfolding usable_up_to
usable_numbered rows zero = search numbered
usable_numbered rows (suc r) = then_numbered (usable_numbered rows r) (λ good. search numbered)
