-- The rows that any five sums make, as they lie in a table, and what filling the lent table promises. No definition of a row cites this file.
use Rattle.std.specs.Prelude.{ℕ, zero, suc, ◌≡◌, Result, List, [], ◌++◌, get_or}
use Rattle.ranges.specs.declared.Particulars.{Particulars}
use Rattle.ranges.specs.declared.refusal.Refusal.{Refusal}
use Rattle.ranges.specs.Reasons.{paper}
use Rattle.hydrostatics.specs.Promise.{count_of, table_after}
use Rattle.hydrostatics.specs.Row.{waterline_of, row_from, numbers_of}
use Rattle.hydrostatics.specs.Rows.{rows_up_to}
use Rattle.hydrostatics.specs.Private.Sums.{no_sums}
use Rattle.hydrostatics.specs.declared.Row.{Row}
use Rattle.hydrostatics.specs.declared.table.Sums.{Sums}

-- the numbers of rows 0, 1, … up to, not including, row `count`, as they lie in a table
unfoldable pub numbers_up_to : (ℕ → Row) → ℕ → List ℕ
numbers_up_to row zero = []
numbers_up_to row (suc r) = numbers_up_to row r ++ numbers_of (row r)

-- the rows that these sums make
abbrev pub rows_from : Particulars → List Sums → ℕ → Row
rows_from p sums r = row_from p (waterline_of r) (get_or sums r no_sums)

module _ (row : ℕ → Row) (count : ℕ) (answer : Result ℕ Refusal) where
  -- what is answered of the rows
  pub record TriedRows : Type 0 where
    pub answer_is : paper answer ≡ count_of (rows_up_to row count)

  -- and what is left in the lent table
  pub record FillsRows (rows rowsAfter : List ℕ) : Type 0 where
    pub tried : TriedRows
    pub left : rowsAfter ≡ table_after (rows_up_to row count) rows
