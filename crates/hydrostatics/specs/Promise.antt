-- What the call that makes the rows of a hull promises.
use Rattle.std.specs.Prelude.{ℕ, ◌/◌, ◌≡◌, List, Result, length}
use Rattle.ranges.specs.Outcome.{Outcome, answer_with, left_with}
use Rattle.ranges.specs.Reasons.{paper}
use Rattle.ranges.specs.Sizes.{row_width}
use Rattle.ranges.specs.declared.Particulars.{Particulars}
use Rattle.ranges.specs.declared.refusal.Refusal.{Refusal}
use Rattle.hydrostatics.specs.Rows.{rows_of}

-- "The answer carries the row count"
abbrev pub row_count : List ℕ → ℕ
row_count numbers = length numbers / row_width

abbrev pub count_of : Outcome (List ℕ) → Outcome ℕ
count_of = answer_with row_count

-- "places beyond the last row stay as they were"; a refusal leaves the table as it was
abbrev pub table_after : Outcome (List ℕ) → List ℕ → List ℕ
table_after = left_with (λ numbers. numbers)

pub record MakesRows (table : List ℕ) (p : Particulars) (rows rowsAfter : List ℕ) (answer : Result ℕ Refusal) : Type 0 where
  pub answer_is : paper answer ≡ count_of (rows_of table p (length rows))
  pub left : rowsAfter ≡ table_after (rows_of table p (length rows)) rows
