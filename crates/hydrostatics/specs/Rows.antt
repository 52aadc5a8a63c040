-- What the rows of a hull come to: the numbers of all rows, or the first refusal in the paper's order.
use Rattle.std.specs.Prelude.{ℕ, zero, suc, ◌+◌, ◌*◌, not, List, [], ◌++◌, map, leb, ltb, eqb, pos, length}
use Rattle.arithmetic.specs.Choice.{when◌then◌else◌}
use Rattle.ranges.specs.Fields.{particulars, half_breadth, highest_metacentre}
use Rattle.ranges.specs.Limits.{Limits, limits}
use Rattle.ranges.specs.Outcome.{Outcome, answered, refused, and_then}
use Rattle.ranges.specs.Outside.{first_outside, bad_particular_by}
use Rattle.ranges.specs.Refusals.{out_of_range, wrong_size, displacement_not_rising, metacentre_too_high, place_of_half_breadths, half_breadth_table, row_table}
use Rattle.ranges.specs.Sizes.{row_width, rows_over, points_of}
use Rattle.ranges.specs.declared.Particulars.{Particulars}
use Rattle.hydrostatics.specs.Row.{row_of}
use Rattle.hydrostatics.specs.Row as Row
use Rattle.hydrostatics.specs.declared.Row.{Row}

-- of any rows
module _ (row : ℕ → Row) where
  -- the displacement of the row before row r; before the first there is none, so that a displacement of 0 is not above it
  unfoldable pub displacement_before : ℕ → ℕ
  displacement_before zero = 0
  displacement_before (suc r) = (row r).displacement

  -- the numbers of the first `count` rows, "8 and 9 row by row upward"
  unfoldable pub rows_up_to : ℕ → Outcome (List ℕ)
  rows_up_to zero = answered []
  rows_up_to (suc r) = and_then (rows_up_to r) (λ before.
      when leb (row r).displacement (displacement_before r) then refused displacement_not_rising r
      else when ltb highest_metacentre (row r).km then refused metacentre_too_high r
      else answered (before ++ Row.numbers_of (row r)))

module _ (table : List ℕ) (p : Particulars) where
  -- "Rows: particulars, 7 (half-breadths exact, room at least 7(m−1)), half-breadths, then 8 and 9"
  unfoldable pub rows_by : Limits → ℕ → Outcome (List ℕ)
  rows_by allowed room =
      let bad_particular = bad_particular_by allowed p in
      let badHalfBreadth = first_outside half_breadth (map pos table) in
      when ltb bad_particular (length particulars) then refused out_of_range bad_particular
      else when not (eqb (length table) (points_of p.n p.m)) then refused wrong_size half_breadth_table
      else when ltb room (row_width * rows_over p.m) then refused wrong_size row_table
      else when ltb badHalfBreadth (length table) then refused out_of_range (place_of_half_breadths + badHalfBreadth)
      else rows_up_to (row_of table p) (rows_over p.m)

  abbrev pub rows_of : ℕ → Outcome (List ℕ)
  rows_of = rows_by limits
