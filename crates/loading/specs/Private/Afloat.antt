-- A usable table of rows in the lent list, and where a weight within it floats: the words of private contracts.
use Rattle.std.specs.Prelude.{ℕ, zero, suc, ◌+◌, ◌*◌, ◌-◌, ◌/◌, ◌≤◌, ◌<◌, ◌≡◌, Bool, true, false, not, ◌&&◌, ◌||◌, eqb, ltb, pos, List, Option, Some, None, length}
use Rattle.arithmetic.specs.Choice.{when◌then◌else◌}
use Rattle.ranges.specs.Fields.{most, within, range_of, highest_metacentre}
use Rattle.ranges.specs.Private.InRange.{row_range}
use Rattle.hydrostatics.specs.Row.{waterline_of}
use Rattle.hydrostatics.specs.declared.Row.{Row}
use Rattle.hydrostatics.specs.Usable.{row_in, usable_up_to}
use Rattle.ranges.specs.Outcome.{Outcome, answered, refused, and_then}
use Rattle.ranges.specs.Refusals.{rows_not_usable, wrong_size, row_table}
use Rattle.ranges.specs.Sizes.{row_width, least_rows, most_rows}
use Rattle.loading.specs.Condition.{rows_allowed}
use Rattle.loading.specs.Paper.{paper_rules}
use Rattle.loading.specs.Stability.{km_at}
use Rattle.loading.specs.Table.{Table, last_row, hull, place_of, place_from, rows_from, draft_of}
use Rattle.loading.specs.declared.Reading.{Reading}
use Rattle.loading.specs.declared.floating.Floating.{Floating}

-- "2 to 19 whole rows"
pub record RowsWhole (rows : List ℕ) (count : ℕ) : Type 0 where
  pub whole : length rows ≡ row_width * count
  pub least : least_rows ≤ count
  pub most : count ≤ most_rows

pub record RowsUsable (rows : List ℕ) (count : ℕ) : Type 0 where
  pub size : RowsWhole rows count
  pub usable : usable_up_to rows count ≡ answered count

-- how many rows a lent list has
abbrev pub count_of : List ℕ → ℕ
count_of rows = length rows / row_width

-- what a lent list of rows comes to: refused by its size, or at the first row that is not usable; or its numbers as they are
unfoldable pub rows_tried : List ℕ → Outcome (List ℕ)
rows_tried rows =
    when not (rows_allowed (length rows)) then refused wrong_size row_table
    else and_then (usable_up_to rows (count_of rows)) (λ good. answered rows)

abbrev pub is_answered : {A : Type 0} → Outcome A → Bool
is_answered (answered a) = true
is_answered (refused number place) = false

-- the tests of a row, by the first row and the row before it
abbrev pub spaced_from : Row → Row → ℕ → Bool
spaced_from first row r =
    eqb (2 * (first.draft / 2)) first.draft && within (range_of 3) (pos (first.draft / 2)) && eqb row.draft (waterline_of r * (first.draft / 2))

-- row 0 has no row before it
abbrev pub row_before : List ℕ → ℕ → Option Row
row_before rows zero = None
row_before rows (suc r) = Some (row_in rows r)

abbrev pub rises_after : Option Row → Row → Bool
rises_after (Some before) row = ltb before.displacement row.displacement
rises_after None row = true

abbrev pub fits_metacentre : Row → Bool
fits_metacentre row = eqb (row.kb + row.bm) row.km || eqb (row.kb + row.bm + 1) row.km

-- the first row that is not usable, if there is one
abbrev pub usable_but_for : ℕ → Option ℕ → Outcome ℕ
usable_but_for count (Some bad) = refused rows_not_usable bad
usable_but_for count None = answered count

-- neither refusal 11 nor 12
pub record Within (t : Table) (W : ℕ) : Type 0 where
  pub least : t.first.displacement ≤ W
  pub most : W ≤ (last_row t).displacement

-- heights of a KM at most, a at lo and b at hi, and a weight between the two
pub record OnLine (a b lo hi w : ℕ) : Type 0 where
  pub low : lo ≤ w
  pub high : w < hi
  pub most : hi ≤ most (row_range 1)
  pub first : a ≤ highest_metacentre
  pub second : b ≤ highest_metacentre

-- the last row not above W, from which W falls where it falls in the table
pub record RowBelow (rows : List ℕ) (W r : ℕ) : Type 0 where
  pub there : r < count_of rows
  pub not_above : (row_in rows r).displacement ≤ W
  pub next_above : r + 1 < count_of rows → W < (row_in rows (r + 1)).displacement
  pub falls : place_of (hull rows) W ≡ place_from (row_in rows r) (rows_from rows (r + 1) (count_of rows - (r + 1))) W

pub record Floats (reading : Reading) (rows : List ℕ) (W : ℕ) (f : Floating) : Type 0 where
  pub draft : f.draft ≡ draft_of (hull rows) W
  pub km : f.km ≡ km_at (paper_rules reading) (hull rows) W
  pub km_most : f.km ≤ highest_metacentre
