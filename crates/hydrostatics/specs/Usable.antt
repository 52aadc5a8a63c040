-- "A row is usable if its numbers are in range, row r has draft (r+2)·g with g half of row 0's draft, whole and 10..500,
-- displacements rise strictly, and KB + BM fits KM as above." All that the loading condition knows of a row table.
use Rattle.std.specs.Prelude.{ℕ, zero, suc, ◌+◌, ◌*◌, ◌/◌, Bool, true, ◌&&◌, ◌||◌, List, map, ltb, eqb, pos, get_or, take, drop}
use Rattle.arithmetic.specs.Choice.{when◌then◌else◌}
use Rattle.ranges.specs.Fields.{within, range_of, row_ranges}
use Rattle.ranges.specs.Outcome.{Outcome, answered, refused, and_then}
use Rattle.ranges.specs.Outside.{first_outside}
use Rattle.ranges.specs.Refusals.{rows_not_usable}
use Rattle.ranges.specs.Sizes.{row_width}
use Rattle.hydrostatics.specs.Row.{waterline_of}
use Rattle.hydrostatics.specs.declared.Row.{Row}

module _ (rows : List ℕ) where
  -- "Each row goes into the part of the lent table that starts at seven times its number"
  abbrev pub seven : ℕ → List ℕ
  seven r = take row_width (drop (row_width * r) rows)

  unfoldable pub row_in : ℕ → Row
  row_in r = record {
    draft = get_or rows (row_width * r) 0;
    displacement = get_or rows (row_width * r + 1) 0;
    lcb = get_or rows (row_width * r + 2) 0;
    kb = get_or rows (row_width * r + 3) 0;
    bm = get_or rows (row_width * r + 4) 0;
    km = get_or rows (row_width * r + 5) 0;
    area = get_or rows (row_width * r + 6) 0;
  }

  -- g, the distance between waterlines, field 3
  abbrev pub spacing : ℕ
  spacing = (row_in 0).draft / 2

  unfoldable pub in_range : ℕ → Bool
  in_range r = eqb (first_outside row_ranges (map pos (seven r))) row_width

  unfoldable pub spaced : ℕ → Bool
  spaced r = eqb (2 * spacing) (row_in 0).draft && within (range_of 3) (pos spacing) && eqb (row_in r).draft (waterline_of r * spacing)

  unfoldable pub rises : ℕ → Bool
  rises zero = true
  rises (suc r) = ltb (row_in r).displacement (row_in (suc r)).displacement

  -- "So KB + BM is KM or KM less one"
  unfoldable pub metacentre_fits : ℕ → Bool
  metacentre_fits r = eqb ((row_in r).kb + (row_in r).bm) (row_in r).km || eqb ((row_in r).kb + (row_in r).bm + 1) (row_in r).km

  unfoldable pub usable_row : ℕ → Bool
  usable_row r = in_range r && spaced r && rises r && metacentre_fits r

  -- refusal 10 at the first bad one of the first `count` rows
  unfoldable pub usable_up_to : ℕ → Outcome ℕ
  usable_up_to zero = answered 0
  usable_up_to (suc r) = and_then (usable_up_to r) (λ good. when usable_row r then answered (suc r) else refused rows_not_usable r)
