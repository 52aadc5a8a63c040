-- How many records and numbers there may be, and the room for them.
use Rattle.std.specs.Prelude.{ℕ, ◌+◌, ◌*◌, ◌-◌, ◌%◌, ◌/◌, Bool, ◌&&◌, leb, eqb, length}
use Rattle.ranges.specs.Fields.{range_of, least, most, item, tank, row_ranges, shift}
use Rattle.ranges.specs.Limits.{Limits, limits}

-- "Text of at most" 32,768 "bytes."
abbrev pub longest_file : ℕ
longest_file = limits.longest_file

-- "Items 0..32", "Tanks 0..16": "the counts of items and tanks count records"
abbrev pub most_items : ℕ
most_items = 32

abbrev pub most_tanks : ℕ
most_tanks = 16

-- how many numbers an item, a tank, a row and a shift have
abbrev pub item_width : ℕ
item_width = length item

abbrev pub tank_width : ℕ
tank_width = length tank

abbrev pub row_width : ℕ
row_width = length row_ranges

abbrev pub shift_width : ℕ
shift_width = length shift

-- m − 1 rows, one for each waterline from number 2 up: 2 of the smallest hull, 19 of the largest
abbrev pub rows_over : ℕ → ℕ
rows_over m = m - 1

abbrev pub least_rows : ℕ
least_rows = rows_over (least (range_of 1))

abbrev pub most_rows : ℕ
most_rows = rows_over (most (range_of 1))

-- "(n+1)(m+1)" half-breadths
abbrev pub points_of : ℕ → ℕ → ℕ
points_of n m = (n + 1) * (m + 1)

-- the reader's room, which holds the numbers of any file: 1,701, 128 and 128
abbrev pub room_for_half_breadths_by : Limits → ℕ
room_for_half_breadths_by allowed = points_of allowed.most_intervals (most (range_of 1))

abbrev pub room_for_half_breadths : ℕ
room_for_half_breadths = room_for_half_breadths_by limits

abbrev pub room_for_items : ℕ
room_for_items = item_width * most_items

abbrev pub room_for_tanks : ℕ
room_for_tanks = tank_width * most_tanks

-- room for the rows of any hull: 133
abbrev pub room_for_rows : ℕ
room_for_rows = row_width * most_rows

-- "whole records, at most 32 and 16": so many numbers are records of a width, and no more of them than allowed
unfoldable pub whole_records : ℕ → ℕ → ℕ → Bool
whole_records width allowed count = eqb (count % width) 0 && leb (count / width) allowed
