-- How long the text of a file can be: every number at its longest.
use Rattle.std.specs.Prelude.{ℕ, ◌+◌, ◌*◌, List, [], ◌∷◌, pos, length}
use Rattle.numerals.specs.Printed.{printed}
use Rattle.ranges.specs.Fields.{Range, ◌to◌, ±◌, particulars, half_breadth, item, tank}
use Rattle.ranges.specs.Sizes.{room_for_half_breadths, most_items, most_tanks}

-- a number of a range: the digits of the greatest, a minus where there can be one, and the space or line feed after it
abbrev pub longest_number : Range → ℕ
longest_number (a to b) = length (printed (pos b)) + 1
longest_number (± b) = length (printed (pos b)) + 2

-- a record of such numbers
unfoldable pub longest_record : List Range → ℕ
longest_record [] = 0
longest_record (r ∷ rs) = longest_number r + longest_record rs

-- so many records, after their count
abbrev pub longest_section : ℕ → List Range → ℕ
longest_section most fields = longest_number (0 to most) + most * longest_record fields

unfoldable pub longest_text : ℕ
longest_text =
    longest_number (0 to length particulars) + longest_record particulars
    + longest_section room_for_half_breadths half_breadth
    + longest_section most_items item
    + longest_section most_tanks tank
