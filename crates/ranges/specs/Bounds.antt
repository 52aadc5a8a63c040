-- A range as the code keeps it, and a place as the code answers it.
use Rattle.std.specs.Prelude.{ℕ, List, Option, Some, None, ltb}
use Rattle.arithmetic.specs.Choice.{when◌then◌else◌}
use Rattle.ranges.specs.Fields.{Range, ◌to◌, ±◌, particulars, half_breadth, item, tank, row_ranges, hopper_width, inclining, shift, cross_curve, heights}
use Rattle.ranges.specs.declared.bounds.Bounds.{Bounds}
use Rattle.ranges.specs.declared.bounds.Bounds.TheVariants.{FromTo, EitherSide}
use Rattle.ranges.specs.declared.bounds.Record.{Record}
use Rattle.ranges.specs.declared.bounds.Record.TheVariants.{Particulars, HalfBreadth, Item, Tank, Row, HopperWidth, InclinedShip, Shift, CrossCurve, Heights}

abbrev pub range_by : Bounds → Range
range_by (FromTo a b) = a to b
range_by (EitherSide b) = ± b

-- the ranges of a record's numbers
abbrev pub section_of : Record → List Range
section_of Particulars = particulars
section_of HalfBreadth = half_breadth
section_of Item = item
section_of Tank = tank
section_of Row = row_ranges
section_of HopperWidth = hopper_width
section_of InclinedShip = inclining
section_of Shift = shift
section_of CrossCurve = cross_curve
section_of Heights = heights

-- the place of a number among so many; of one after the last, none
unfoldable pub place_in : ℕ → ℕ → Option ℕ
place_in count place = when ltb place count then Some place else None
