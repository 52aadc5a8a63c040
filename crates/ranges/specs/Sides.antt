-- A signed y as its two sides, in mm from the middle line: to starboard where it is above 0, to port where it is below.
use Rattle.std.specs.Prelude.{suc, ℤ, pos, negsuc}
use Rattle.ranges.specs.declared.Sides.{Sides}

abbrev pub sides_of : ℤ → Sides
sides_of (pos n) = record { port = 0; starboard = n }
sides_of (negsuc n) = record { port = suc n; starboard = 0 }
