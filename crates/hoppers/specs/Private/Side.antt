-- One side of a free surface: what its widths give to A, M and I.
use Rattle.std.specs.Prelude.{ℕ, ◌-◌, ◌*◌, ◌/◌, ◌^◌, ◌≤◌, ◌≡◌, List, length, get_or}
use Rattle.ranges.specs.Fields.{range_of, least, most}
use Rattle.simpson.specs.Curve.{curve}
use Rattle.hoppers.specs.Hopper.{interval_count, width_count}
use Rattle.hoppers.specs.declared.Side.{Side}

-- the sums over its widths, their squares and their cubes
abbrev pub side_of : List ℕ → Side
side_of widths = record {
  widths = curve (length widths - 1) (λ i. get_or widths i 0);
  squares = curve (length widths - 1) (λ i. get_or widths i 0 ^ 2);
  cubes = curve (length widths - 1) (λ i. get_or widths i 0 ^ 3);
}

-- how large they are of widths in range, by the rectangle around them
abbrev pub most_widths : ℕ
most_widths = most (range_of 25) * (24 * most interval_count)

abbrev pub most_squares : ℕ
most_squares = most (range_of 25) ^ 2 * (24 * most interval_count)

abbrev pub most_cubes : ℕ
most_cubes = most (range_of 25) ^ 3 * (24 * most interval_count)

-- and the inertia of both, rounded up and before it is multiplied by the interval: I/72 at the most
abbrev pub most_rounded : ℕ
most_rounded = 2 * most_cubes / 72

-- as many widths as there may be, and none too wide; beyond the end there is 0
pub record SideInRange (widths : List ℕ) : Type 0 where
  pub count_least : least width_count ≤ length widths
  pub count_most : length widths ≤ most width_count
  pub none_wider : (i : ℕ) → get_or widths i 0 ≤ most (range_of 25)

-- both sides, as many widths to each, and the interval
pub record SurfaceInRange (port starboard : List ℕ) (h : ℕ) : Type 0 where
  pub as_many : length port ≡ length starboard
  pub to_port : SideInRange port
  pub to_starboard : SideInRange starboard
  pub interval_most : h ≤ most (range_of 26)
