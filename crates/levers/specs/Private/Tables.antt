-- Tables in range and sums over them, and how large they can be.
use Rattle.std.specs.Prelude.{ℕ, ◌+◌, ◌-◌, ◌*◌, ◌≤◌, ◌<◌, ◌≡◌, List, ℤ, length, get_or}
use Rattle.std.specs.Int.Signed.{lt_z}
use Rattle.arithmetic.specs.Choice.{when◌then◌else◌}
use Rattle.ranges.specs.Fields.{most, metacentre}
use Rattle.simpson.specs.Curve.{curve}
use Rattle.levers.specs.Sines.{angle_count}

-- of two angles the one with the greater lever, and the first where they are alike
abbrev pub greater_of : (ℕ → ℤ) → ℕ → ℕ → ℕ
greater_of gz first i = when lt_z (gz first) (gz i) then i else first

-- the multiplied sum over a table from one angle to another, by number
abbrev pub sum_over : List ℕ → ℕ → ℕ → ℕ
sum_over table from to = curve (to - from) (λ i. get_or table (from + i) 0)

-- a number for each angle, and none larger than the highest metacentre
pub record TableInRange (table : List ℕ) : Type 0 where
  pub as_many : length table ≡ angle_count
  pub none_higher : (i : ℕ) → get_or table i 0 ≤ most metacentre

-- two intervals or more, as far as the angles reach
pub record Between (from to : ℕ) : Type 0 where
  pub two : from + 2 ≤ to
  pub within : to < angle_count

-- how large a multiplied sum can be, by the rectangle around it, and so every number of a profile
abbrev pub most_sum : ℕ
most_sum = most metacentre * (24 * angle_count)

-- no rule asks for more, of mm, mm·rad or degrees
abbrev pub least_most : ℕ
least_most = 1_000
