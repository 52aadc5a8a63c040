-- What the code keeps of a hull's waterlines from row to row, and what its private functions promise one another. No definition of a row cites this file.
use Rattle.std.specs.Prelude.{ℕ, ◌+◌, ◌-◌, ◌*◌, ◌≤◌, ◌<◌, ◌≡◌, List, Option, Some, None, length, get_or, take}
use Rattle.ranges.specs.Fields.{range_of, most}
use Rattle.ranges.specs.declared.Particulars.{Particulars}
use Rattle.simpson.specs.Multipliers.{multiplier}
use Rattle.simpson.specs.Curve.{curve}
use Rattle.hydrostatics.specs.Hull.{half_breadth, Q, C}
use Rattle.hydrostatics.specs.Private.Hull.{Filled, OneOutside}
use Rattle.hydrostatics.specs.Private.Sums.{most_q}
use Rattle.hydrostatics.specs.declared.table.Sums.{Sums}
use Rattle.hydrostatics.specs.declared.waterplanes.Waterline.{Waterline}

-- the multiplier of each station over n intervals
pub record StationMultipliers (n : ℕ) (u : List ℕ) : Type 0 where
  pub long : length u ≡ n + 1
  pub each : Filled 0 (multiplier n) (n + 1) u

-- the sum of u·y·i at waterline j, beside those of u·y and of u·y³, which are Q and C
unfoldable pub X : List ℕ → Particulars → ℕ → ℕ
X table p j = curve p.n (λ i. half_breadth table p i j * i)

-- the half-breadths of waterline j are in range
abbrev pub LineInRange : List ℕ → Particulars → ℕ → Type 0
LineInRange table p j = (i : ℕ) → i < p.n + 1 → half_breadth table p i j ≤ most (range_of 5)

-- what waterline j contributes
abbrev pub waterline_at : List ℕ → Particulars → ℕ → Waterline
waterline_at table p j = record { q = Q table p j; x = X table p j; c = C table p j }

abbrev pub no_waterline : Waterline
no_waterline = record { q = 0; x = 0; c = 0 }

pub record WaterlineOf (table : List ℕ) (p : Particulars) (j : ℕ) (line : Waterline) : Type 0 where
  pub is_in_range : LineInRange table p j
  pub is : line ≡ waterline_at table p j

-- what a sweep over waterline j ends with
abbrev pub GatheredOf : List ℕ → Particulars → ℕ → Option Waterline → Type 0
GatheredOf table p j (Some line) = WaterlineOf table p j line
GatheredOf table p j None = OneOutside table

-- how large the sum of u·y·i over a waterline is
abbrev pub most_x : ℕ
most_x = most (range_of 0) * most_q

-- waterline j of those that are kept, the waterlines up to number k, and the number of the last
abbrev pub line : List Waterline → ℕ → Waterline
line lines j = get_or lines j no_waterline

abbrev pub up_to : ℕ → List Waterline → List Waterline
up_to k lines = take (k + 1) lines

abbrev pub last : List Waterline → ℕ
last lines = length lines - 1

-- what is kept of them, one at the least, is no larger
pub record Small (lines : List Waterline) : Type 0 where
  pub some : 0 < length lines
  pub few : last lines ≤ most (range_of 1)
  pub q_most : (j : ℕ) → j < length lines → (line lines j).q ≤ most_q
  pub x_most : (j : ℕ) → j < length lines → (line lines j).x ≤ most_x

-- the five sums of the last waterline: three are curves through what is kept of all of them, two are kept of it
abbrev pub sums_from : List Waterline → Sums
sums_from lines = record {
  sum = curve (last lines) (λ j. (line lines j).q);
  sz = curve (last lines) (λ j. (line lines j).q * j);
  sx = curve (last lines) (λ j. (line lines j).x);
  q = (line lines (last lines)).q;
  c = (line lines (last lines)).c;
}
