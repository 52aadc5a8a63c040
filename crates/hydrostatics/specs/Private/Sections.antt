-- What the plain calculation makes of a hull's stations, and what its private functions promise one another. No definition of a row cites this file.
use Rattle.std.specs.Prelude.{ℕ, ◌+◌, ◌-◌, ◌*◌, ◌^◌, ◌≤◌, ◌<◌, ◌≡◌, List, length, get_or}
use Rattle.ranges.specs.Fields.{range_of, most}
use Rattle.ranges.specs.declared.Particulars.{Particulars}
use Rattle.simpson.specs.Curve.{curve}
use Rattle.hydrostatics.specs.Hull.{half_breadth}
use Rattle.hydrostatics.specs.Private.Hull.{Filled}
use Rattle.hydrostatics.specs.declared.sections.Section.{Section}
use Rattle.hydrostatics.specs.declared.sections.Sections.{Sections}

-- the sum over the curve through the first ordinates, over n intervals; through all of them; and through each times its place
unfoldable pub curve_from : ℕ → List ℕ → ℕ
curve_from n ordinates = curve n (λ i. get_or ordinates i 0)

abbrev pub curve_of : List ℕ → ℕ
curve_of ordinates = curve_from (length ordinates - 1) ordinates

unfoldable pub moment_of : List ℕ → ℕ
moment_of ordinates = curve (length ordinates - 1) (λ i. get_or ordinates i 0 * i)

-- n intervals there are, with a sum that 64 bits hold
pub record Covers (n : ℕ) (ordinates : List ℕ) : Type 0 where
  pub enough : n < length ordinates
  pub fits : curve_from n ordinates < 2 ^ 64

-- two intervals at the least, with such a sum
pub record Summable (ordinates : List ℕ) : Type 0 where
  pub enough : 3 ≤ length ordinates
  pub fits : curve_of ordinates < 2 ^ 64

-- the same of the ordinates times their places, no more of them than the longest hull has stations
pub record Balanced (ordinates : List ℕ) : Type 0 where
  pub enough : 3 ≤ length ordinates
  pub most_stations : length ordinates ≤ most (range_of 0) + 1
  pub fits : moment_of ordinates < 2 ^ 64

-- room for the longest hull, with f of each station
pub record Along (f : ℕ → ℕ) (stations : ℕ) (l : List ℕ) : Type 0 where
  pub long : length l ≡ most (range_of 0) + 1
  pub filled : Filled 0 f stations l

-- how large a station's area is, by the rectangle around it
abbrev pub most_area : ℕ
most_area = most (range_of 5) * (24 * most (range_of 1))

module _ (table : List ℕ) (p : Particulars) where
  -- the area of station i up to waterline k, and its height moment
  unfoldable pub area_at : ℕ → ℕ → ℕ
  area_at k i = curve k (λ j. half_breadth table p i j)

  unfoldable pub moment_at : ℕ → ℕ → ℕ
  moment_at k i = curve k (λ j. half_breadth table p i j * j)

  pub record SectionOf (i k : ℕ) (section : Section) : Type 0 where
    pub area_is : section.area ≡ area_at k i
    pub moment_is : section.moment ≡ moment_at k i
    pub half_breadth_is : section.half_breadth ≡ half_breadth table p i k

  pub record SectionsOf (k : ℕ) (sections : Sections) : Type 0 where
    pub areas_are : Along (area_at k) (p.n + 1) sections.areas
    pub moments_are : Along (moment_at k) (p.n + 1) sections.moments
    pub half_breadths_are : Along (λ i. half_breadth table p i k) (p.n + 1) sections.half_breadths
    pub cubes_are : Along (λ i. half_breadth table p i k ^ 3) (p.n + 1) sections.cubes
