-- What change request 13 asks of hulls given by formula, sentence by sentence. `volume`, `longitudinal_moment_of` and `vertical_moment_of` are 576 times the integrals of y, y·i and y·j.
use Rattle.std.specs.Prelude.{◌&&◌, ◌≡◌, List, ℕ, ◌+◌, ◌*◌, ◌/◌, ◌^◌, ◌≤◌, ◌<◌, eqb, ℤ, pos, length, Ok}
use Rattle.arithmetic.specs.Choice.{when◌then◌else◌}
use Rattle.ranges.specs.Outcome.{answered}
use Rattle.ranges.specs.declared.Particulars.{Particulars}
use Rattle.simpson.specs.Formula.{Formula, GivenBy, monomial, volume, longitudinal_moment_of, vertical_moment_of}
use Rattle.hydrostatics.specs.Hull.{half_breadth, S, Sz, Sx}
use Rattle.hydrostatics.specs.Promise.{MakesRows}
use Rattle.hydrostatics.specs.Row.{waterline_of}
use Rattle.hydrostatics.specs.Rows.{rows_of}
use Rattle.hydrostatics.specs.Usable.{row_in}
use Rattle.hydrostatics.specs.declared.Row.{Row}

-- "When half-breadths are a polynomial of at most third degree in station and in waterline number, with whole coefficients, S is 576 times the exact double integral over every row;
-- and .. Sx and Sz are 576 times theirs when the degree in that direction is at most two": the row of waterline k
pub record ExactSums (half_breadths : List ℕ) (p : Particulars) (f : Formula) (k : ℕ) : Type 0 where
  pub volume_is : f.station_degree ≤ 3 → f.waterline_degree ≤ 3 → pos (S half_breadths p k) ≡ volume f p.n k
  pub longitudinal_is : f.station_degree ≤ 2 → f.waterline_degree ≤ 3 → pos (Sx half_breadths p k) ≡ longitudinal_moment_of f p.n k
  pub vertical_is : f.station_degree ≤ 3 → f.waterline_degree ≤ 2 → pos (Sz half_breadths p k) ≡ vertical_moment_of f p.n k

-- "the displacement that the integral gives, rounded down once", and the centres: v is 576 times the integral of y, w of y·i or y·j
pub record ExactRow (p : Particulars) (f : Formula) (k : ℕ) (row : Row) : Type 0 where
  pub displacement_is : f.station_degree ≤ 3 → f.waterline_degree ≤ 3
      → (v : ℕ) × (pos v ≡ volume f p.n k) × (row.displacement ≡ p.s * p.d * v * p.density / 288_000_000_000)
  pub lcb_is : f.station_degree ≤ 2 → f.waterline_degree ≤ 3
      → (v w : ℕ) × (pos v ≡ volume f p.n k) × (pos w ≡ longitudinal_moment_of f p.n k) × (row.lcb ≡ p.s * w / v)
  pub kb_is : f.station_degree ≤ 3 → f.waterline_degree ≤ 2
      → (v w : ℕ) × (pos v ≡ volume f p.n k) × (pos w ≡ vertical_moment_of f p.n k) × (row.kb ≡ p.d * w / v)

-- y = iᵃ·jᵇ
abbrev pub power : ℕ → ℕ → Formula
power a b = record { station_degree = a; waterline_degree = b; coefficient = λ c d. when eqb c a && eqb d b then pos 1 else pos 0 }

-- A hull that a formula gives and the call answers, five intervals long and five deep, with a sum that is not the integral.
-- That is 3,125 there, 5⁵/5 times 5, so that 576 times it is whole.
pub record Missed (f : Formula) (sum : List ℕ → Particulars → ℕ → ℕ) (integral : Formula → ℕ → ℕ → ℤ) : Type 0 where
  pub half_breadths : List ℕ
  pub p : Particulars
  pub given : GivenBy f p.n p.m (half_breadth half_breadths p)
  pub rows : List ℕ
  pub answered_with : rows_of half_breadths p (length rows) ≡ answered rows
  pub five_by_five : (p.n ≡ 5) × (p.m ≡ 5)
  pub sum_is : sum half_breadths p 5 ≡ 1_803_360
  pub integral_is : integral f 5 5 ≡ pos (576 * 3_125)

pub record ExactVolumes : Type 0 where
  -- "the monomial's integral over 0..n and 0..k as a fraction cleared by 576/((a+1)(b+1)), which is whole for a, b ≤ 3"
  pub integrals_are_whole : (a b : ℕ) → a ≤ 3 → b ≤ 3
      → (576 / ((a + 1) * (b + 1)) * ((a + 1) * (b + 1)) ≡ 576)
      × ((n k : ℕ) → monomial n k a b ≡ 576 / ((a + 1) * (b + 1)) * (n ^ (a + 1) * k ^ (b + 1)))
  -- "where every half-breadth is the polynomial at its station and waterline", of the table's own numbers; at every waterline that has a row
  pub sums_are_exact : (half_breadths : List ℕ) (p : Particulars) (f : Formula) (k : ℕ) → 2 ≤ p.n → 2 ≤ k → GivenBy f p.n k (half_breadth half_breadths p)
      → ExactSums half_breadths p f k
  -- "such a hull, answered": of any row that the call made
  pub rows_are_exact : {half_breadths : List ℕ} {p : Particulars} {rows after : List ℕ} {count : ℕ} → MakesRows half_breadths p rows after (Ok count)
      → (r : ℕ) → r < count → (f : Formula) → GivenBy f p.n (waterline_of r) (half_breadth half_breadths p)
      → ExactRow p f (waterline_of r) (row_in after r)
  -- "And that fourth degree fails": in either direction, and for the moments the third in theirs
  pub fourth_degree_fails : Missed (power 4 0) S volume × Missed (power 0 4) S volume
  pub third_degree_moments_fail : Missed (power 3 0) Sx longitudinal_moment_of × Missed (power 0 3) Sz vertical_moment_of
