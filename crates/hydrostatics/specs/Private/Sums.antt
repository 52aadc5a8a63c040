-- The five sums of the rows of a hull, and how large they are: between the engines that make them and the table that is made of them.
-- No definition of a row cites this file.
use Rattle.std.specs.Prelude.{ℕ, ◌*◌, ◌^◌, ◌≤◌, ◌<◌, List, Option, Some, None, length, get_or}
use Rattle.ranges.specs.Fields.{range_of, most}
use Rattle.ranges.specs.Private.InRange.{ParticularsInRange}
use Rattle.ranges.specs.Sizes.{rows_over}
use Rattle.ranges.specs.declared.Particulars.{Particulars}
use Rattle.hydrostatics.specs.Row.{sums_at, waterline_of}
use Rattle.hydrostatics.specs.Private.Hull.{Filled, InRange, OneOutside}
use Rattle.hydrostatics.specs.declared.table.Sums.{Sums}

abbrev pub no_sums : Sums
no_sums = record { sum = 0; sz = 0; sx = 0; q = 0; c = 0 }

-- the five sums of each row of a hull
pub record MakesSums (table : List ℕ) (p : Particulars) (sums : List Sums) : Type 0 where
  pub each : Filled no_sums (λ r. sums_at table p (waterline_of r)) (rows_over p.m) sums

-- what is made of a complete hull: the sums where it is in range, none where a half-breadth is not
abbrev pub TriedSums : List ℕ → Particulars → Option (List Sums) → Type 0
TriedSums table p (Some sums) = InRange table p × MakesSums table p sums
TriedSums table p None = OneOutside table

-- how large the sums are that a hull in range may have: of a waterline, by the rectangle around it, and of a row, by the box around the hull
abbrev pub most_q : ℕ
most_q = most (range_of 5) * (24 * most (range_of 0))

abbrev pub most_c : ℕ
most_c = most (range_of 5) ^ 3 * (24 * most (range_of 0))

abbrev pub most_s : ℕ
most_s = most_q * (24 * most (range_of 1))

abbrev pub most_sz : ℕ
most_sz = most (range_of 1) * most_s

abbrev pub most_sx : ℕ
most_sx = most (range_of 0) * most_s

-- sums of waterline k that are no larger
pub record SumsWithin (k : ℕ) (sums : Sums) : Type 0 where
  pub k_most : k ≤ most (range_of 1)
  pub sum_most : sums.sum ≤ most_s
  pub sz_most : sums.sz ≤ most_sz
  pub sx_most : sums.sx ≤ most_sx
  pub q_most : sums.q ≤ most_q
  pub c_most : sums.c ≤ most_c

-- and of each of these rows
pub record AllWithin (p : Particulars) (sums : List Sums) : Type 0 where
  pub particulars : ParticularsInRange p
  pub each : (r : ℕ) → r < length sums → SumsWithin (waterline_of r) (get_or sums r no_sums)
