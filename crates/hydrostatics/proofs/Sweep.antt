-- How large the sums over a hull are, station by station.
--     q_most, x_most, c_most             the sums over a waterline on the way
--     sum_most, sz_most, sx_most         the sums of a row on the way
-- Assumes nothing.
use mathlib.Core.List.{List}
use Prim.Native.Nat.{ℕ, ◌*◌, ◌^◌, ◌≤◌, ◌<◌}
use native.Mathlib.Nat.{mul-le-mul, pow-le-pow_left}
use native.Mathlib.Omega.{arith}
use Rattle.ranges.specs.Fields.{range_of, most}
use Rattle.ranges.specs.Private.InRange.{ParticularsInRange}
use Rattle.ranges.specs.declared.Particulars.{Particulars}
use Rattle.simpson.proofs.Sweep.{Swept, swept_most}
use Rattle.hydrostatics.specs.Hull.{half_breadth}
use Rattle.hydrostatics.specs.Private.Sums.{most_q, most_c, most_s, most_sz, most_sx}
use Rattle.hydrostatics.specs.Private.Waterplanes.{most_x, line, last, Small}
use Rattle.hydrostatics.specs.declared.waterplanes.Waterline.{Waterline}

-- ---- over the stations of waterline j, so far as their half-breadths are in range
module _ (table : List ℕ) {p : Particulars} (range : ParticularsInRange p) (j : ℕ) {i s : ℕ} (passed : (k : ℕ) → k < i → half_breadth table p k j ≤ most (range_of 5)) where
  pub q_most : Swept p.n (λ i. half_breadth table p i j) i s → s ≤ most_q
  q_most so = omega (arith, swept_most so (most (range_of 5)) passed, range.n_most)

  pub x_most : Swept p.n (λ i. half_breadth table p i j * i) i s → s ≤ most_x
  x_most so =
      let below : (k : ℕ) → k < i → k ≤ most (range_of 0) = λ k l. omega (arith, so.within, range.n_most) in
      omega (arith, swept_most so (most (range_of 5) * most (range_of 0)) (λ k l. mul-le-mul (passed k l) (below k l)), range.n_most)

  pub c_most : Swept p.n (λ i. half_breadth table p i j ^ 3) i s → s ≤ most_c
  c_most so = omega (arith, swept_most so (most (range_of 5) ^ 3) (λ k l. pow-le-pow_left (passed k l) 3), range.n_most)

-- ---- over the waterlines of a row
module _ {lines : List Waterline} (small : Small lines) {i s : ℕ} where
  pub sum_most : Swept (last lines) (λ j. (line lines j).q) i s → s ≤ most_s
  sum_most so = omega (arith, swept_most so most_q (λ j l. small.q_most j (omega (arith, so.within, small.some))), small.few)

  pub sz_most : Swept (last lines) (λ j. (line lines j).q * j) i s → s ≤ most_sz
  sz_most so =
      let below : (j : ℕ) → j < i → j ≤ most (range_of 1) = λ j l. omega (arith, so.within, small.few) in
      omega (arith, swept_most so (most_q * most (range_of 1)) (λ j l. mul-le-mul (small.q_most j (omega (arith, so.within, small.some))) (below j l)), small.few)

  pub sx_most : Swept (last lines) (λ j. (line lines j).x) i s → s ≤ most_sx
  sx_most so = omega (arith, swept_most so most_x (λ j l. small.x_most j (omega (arith, so.within, small.some))), small.few)
