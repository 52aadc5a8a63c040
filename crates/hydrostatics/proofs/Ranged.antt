-- The rows of a hull in range are in their own ranges, once they have passed 8 and 9.
--     draft_between                       from the least waterline and spacing to the greatest
--     waterplane_le, volume_le            s·Q and s·S, from the length of the hull: n·s is at most the greatest
--     displacement_le                     from the box around the hull
--     lcb_le, kb_le                       no centre of buoyancy lies beyond the last station or above the waterline
--     area_le                             from the rectangle around the waterplane
--     row_ranged                          all seven
-- Assumes nothing.
use mathlib.Core.Path.{◌≡◌, sym, ap, ◌∙◌}
use mathlib.Core.List.{List}
use Prim.Native.Nat.{ℕ, ◌*◌, ◌/◌, ◌≤◌, ◌<◌}
use native.Mathlib.Nat.{mul_assoc, mul_comm, mul-le-mul, mul-le-mul_left, div-le_of_le-mul, le_trans}
use native.Mathlib.Omega.{arith}
use Rattle.ranges.specs.Fields.{range_of, most, highest_metacentre}
use Rattle.ranges.specs.Limits.{limits}
use Rattle.ranges.specs.Private.InRange.{row_range}
use Rattle.ranges.specs.declared.Particulars.{Particulars}
use Rattle.hydrostatics.specs.Hull.{S, Sz, Sx, Q}
use Rattle.hydrostatics.specs.Row.{waterline_of, row_from, row_at}
use Rattle.hydrostatics.specs.Private.Hull.{InRange}
use Rattle.hydrostatics.proofs.InRows.{Between, RowInRange}
use Rattle.hydrostatics.proofs.Limits.{Q_le, S_le, Sz_le, Sx_le}
use Rattle.hydrostatics.proofs.Metacentre.{bm_le_km}

-- a mean of places is at most the last of them
mean_le : (step moment sum last : ℕ) → moment ≤ last * sum → step * moment / sum ≤ step * last
mean_le step moment sum last h =
    div-le_of_le-mul sum (le_trans (mul-le-mul_left step h) (omega (arith, mul_comm sum (step * last), mul_assoc step last sum)))

module _ {table : List ℕ} {p : Particulars} (hull : InRange table p) where
  -- the rectangle around a waterplane, and the box around the hull, by their greatest length
  rectangle_le : p.s * (most (range_of 5) * (24 * p.n)) ≤ most (range_of 5) * (24 * limits.longest_hull)
  rectangle_le = omega (arith, hull.complete.particulars.length_most)

  pub waterplane_le : (j : ℕ) → p.s * Q table p j ≤ most (range_of 5) * (24 * limits.longest_hull)
  waterplane_le j = le_trans (mul-le-mul_left p.s (Q_le hull j)) rectangle_le

  pub volume_le : {k : ℕ} → k ≤ most (range_of 1) → p.s * S table p k ≤ most (range_of 5) * (24 * limits.longest_hull) * (24 * most (range_of 1))
  volume_le {k} high =
      let waterlines : 24 * k ≤ 24 * most (range_of 1) = omega arith in
      le_trans (mul-le-mul_left p.s (S_le hull k)) (rw (← mul_assoc p.s (most (range_of 5) * (24 * p.n)) (24 * k)) (mul-le-mul rectangle_le waterlines))

  d_most : p.d ≤ most (range_of 3)
  d_most = hull.complete.particulars.d_most

  module _ {k : ℕ} (low : waterline_of 0 ≤ k) (high : k ≤ most (range_of 1)) where
    pub draft_between : Between (row_range 0) (row_at table p k).draft
    unfolding row_from
    draft_between = (omega (arith, mul-le-mul hull.complete.particulars.d_least low), omega (arith, mul-le-mul d_most high))

    pub displacement_le : (row_at table p k).displacement ≤ most (row_range 1)
    unfolding row_from
    displacement_le =
        let turned : p.s * p.d * S table p k ≡ p.s * S table p k * p.d = mul_assoc p.s p.d (S table p k) ∙ ap (λ x. p.s * x) (mul_comm p.d (S table p k)) ∙ sym (mul_assoc p.s (S table p k) p.d) in
        div-le_of_le-mul _ (rw turned (omega (arith, mul-le-mul (mul-le-mul (volume_le high) d_most) hull.complete.particulars.density_most)))

    pub lcb_le : (row_at table p k).lcb ≤ most (row_range 2)
    unfolding row_from
    lcb_le = le_trans (mean_le p.s (Sx table p k) (S table p k) p.n (Sx_le table p k)) (omega (arith, mul_comm p.n p.s, hull.complete.particulars.length_most))

    pub kb_le : (row_at table p k).kb ≤ most (row_range 3)
    unfolding row_from
    kb_le = le_trans (mean_le p.d (Sz table p k) (S table p k) k (Sz_le table p k)) (omega (arith, mul-le-mul d_most high))

    pub area_le : (row_at table p k).area ≤ most (row_range 6)
    unfolding row_from
    area_le = div-le_of_le-mul _ (omega (arith, waterplane_le k))

    pub row_ranged : 0 < (row_at table p k).displacement → (row_at table p k).km ≤ highest_metacentre → RowInRange (row_at table p k)
    row_ranged some under = record {
      draft = draft_between;
      displacement = (some, displacement_le);
      lcb = (omega arith, lcb_le);
      kb = (omega arith, kb_le);
      bm = (omega arith, le_trans (bm_le_km table p k) under);
      km = (omega arith, under);
      area = (omega arith, area_le);
    }
