-- How large the sums of a hull in range are.
--     place_within               a half-breadth's place is in the table of a complete hull
--     half_breadth_le            no half-breadth is above the greatest
--     Q_le, C_le                 a waterline's sums, by the area of the rectangle around it
--     area_most, moment_most     a station's, up to a waterline
--     X_le                       at most the last station's number times Q
--     S_le, Sz_le, Sx_le         a row's sums: by the box around the hull, and by the last waterline's and station's number
--     Q_most, X_most, C_most, S_most, Sz_most, Sx_most      the same as numbers
-- Assumes nothing.
use mathlib.Core.List.{List}
use Prim.Native.Nat.{ℕ, ◌+◌, ◌*◌, ◌^◌, ◌≤◌, ◌<◌}
use native.Mathlib.Nat.{add-mul, mul-le-mul_right, mul_comm, mul-le-mul, mul-le-mul_left, le_trans, pow-le-pow_left}
use native.Mathlib.Omega.{arith}
use lib.ListN.{length}
use Rattle.ranges.specs.Fields.{range_of, most}
use Rattle.ranges.specs.declared.Particulars.{Particulars}
use Rattle.simpson.specs.Curve.{curve}
use Rattle.simpson.proofs.Curves.{curve_times, curve_mono}
use Rattle.simpson.proofs.Moments.{curve_le}
use Rattle.hydrostatics.specs.Hull.{half_breadth, S, Sz, Sx, Q, C}
use Rattle.hydrostatics.specs.Private.Hull.{Complete, InRange}
use Rattle.hydrostatics.specs.Private.Sections.{area_at, moment_at, most_area}
use Rattle.hydrostatics.specs.Private.Sums.{most_q, most_c, most_s, most_sz, most_sx}
use Rattle.hydrostatics.specs.Private.Waterplanes.{X, most_x}
use Rattle.hydrostatics.proofs.Exchange.{Q_is, C_is, S_is, Sz_is, Sx_is}

-- ordinates times their places, of which none is beyond the last
moment_le : (n : ℕ) (y : ℕ → ℕ) → curve n (λ i. y i * i) ≤ n * curve n y
moment_le n y =
    le_trans (curve_mono n (λ i. y i * i) (λ i. n * y i) (λ i l. omega (arith, mul_comm n (y i), mul-le-mul_left (y i) l)))
    (omega (arith, curve_times n n y))

module _ (table : List ℕ) (p : Particulars) where
  pub X_le : (j : ℕ) → X table p j ≤ p.n * Q table p j
  unfolding X
  X_le j = rw (Q_is table p j) (moment_le p.n (λ i. half_breadth table p i j))

  pub Sz_le : (k : ℕ) → Sz table p k ≤ k * S table p k
  Sz_le k = rw (S_is table p k, Sz_is table p k) (moment_le k (Q table p))

  pub Sx_le : (k : ℕ) → Sx table p k ≤ p.n * S table p k
  Sx_le k =
      rw (S_is table p k, Sx_is table p k)
      (le_trans (curve_mono k (X table p) (λ j. p.n * Q table p j) (λ j l. X_le j)) (omega (arith, curve_times k p.n (Q table p))))

-- a place of the table
pub place_within : {table : List ℕ} {p : Particulars} → Complete table p → {i j : ℕ} → i ≤ p.n → j ≤ p.m → (i * (p.m + 1) ≤ most (range_of 0) * (most (range_of 1) + 1)) × (i * (p.m + 1) + j < length table)
place_within {p} hull h k =
    let stations = le_trans h hull.particulars.n_most in
    let waterlines : p.m + 1 ≤ most (range_of 1) + 1 = omega (arith, hull.particulars.m_most) in
    (mul-le-mul stations waterlines, omega (arith, hull.points, mul-le-mul_right (p.m + 1) h, add-mul p.n 1 (p.m + 1)))

module _ {table : List ℕ} {p : Particulars} (hull : InRange table p) where
  -- the powers of a half-breadth
  pub half_breadth_le : (i j : ℕ) → half_breadth table p i j ≤ most (range_of 5)
  unfolding half_breadth
  half_breadth_le i j = hull.half_breadths_ranged (i * (p.m + 1) + j)

  pub Q_le : (j : ℕ) → Q table p j ≤ most (range_of 5) * (24 * p.n)
  Q_le j = rw (Q_is table p j) (curve_le p.n (most (range_of 5)) (λ i. half_breadth table p i j) (λ i l. half_breadth_le i j))

  pub C_le : (j : ℕ) → C table p j ≤ most (range_of 5) ^ 3 * (24 * p.n)
  C_le j =
      rw (C_is table p j)
      (curve_le p.n (most (range_of 5) ^ 3) (λ i. half_breadth table p i j ^ 3) (λ i l. pow-le-pow_left (half_breadth_le i j) 3))

  pub S_le : (k : ℕ) → S table p k ≤ most (range_of 5) * (24 * p.n) * (24 * k)
  S_le k = rw (S_is table p k) (curve_le k (most (range_of 5) * (24 * p.n)) (Q table p) (λ j l. Q_le j))

  -- of station i up to waterline k
  module _ (i : ℕ) {k : ℕ} (h : k ≤ p.m) where
    pub area_most : area_at table p k i ≤ most_area
    unfolding area_at
    area_most = omega (arith, curve_le k (most (range_of 5)) (λ j. half_breadth table p i j) (λ j l. half_breadth_le i j), hull.complete.particulars.m_most)

    pub moment_most : moment_at table p k i ≤ most (range_of 1) * most_area
    unfolding moment_at area_at
    moment_most =
        let waterlines : k ≤ most (range_of 1) = omega (arith, hull.complete.particulars.m_most) in
        omega (arith, moment_le k (λ j. half_breadth table p i j), mul-le-mul waterlines area_most)

  -- as numbers
  stations : p.n ≤ most (range_of 0)
  stations = hull.complete.particulars.n_most

  pub Q_most : (j : ℕ) → Q table p j ≤ most_q
  Q_most j = omega (arith, Q_le j, stations)

  pub X_most : (j : ℕ) → X table p j ≤ most_x
  X_most j = omega (arith, X_le table p j, mul-le-mul stations (Q_most j))

  pub C_most : (j : ℕ) → C table p j ≤ most_c
  C_most j = omega (arith, C_le j, stations)

  pub S_most : (k : ℕ) → k ≤ most (range_of 1) → S table p k ≤ most_s
  S_most k h =
      let waterlines : 24 * k ≤ 24 * most (range_of 1) = omega arith in
      let largest : most (range_of 5) * (24 * p.n) ≤ most_q = omega (arith, stations) in
      omega (arith, S_le k, mul-le-mul largest waterlines)

  pub Sz_most : (k : ℕ) → k ≤ most (range_of 1) → Sz table p k ≤ most_sz
  Sz_most k h = omega (arith, Sz_le table p k, mul-le-mul h (S_most k h))

  pub Sx_most : (k : ℕ) → k ≤ most (range_of 1) → Sx table p k ≤ most_sx
  Sx_most k h = omega (arith, Sx_le table p k, mul-le-mul stations (S_most k h))
