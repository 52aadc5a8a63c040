-- A station up to a waterline, as it stands in the table, and the row's sums along the stations.
--     station_area, station_moment            the sums over the station's part of the table are its area and height moment
--     station_summable, station_balanced      and can be made
--     station_last                            the last half-breadth of the part is that at the waterline
--     Total                                   the sum over a curve of the stations, which 64 bits hold
--     total_s, total_sz, total_sx, total_q, total_c       the row's five
--     along_is, along_can                     so it is made of what is filled in
--     lever_is, lever_can                     and that of each times its station's number
-- Assumes nothing.
use mathlib.Core.Path.{◌≡◌, sym, ap, ◌∙◌}
use mathlib.Core.List.{List}
use Prim.Native.Nat.{ℕ, ◌+◌, ◌-◌, ◌*◌, ◌^◌, ◌≤◌, ◌<◌}
use native.Mathlib.Omega.{arith}
use lib.ListN.{length, get_or, take, drop, length-drop}
use lib.Seq.{get_or-drop, get_or-take}
use Rattle.ranges.specs.Fields.{range_of, most}
use Rattle.ranges.specs.declared.Particulars.{Particulars}
use Rattle.simpson.specs.Curve.{curve}
use Rattle.hydrostatics.specs.Hull.{half_breadth, S, Sz, Sx, Q, C}
use Rattle.hydrostatics.specs.Row.{waterline_of}
use Rattle.hydrostatics.specs.Private.Hull.{Filled, InRange}
use Rattle.hydrostatics.specs.Private.Sections.{area_at, moment_at, curve_of, moment_of, Summable, Balanced, Along}
use Rattle.hydrostatics.proofs.Exchange.{S_along, Sz_along, Sx_along, Q_is, C_is}
use Rattle.hydrostatics.proofs.Limits.{place_within, area_most, moment_most, Q_most, C_most, S_most, Sz_most, Sx_most}
use Rattle.hydrostatics.proofs.Plain.{filled_curve, filled_moment, filled_summable, filled_balanced}

-- ---- station i up to waterline k, `count` waterlines from its keel on
module _ {table : List ℕ} {p : Particulars} (hull : InRange table p) {i k : ℕ} (there : i ≤ p.n) (low : waterline_of 0 ≤ k) (high : k ≤ p.m) (count : ℕ) (e : count ≡ k + 1) where
  keel : ℕ
  keel = i * (p.m + 1)

  stands : Filled 0 (half_breadth table p i) count (drop keel table)
  unfolding half_breadth keel
  stands = record { at = λ j l. get_or-drop (i * (p.m + 1)) table j 0 }

  long : count ≤ length (drop keel table)
  unfolding keel
  long = omega (arith, length-drop (i * (p.m + 1)) table, (place_within hull.complete there high).1)

  up_to : (y : ℕ → ℕ) → curve (count - 1) y ≡ curve k y
  up_to y = let n : count - 1 ≡ k = omega arith in ap (λ n. curve n y) n

  area_is : curve (count - 1) (half_breadth table p i) ≡ area_at table p k i
  unfolding area_at
  area_is = up_to (half_breadth table p i)

  moment_is : curve (count - 1) (λ j. half_breadth table p i j * j) ≡ moment_at table p k i
  unfolding moment_at
  moment_is = up_to (λ j. half_breadth table p i j * j)

  pub station_area : curve_of (take count (drop (i * (p.m + 1)) table)) ≡ area_at table p k i
  unfolding keel
  station_area = filled_curve stands (omega arith) long ∙ area_is

  pub station_moment : moment_of (take count (drop (i * (p.m + 1)) table)) ≡ moment_at table p k i
  unfolding keel
  station_moment = filled_moment stands (omega arith) long ∙ moment_is

  pub station_last : get_or (take count (drop (i * (p.m + 1)) table)) k 0 ≡ half_breadth table p i k
  unfolding keel
  station_last = get_or-take count (drop (i * (p.m + 1)) table) k 0 (omega arith) ∙ stands.at k (omega arith)

  pub station_summable : Summable (take count (drop (i * (p.m + 1)) table))
  unfolding keel
  station_summable = filled_summable stands (omega arith) long (omega arith) (omega (arith, area_is, area_most hull i high))

  pub station_balanced : Balanced (take count (drop (i * (p.m + 1)) table))
  unfolding keel
  station_balanced =
      filled_balanced stands (omega arith) long (omega arith) (omega (arith, hull.complete.particulars.m_most)) (omega (arith, moment_is, moment_most hull i high))

-- ---- along the stations

pub record Total (n : ℕ) (f : ℕ → ℕ) (total : ℕ) : Type 0 where
  pub is : curve n f ≡ total
  pub fits : total < 2 ^ 64

module _ {table : List ℕ} {p : Particulars} (hull : InRange table p) (k : ℕ) (h : k ≤ most (range_of 1)) where
  pub total_s : Total p.n (area_at table p k) (S table p k)
  total_s = record { is = sym (S_along table p k); fits = omega (arith, S_most hull k h) }

  pub total_sz : Total p.n (moment_at table p k) (Sz table p k)
  total_sz = record { is = sym (Sz_along table p k); fits = omega (arith, Sz_most hull k h) }

  pub total_sx : Total p.n (λ i. area_at table p k i * i) (Sx table p k)
  total_sx = record { is = sym (Sx_along table p k); fits = omega (arith, Sx_most hull k h) }

  pub total_q : Total p.n (λ i. half_breadth table p i k) (Q table p k)
  total_q = record { is = sym (Q_is table p k); fits = omega (arith, Q_most hull k) }

  pub total_c : Total p.n (λ i. half_breadth table p i k ^ 3) (C table p k)
  total_c = record { is = sym (C_is table p k); fits = omega (arith, C_most hull k) }

module _ {n : ℕ} (few : 2 ≤ n) (many : n ≤ most (range_of 0)) {f : ℕ → ℕ} {l : List ℕ} (along : Along f (n + 1) l) where
  up_to_n : (y : ℕ → ℕ) → curve (n + 1 - 1) y ≡ curve n y
  up_to_n y = let same : n + 1 - 1 ≡ n = omega arith in ap (λ n. curve n y) same

  module _ {total : ℕ} (of : Total n f total) where
    pub along_is : curve_of (take (n + 1) l) ≡ total
    along_is = filled_curve along.filled (omega arith) (omega (arith, along.long)) ∙ up_to_n f ∙ of.is

    pub along_can : Summable (take (n + 1) l)
    along_can = filled_summable along.filled (omega arith) (omega (arith, along.long)) (omega arith) (omega (arith, up_to_n f, of.is, of.fits))

  module _ {total : ℕ} (of : Total n (λ i. f i * i) total) where
    pub lever_is : moment_of (take (n + 1) l) ≡ total
    lever_is = filled_moment along.filled (omega arith) (omega (arith, along.long)) ∙ up_to_n (λ i. f i * i) ∙ of.is

    pub lever_can : Balanced (take (n + 1) l)
    lever_can =
        filled_balanced along.filled (omega arith) (omega (arith, along.long)) (omega arith) (omega arith) (omega (arith, up_to_n (λ i. f i * i), of.is, of.fits))
