-- Hulls given by formula: the sums of a row are 576 times the integrals, and so are those that the call's answers are made of.
--     S_exact, Sx_exact, Sz_exact              to the third degree either way; in station number, or in waterline number, to the second
--     made_displacement, made_lcb, made_kb     of a row that the call made: the integral's, rounded down once
-- Assumes nothing.
use mathlib.Core.Path.{◌≡◌, ap, ◌∙◌}
use mathlib.Core.List.{List}
use Prim.Native.Nat.{ℕ, ◌*◌, ◌/◌, ◌≤◌, ◌<◌}
use native.Mathlib.Omega.{arith}
use lib.IntN.{pos}
use Rattle.ranges.specs.declared.Particulars.{Particulars}
use Rattle.simpson.specs.Formula.{Formula, GivenBy, volume, longitudinal_moment_of, vertical_moment_of}
use Rattle.simpson.proofs.Volumes.{volume_exact, longitudinal_moment_exact, vertical_moment_exact}
use Rattle.hydrostatics.specs.Hull.{half_breadth, S, Sz, Sx}
use Rattle.hydrostatics.specs.Private.Sections.{area_at, moment_at}
use Rattle.hydrostatics.specs.Promise.{MakesRows}
use Rattle.hydrostatics.specs.Row.{row_from, waterline_of}
use Rattle.hydrostatics.specs.Usable.{row_in}
use Rattle.std.specs.Prelude.{Ok}
use Rattle.hydrostatics.proofs.Exchange.{S_along, Sz_along, Sx_over}
use Rattle.hydrostatics.proofs.MadeRows.{made_rows, made_length}

module _ (table : List ℕ) (p : Particulars) (f : Formula) (k : ℕ) (long : 2 ≤ p.n) (deep : 2 ≤ k) (given : GivenBy f p.n k (half_breadth table p)) where
  pub S_exact : f.station_degree ≤ 3 → f.waterline_degree ≤ 3 → pos (S table p k) ≡ volume f p.n k
  unfolding area_at
  S_exact c d = ap pos (S_along table p k) ∙ volume_exact f p.n k long deep (half_breadth table p) given c d

  pub Sx_exact : f.station_degree ≤ 2 → f.waterline_degree ≤ 3 → pos (Sx table p k) ≡ longitudinal_moment_of f p.n k
  Sx_exact c d = ap pos (Sx_over table p k) ∙ longitudinal_moment_exact f p.n k long deep (half_breadth table p) given c d

  pub Sz_exact : f.station_degree ≤ 3 → f.waterline_degree ≤ 2 → pos (Sz table p k) ≡ vertical_moment_of f p.n k
  unfolding moment_at
  Sz_exact c d = ap pos (Sz_along table p k) ∙ vertical_moment_exact f p.n k long deep (half_breadth table p) given c d

-- of a call that answered
module _ {table : List ℕ} {p : Particulars} {rows after : List ℕ} {count : ℕ} (made : MakesRows table p rows after (Ok count)) (r : ℕ) (h : r < count) (f : Formula) (given : GivenBy f p.n (waterline_of r) (half_breadth table p)) where
  sum_exact : f.station_degree ≤ 3 → f.waterline_degree ≤ 3 → pos (S table p (waterline_of r)) ≡ volume f p.n (waterline_of r)
  sum_exact = S_exact table p f (waterline_of r) (made_length made) (omega arith) given

  pub made_displacement : f.station_degree ≤ 3 → f.waterline_degree ≤ 3 → (v : ℕ) × (pos v ≡ volume f p.n (waterline_of r)) × ((row_in after r).displacement ≡ p.s * p.d * v * p.density / 288_000_000_000)
  unfolding row_from
  made_displacement c d = (
    S table p (waterline_of r),
    sum_exact c d,
    ap (λ row. row.displacement) ((made_rows made).1 r h),
  )

  pub made_lcb : f.station_degree ≤ 2 → f.waterline_degree ≤ 3 → (v w : ℕ) × (pos v ≡ volume f p.n (waterline_of r)) × (pos w ≡ longitudinal_moment_of f p.n (waterline_of r)) × ((row_in after r).lcb ≡ p.s * w / v)
  unfolding row_from
  made_lcb c d = (
    S table p (waterline_of r),
    Sx table p (waterline_of r),
    sum_exact (omega arith) d,
    Sx_exact table p f (waterline_of r) (made_length made) (omega arith) given c d,
    ap (λ row. row.lcb) ((made_rows made).1 r h),
  )

  pub made_kb : f.station_degree ≤ 3 → f.waterline_degree ≤ 2 → (v w : ℕ) × (pos v ≡ volume f p.n (waterline_of r)) × (pos w ≡ vertical_moment_of f p.n (waterline_of r)) × ((row_in after r).kb ≡ p.d * w / v)
  unfolding row_from
  made_kb c d = (
    S table p (waterline_of r),
    Sz table p (waterline_of r),
    sum_exact c (omega arith),
    Sz_exact table p f (waterline_of r) (made_length made) (omega arith) given c d,
    ap (λ row. row.kb) ((made_rows made).1 r h),
  )
