-- "So KB + BM is KM or KM less one", of every hull, be it in range or not.
--     quotients_fit          two quotients by one divisor, against the quotient of the sum
--     metacentre_fitting        KB + BM is KM or KM less one
--     bm_le_km               so BM is never above KM
-- Assumes nothing.
use mathlib.Core.Path.{◌≡◌, sym, ap, ◌∙◌}
use mathlib.Core.List.{List}
use mathlib.Core.Logic.{◌⊎◌, inl, inr, ⊎_elim}
use Prim.Native.Nat.{ℕ, zero, suc, ◌+◌, ◌*◌, ◌/◌, ◌^◌, ◌≤◌, ◌<◌}
use native.Mathlib.Nat.{add-mul, mul_assoc, mul-div-mul_left, div-zero, zero-div, zero-mul, lt_of_mul-lt-mul_right, eq-or-lt_of_le}
use native.Mathlib.Omega.{arith}
use Rattle.arithmetic.proofs.Ring.{pow2}
use Rattle.arithmetic.proofs.Rounding.{down_of}
use Rattle.ranges.specs.declared.Particulars.{Particulars}
use Rattle.hydrostatics.specs.Hull.{S, Sz, C}
use Rattle.hydrostatics.specs.Row.{row_from, row_at}

pub quotients_fit : (a c b : ℕ) → (a / b + c / b ≡ (a + c) / b) ⊎ (a / b + c / b + 1 ≡ (a + c) / b)
quotients_fit a c zero = inl (rw (div-zero a, div-zero c, div-zero (a + c)))
quotients_fit a c (suc b) =
    let n = suc b in
    let one = down_of a n (omega arith) in
    let other = down_of c n (omega arith) in
    let both = down_of (a + c) n (omega arith) in
    let sum : (a / n + c / n) * n ≡ a / n * n + c / n * n = add-mul (a / n) (c / n) n in
    let less : a / n + c / n < (a + c) / n + 1 = lt_of_mul-lt-mul_right n (omega (arith, add-mul ((a + c) / n) 1 n)) in
    let more : (a + c) / n < a / n + c / n + 2 = lt_of_mul-lt-mul_right n (omega (arith, add-mul (a / n + c / n) 2 n)) in
    ⊎_elim (λ (e : a / n + c / n ≡ (a + c) / n). inl e) (λ (l : a / n + c / n < (a + c) / n). inr (omega arith)) (eq-or-lt_of_le (omega arith))

-- a factor of both may be left out, be it 0
cancelled : (d z s : ℕ) → d * z / s ≡ d ^ 2 * z / (d * s)
cancelled zero z s = rw (zero-mul z, zero-mul s, zero-div s)
cancelled (suc d) z s =
    sym (ap (λ n. n / (suc d * s)) (ap (λ n. n * z) (pow2 (suc d)) ∙ mul_assoc (suc d) (suc d) z) ∙ mul-div-mul_left (suc d * z) s (omega arith))

module _ (table : List ℕ) (p : Particulars) (k : ℕ) where
  pub metacentre_fitting : ((row_at table p k).kb + (row_at table p k).bm ≡ (row_at table p k).km) ⊎ ((row_at table p k).kb + (row_at table p k).bm + 1 ≡ (row_at table p k).km)
  unfolding row_from
  metacentre_fitting =
      rw (cancelled p.d (Sz table p k) (S table p k)) (quotients_fit (p.d ^ 2 * Sz table p k) (8 * C table p k) (p.d * S table p k))

  pub bm_le_km : (row_at table p k).bm ≤ (row_at table p k).km
  bm_le_km = ⊎_elim (λ e. omega arith) (λ e. omega arith) metacentre_fitting
