-- The sum over a curve, station by station.
--     Swept                              what it is after the first i stations
--     swept_none, swept_more             before the first; one station more, in the code's `i + 1`
--     swept_moment, swept_cube           one station more of a moment, and of cubes
--     swept_le, swept_all                never more than the whole; after the last station it is the whole
--     swept_most                         so much as a bound on the ordinates passed allows
-- Assumes nothing.
use mathlib.Core.Path.{◌≡◌, sym, ap, ap₂, ◌∙◌}
use Prim.Native.Nat.{ℕ, ◌+◌, ◌*◌, ◌^◌, ◌≤◌, ◌<◌}
use native.Mathlib.Nat.{mul_assoc, mul-le-mul_left}
use native.Mathlib.Omega.{arith}
use Rattle.arithmetic.specs.Sum.{sum_to}
use Rattle.arithmetic.proofs.Algebra.{natural}
use Rattle.arithmetic.proofs.Ring.{pow3}
use Rattle.arithmetic.proofs.Sums.{sum_none, sum_more, sum_mono, sum_grows}
use Rattle.simpson.specs.Multipliers.{multiplier}
use Rattle.simpson.specs.Curve.{curve}
use Rattle.simpson.proofs.Moments.{curve_le}

pub record Swept (n : ℕ) (y : ℕ → ℕ) (i s : ℕ) : Type 0 where
  pub within : i ≤ n + 1
  pub so_far : s ≡ sum_to i (λ i. multiplier n i * y i)

module _ {n : ℕ} {y : ℕ → ℕ} where
  pub swept_none : Swept n y 0 0
  swept_none = record { within = omega arith; so_far = sym (sum_none natural (λ i. multiplier n i * y i)) }

  module _ {i s : ℕ} (so : Swept n y i s) where
    pub swept_more : i ≤ n → {u v : ℕ} → u ≡ multiplier n i → v ≡ y i → Swept n y (i + 1) (s + u * v)
    swept_more h e f =
        record { within = omega arith; so_far = sum_more natural i (λ i. multiplier n i * y i) so.so_far (ap₂ ◌*◌ e f) }

    pub swept_le : s ≤ curve n y
    unfolding curve
    swept_le = rw so.so_far (sum_grows i (n + 1) (λ i. multiplier n i * y i) so.within)

    pub swept_all : n < i → s ≡ curve n y
    unfolding curve
    swept_all h =
        let all : i ≡ n + 1 = omega arith in so.so_far ∙ ap (λ k. sum_to k (λ i. multiplier n i * y i)) all

    pub swept_most : (b : ℕ) → ((k : ℕ) → k < i → y k ≤ b) → s ≤ b * (24 * n)
    unfolding curve
    swept_most b h =
        let passed = sum_mono i (λ k. multiplier n k * y k) (λ k. multiplier n k * b) (λ k l. mul-le-mul_left (multiplier n k) (h k l)) in
        omega (arith, so.so_far, passed, sum_grows i (n + 1) (λ k. multiplier n k * b) so.within, curve_le n b (λ k. b) (λ k l. omega arith))

-- the same where each ordinate is multiplied by its station's number last
pub swept_moment : {n : ℕ} (y : ℕ → ℕ) {i s : ℕ} → Swept n (λ i. y i * i) i s → i ≤ n → {u v : ℕ} → u ≡ multiplier n i → v ≡ y i → Swept n (λ i. y i * i) (i + 1) (s + u * v * i)
swept_moment y {i} so h {u} {v} e f = rw (mul_assoc u v i) (swept_more so h e (ap (λ v. v * i) f))

-- and where it is multiplied by its own square
pub swept_cube : {n : ℕ} (y : ℕ → ℕ) {i s : ℕ} → Swept n (λ i. y i ^ 3) i s → i ≤ n → {u v : ℕ} → u ≡ multiplier n i → v ≡ y i → Swept n (λ i. y i ^ 3) (i + 1) (s + u * v * (v * v))
swept_cube y {i} so h {u} {v} e f =
    rw (mul_assoc u v (v * v)) (swept_more so h e (sym (mul_assoc v v v) ∙ sym (pow3 v) ∙ ap (λ v. v ^ 3) f))
