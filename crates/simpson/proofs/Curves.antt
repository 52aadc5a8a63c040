-- Laws of the sum over a curve.
--     curve_same, curve_ℤ_same      equal ordinates, equal sums
--     curve_plus, curve_times      it is linear
--     curve_ℤ_plus, curve_ℤ_times    the same for ordinates of either sign
--     curve_mono                   ordinates never larger, a sum never larger
--     curve_swap                   over a surface, either way first
--     curve_ℤ_sum                   of a sum of curves it is the sum
--     pos_curve                    the same over numbers of either sign
--     curve_ℤ_less                  of differences it is the difference
--     curve_few                    nothing over fewer than two intervals, for which there is no rule
-- How large it is, and what it is for a cubic: `Moments`. Assumes nothing.
use mathlib.Core.Path.{◌≡◌, refl, sym, ap, ap₂, ◌∙◌}
use Prim.Native.Nat.{ℕ, zero, suc, ◌+◌, ◌*◌, ◌≤◌, ◌<◌}
use native.Mathlib.Nat.{mul-le-mul_left}
use native.Mathlib.Omega.{arith}
use lib.IntN.{ℤ, pos, negsuc, ◌+ℤ◌, ◌-ℤ◌, ◌*ℤ◌}
use Rattle.arithmetic.specs.Sum.{sum_by, sum_to_ℤ}
use Rattle.arithmetic.proofs.Algebra.{natural}
use Rattle.arithmetic.proofs.Integer.{integer, solve_ℤ}
use Rattle.arithmetic.proofs.Polynomial.{con, ◌:+◌, ◌:*◌, :-◌}
use Rattle.arithmetic.proofs.Sums.{sum_same, weighted_plus, weighted_times, weighted_sum, sum_mono}
use Rattle.simpson.specs.Multipliers.{multiplier}
use Rattle.arithmetic.proofs.Whole.{pos_sum}
use Rattle.simpson.specs.Curve.{curve, curve_ℤ}

module _ (n : ℕ) where
  pub curve_same : (y z : ℕ → ℕ) → ((i : ℕ) → i ≤ n → y i ≡ z i) → curve n y ≡ curve n z
  unfolding curve
  curve_same y z h = sum_same natural (n + 1) _ _ (λ i l. ap (λ v. multiplier n i * v) (h i (omega arith)))

  pub curve_ℤ_same : (y z : ℕ → ℤ) → ((i : ℕ) → i ≤ n → y i ≡ z i) → curve_ℤ n y ≡ curve_ℤ n z
  unfolding curve_ℤ
  curve_ℤ_same y z h = sum_same integer (n + 1) _ _ (λ i l. ap (λ v. pos (multiplier n i) *ℤ v) (h i (omega arith)))

  pub curve_plus : (y z : ℕ → ℕ) → curve n (λ i. y i + z i) ≡ curve n y + curve n z
  unfolding curve
  curve_plus y z = weighted_plus natural (n + 1) (multiplier n) y z

  pub curve_times : (a : ℕ) (y : ℕ → ℕ) → curve n (λ i. a * y i) ≡ a * curve n y
  unfolding curve
  curve_times a y = weighted_times natural (n + 1) (multiplier n) a y

  pub curve_ℤ_plus : (y z : ℕ → ℤ) → curve_ℤ n (λ i. y i +ℤ z i) ≡ curve_ℤ n y +ℤ curve_ℤ n z
  unfolding curve_ℤ
  curve_ℤ_plus y z = weighted_plus integer (n + 1) (λ i. pos (multiplier n i)) y z

  pub curve_ℤ_times : (a : ℤ) (y : ℕ → ℤ) → curve_ℤ n (λ i. a *ℤ y i) ≡ a *ℤ curve_ℤ n y
  unfolding curve_ℤ
  curve_ℤ_times a y = weighted_times integer (n + 1) (λ i. pos (multiplier n i)) a y

  pub curve_mono : (y z : ℕ → ℕ) → ((i : ℕ) → i ≤ n → y i ≤ z i) → curve n y ≤ curve n z
  unfolding curve
  curve_mono y z h = sum_mono (n + 1) _ _ (λ i l. mul-le-mul_left (multiplier n i) (h i (omega arith)))

pub curve_swap : (n m : ℕ) (y : ℕ → ℕ → ℕ) → curve n (λ i. curve m (λ j. y i j)) ≡ curve m (λ j. curve n (λ i. y i j))
unfolding curve
curve_swap n m y =
    weighted_sum natural (n + 1) (m + 1) (multiplier n) (λ i j. multiplier m j * y i j)
    ∙ sum_same natural (m + 1) _ _ (λ j l. weighted_times natural (n + 1) (multiplier n) (multiplier m j) (λ i. y i j))

pub curve_ℤ_sum : (n m : ℕ) (y : ℕ → ℕ → ℤ) → curve_ℤ n (λ i. sum_to_ℤ m (λ a. y i a)) ≡ sum_to_ℤ m (λ a. curve_ℤ n (λ i. y i a))
unfolding curve_ℤ
curve_ℤ_sum n m y = weighted_sum integer (n + 1) m (λ i. pos (multiplier n i)) y

pub pos_curve : (n : ℕ) (y : ℕ → ℕ) → pos (curve n y) ≡ curve_ℤ n (λ i. pos (y i))
unfolding curve curve_ℤ
pos_curve n y = pos_sum (n + 1) (λ i. multiplier n i * y i)

pub curve_ℤ_less : (n : ℕ) (y z : ℕ → ℕ) → curve_ℤ n (λ i. pos (y i) -ℤ pos (z i)) ≡ pos (curve n y) -ℤ pos (curve n z)
curve_ℤ_less n y z =
    curve_ℤ_same n (λ i. pos (y i) -ℤ pos (z i)) (λ i. pos (y i) +ℤ negsuc 0 *ℤ pos (z i)) (λ i l. less_is (pos (y i)) (pos (z i)))
    ∙ curve_ℤ_plus n (λ i. pos (y i)) (λ i. negsuc 0 *ℤ pos (z i))
    ∙ ap (λ v. curve_ℤ n (λ i. pos (y i)) +ℤ v) (curve_ℤ_times n (negsuc 0) (λ i. pos (z i)))
    ∙ sym (less_is (curve_ℤ n (λ i. pos (y i))) (curve_ℤ n (λ i. pos (z i))))
    ∙ sym (ap₂ ◌-ℤ◌ (pos_curve n y) (pos_curve n z))
  where
    less_is : (a b : ℤ) → a -ℤ b ≡ a +ℤ negsuc 0 *ℤ b
    less_is = solve_ℤ 2 (λ a b. a :+ :- b) (λ a b. a :+ con (negsuc 0) :* b) refl

pub curve_few : (n : ℕ) (y : ℕ → ℕ) → n < 2 → curve n y ≡ 0
unfolding curve sum_by multiplier
curve_few zero y h = omega arith
curve_few (suc zero) y h = omega arith
curve_few (suc (suc n)) y h = absurd (omega arith)
