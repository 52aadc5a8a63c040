-- The sum over a cubic with whole coefficients, and what follows of the multipliers.
--     curve_exact                        a curve whose ordinates are those of a cubic with coefficients of either sign has its area
--     curve_of_cubic                     24an + 12bn² + 8cn³ + 6en⁴
--     curve_of_power                     of iᵃ, a ≤ 3, it is 24 nᵃ⁺¹ / (a + 1)
--     curve_of_one                       24n
--     answer_exact                       so is the sum that the call answers
--     curve_le                           a bound on each ordinate bounds the sum, by the rectangle's area
--     ordinate_le                        no ordinate is above the sum
-- Assumes nothing.
use mathlib.Core.Path.{◌≡◌, refl, ap, ◌∙◌}
use mathlib.Core.Bool.{Bool, true, false}
use mathlib.Core.List.{List}
use Prim.Native.Nat.{ℕ, zero, suc, ◌+◌, ◌-◌, ◌*◌, ◌^◌, ◌≤◌, ◌<◌}
use native.Mathlib.Nat.{le_trans, mul-le-mul_right, pow-zero}
use native.Mathlib.Omega.{arith}
use borrow.Author.Tests.{ltb-false}
use lib.Dec.{ltb}
use lib.IntN.{ℤ, pos}
use lib.ListN.{length, get_or}
use Rattle.std.specs.Prelude.{Ok, Err}
use Rattle.arithmetic.specs.Choice.{when◌then◌else◌}
use Rattle.arithmetic.proofs.Ring.{pow1}
use Rattle.arithmetic.proofs.Sums.{term_le_sum}
use Rattle.simpson.specs.Multipliers.{multiplier}
use Rattle.simpson.specs.Curve.{curve, curve_sum_of}
use Rattle.simpson.specs.Cubic.{cubic, area}
use Rattle.simpson.specs.declared.CurveError.TheVariants.{TooShort, TooLarge}
use Rattle.simpson.proofs.ByPlace.{multiplier_ge}
use Rattle.simpson.proofs.Exact.{curve_ℤ_of_cubic}
use Rattle.arithmetic.proofs.Whole.{pos_injective, pos_pow}
use Rattle.simpson.proofs.Curves.{pos_curve, curve_same, curve_ℤ_same, curve_times, curve_mono, curve_few}

pub curve_exact : (n : ℕ) (y : ℕ → ℕ) (a b c e : ℤ) → 2 ≤ n → ((i : ℕ) → i ≤ n → pos (y i) ≡ cubic a b c e (pos i)) → pos (curve n y) ≡ area a b c e (pos n)
curve_exact n y a b c e h is = pos_curve n y ∙ curve_ℤ_same n _ _ is ∙ curve_ℤ_of_cubic n h a b c e

module _ (n : ℕ) (h : 2 ≤ n) where
  pub curve_of_cubic : (a b c e : ℕ) → curve n (λ i. a + b * i + c * i ^ 2 + e * i ^ 3) ≡ 24 * a * n + 12 * b * n ^ 2 + 8 * c * n ^ 3 + 6 * e * n ^ 4
  curve_of_cubic a b c e =
      let signed : (i : ℕ) → pos (a + b * i + c * i ^ 2 + e * i ^ 3) ≡ cubic (pos a) (pos b) (pos c) (pos e) (pos i) = λ i. rw (← pos_pow i 2, ← pos_pow i 3) in
      pos_injective
      (curve_exact n _ (pos a) (pos b) (pos c) (pos e) h (λ i l. signed i)
      ∙ rw (← pos_pow n 2, ← pos_pow n 3, ← pos_pow n 4))

  -- ordinates that are a cubic's
  as_cubic : (y : ℕ → ℕ) (a b c e : ℕ) → ((i : ℕ) → y i ≡ a + b * i + c * i ^ 2 + e * i ^ 3) → curve n y ≡ 24 * a * n + 12 * b * n ^ 2 + 8 * c * n ^ 3 + 6 * e * n ^ 4
  as_cubic y a b c e is = curve_same n _ _ (λ i l. is i) ∙ curve_of_cubic a b c e

  pub curve_of_power : (a : ℕ) → a ≤ 3 → (a + 1) * curve n (λ i. i ^ a) ≡ 24 * n ^ (a + 1)
  curve_of_power zero l = omega (arith, pow1 n, as_cubic (λ i. i ^ 0) 1 0 0 0 (λ i. omega (arith, pow-zero i)))
  curve_of_power (suc zero) l = omega (arith, as_cubic (λ i. i ^ 1) 0 1 0 0 (λ i. omega (arith, pow1 i)))
  curve_of_power (suc (suc zero)) l = omega (arith, as_cubic (λ i. i ^ 2) 0 0 1 0 (λ i. omega arith))
  curve_of_power (suc (suc (suc zero))) l = omega (arith, as_cubic (λ i. i ^ 3) 0 0 0 1 (λ i. omega arith))
  curve_of_power (suc (suc (suc (suc a)))) l = absurd (omega arith)

  pub curve_of_one : curve n (λ i. 1) ≡ 24 * n
  curve_of_one = omega (arith, as_cubic (λ i. 1) 1 0 0 0 (λ i. omega arith))

pub curve_le : (n b : ℕ) (y : ℕ → ℕ) → ((i : ℕ) → i ≤ n → y i ≤ b) → curve n y ≤ b * (24 * n)
curve_le zero b y h = omega (arith, curve_few 0 y (omega arith))
curve_le (suc zero) b y h = omega (arith, curve_few 1 y (omega arith))
curve_le (suc (suc n)) b y h =
    let m = suc (suc n) in
    omega (arith, curve_mono m y (λ i. b * 1) (λ i l. omega (arith, h i l)), curve_times m b (λ i. 1), ap (λ s. b * s) (curve_of_one m (omega arith)))

pub ordinate_le : (n : ℕ) (y : ℕ → ℕ) (i : ℕ) → 2 ≤ n → i ≤ n → y i ≤ curve n y
unfolding curve
ordinate_le n y i h l =
    le_trans (omega (arith, mul-le-mul_right (y i) (multiplier_ge n i h l))) (term_le_sum (n + 1) i (λ i. multiplier n i * y i) (omega arith))

-- ---- the call's answer
-- what the two tests say where there is a sum
sum_told : (short fits : Bool) (total : ℕ) {s : ℕ} → Ok s ≡ (when short then Err TooShort else when fits then Ok total else Err TooLarge) → (short ≡ false) × (s ≡ total)
unfolding when◌then◌else◌
sum_told true fits total e = cc
sum_told false true total e = (refl, cc)
sum_told false false total e = cc

-- of an answered sum over ordinates that are a cubic's
pub answer_exact : (ordinates : List ℕ) (a b c e : ℤ) {s : ℕ} → Ok s ≡ curve_sum_of ordinates → ((i : ℕ) → i < length ordinates → pos (get_or ordinates i 0) ≡ cubic a b c e (pos i)) → pos s ≡ area a b c e (pos (length ordinates - 1))
unfolding curve_sum_of
answer_exact ordinates a b c e so is =
    let n = length ordinates - 1 in
    let tests = sum_told (ltb (length ordinates) 3) (ltb (curve n (λ i. get_or ordinates i 0)) (2 ^ 64)) (curve n (λ i. get_or ordinates i 0)) so in
    let long : 3 ≤ length ordinates = ltb-false (length ordinates) 3 tests.0 in
    ap pos tests.1 ∙ curve_exact n (λ i. get_or ordinates i 0) a b c e (omega arith) (λ i l. is i (omega arith))
