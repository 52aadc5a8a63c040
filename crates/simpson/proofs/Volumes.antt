-- Exact volumes: where half-breadths are given by a formula, the sum over a curve of curves is 576 times its double integral.
--     factor_whole, monomial_cleared      a monomial's integral of third degree or less, cleared by 576: nothing is rounded
--     volume_exact                        to the third degree either way
--     longitudinal_moment_exact            each half-breadth times its station number: to the second degree in that
--     vertical_moment_exact                each times its waterline number: to the second degree in that
-- Once over both counts, by the exponents that each monomial comes to (`powers_exact`). Assumes nothing.
use mathlib.Core.Path.{◌≡◌, refl, sym, ap, ap₂, ◌∙◌}
use Prim.Native.Nat.{ℕ, zero, suc, ◌+◌, ◌*◌, ◌/◌, ◌^◌, ◌≤◌, ◌<◌}
use native.Mathlib.Nat.{mul_comm, mul_assoc, mul_right_comm, mul-mul-mul_comm, mul-pos, pow-suc, div-eq_of_eq-mul_left}
use native.Mathlib.Numerals.{add-one}
use native.Mathlib.Omega.{arith}
use lib.IntN.{pos, ◌*ℤ◌}
use Rattle.arithmetic.proofs.Integer.{integer, *ℤ_assoc}
use Rattle.arithmetic.proofs.Sums.{sum_same, sum_times}
use Rattle.simpson.specs.Curve.{curve, curve_ℤ}
use Rattle.simpson.specs.Formula.{Formula, termwise, GivenBy, monomial, volume, longitudinal_moment_of, vertical_moment_of}
use Rattle.simpson.proofs.Curves.{curve_times, curve_ℤ_same, curve_ℤ_times, curve_ℤ_sum, pos_curve}
use Rattle.simpson.proofs.Moments.{curve_of_power}

-- ---- sums over the monomials of a formula
module _ (f : Formula) where
  termwise_same : (g h : ℕ → ℕ → ℕ) → ((a b : ℕ) → a ≤ f.station_degree → b ≤ f.waterline_degree → g a b ≡ h a b) → termwise f g ≡ termwise f h
  unfolding termwise
  termwise_same g h is =
      sum_same integer _ _ _ (λ a l. sum_same integer _ _ _ (λ b m.
      ap (λ v. f.coefficient a b *ℤ pos v) (is a b (omega arith) (omega arith))))

  termwise_times : (g : ℕ → ℕ → ℕ) (v : ℕ) → termwise f g *ℤ pos v ≡ termwise f (λ a b. g a b * v)
  unfolding termwise
  termwise_times g v =
      sym (sum_times integer _ _ (pos v))
      ∙ sum_same integer _ _ _ (λ a l.
      sym (sum_times integer _ (λ b. f.coefficient a b *ℤ pos (g a b)) (pos v))
      ∙ sum_same integer _ _ _ (λ b m. *ℤ_assoc (f.coefficient a b) (pos (g a b)) (pos v)))

  curve_termwise : (n : ℕ) (g : ℕ → ℕ → ℕ → ℕ) → curve_ℤ n (λ i. termwise f (g i)) ≡ termwise f (λ a b. curve n (λ i. g i a b))
  unfolding termwise
  curve_termwise n g =
      curve_ℤ_sum n _ _
      ∙ sum_same integer _ _ _ (λ a l.
      curve_ℤ_sum n _ (λ i b. f.coefficient a b *ℤ pos (g i a b))
      ∙ sum_same integer _ _ _ (λ b m.
      curve_ℤ_times n (f.coefficient a b) (λ i. pos (g i a b)) ∙ ap (λ v. f.coefficient a b *ℤ v) (sym (pos_curve n (λ i. g i a b)))))

-- ---- a monomial
-- 24 over a + 1 is whole
part_whole : (a : ℕ) → a ≤ 3 → 24 / (a + 1) * (a + 1) ≡ 24
part_whole zero l = refl
part_whole (suc zero) l = refl
part_whole (suc (suc zero)) l = refl
part_whole (suc (suc (suc zero))) l = refl
part_whole (suc (suc (suc (suc a)))) l = absurd (omega arith)

-- two numbers that are 24 x / a and 24 z / b
by_parts : (a u x b v z : ℕ) → a * u ≡ 24 * x → b * v ≡ 24 * z → u * v * (a * b) ≡ 576 * (x * z)
by_parts a u x b v z h k = mul-mul-mul_comm u v a b ∙ ap₂ ◌*◌ (mul_comm u a ∙ h) (mul_comm v b ∙ k) ∙ mul-mul-mul_comm 24 x 24 z

-- a power times its base, with the exponent as the formulas write it
next_power : (i a : ℕ) → i ^ a * i ≡ i ^ (a + 1)
next_power i a = sym (ap (λ e. i ^ e) (add-one a) ∙ pow-suc i a)

module _ (a b : ℕ) (l : a ≤ 3) (m : b ≤ 3) where
  some : 0 < (a + 1) * (b + 1)
  some = mul-pos (omega arith) (omega arith)

  pub factor_whole : 576 / ((a + 1) * (b + 1)) * ((a + 1) * (b + 1)) ≡ 576
  factor_whole =
      let parts : 24 / (a + 1) * (24 / (b + 1)) * ((a + 1) * (b + 1)) ≡ 576 = by_parts (a + 1) (24 / (a + 1)) 1 (b + 1) (24 / (b + 1)) 1 (mul_comm (a + 1) _ ∙ part_whole a l) (mul_comm (b + 1) _ ∙ part_whole b m) in
      ap (λ q. q * ((a + 1) * (b + 1))) (div-eq_of_eq-mul_left some (sym parts)) ∙ parts

  pub monomial_cleared : (n k : ℕ) → monomial n k a b ≡ 576 / ((a + 1) * (b + 1)) * (n ^ (a + 1) * k ^ (b + 1))
  unfolding monomial
  monomial_cleared n k =
      div-eq_of_eq-mul_left some (sym (mul_right_comm (576 / ((a + 1) * (b + 1))) (n ^ (a + 1) * k ^ (b + 1)) ((a + 1) * (b + 1)) ∙ ap (λ t. t * (n ^ (a + 1) * k ^ (b + 1))) factor_whole))

  monomial_is : (n k : ℕ) → 2 ≤ n → 2 ≤ k → curve n (λ i. i ^ a) * curve k (λ j. j ^ b) ≡ monomial n k a b
  unfolding monomial
  monomial_is n k long deep =
      sym (div-eq_of_eq-mul_left some (sym (by_parts (a + 1) (curve n (λ i. i ^ a)) (n ^ (a + 1)) (b + 1) (curve k (λ j. j ^ b)) (k ^ (b + 1)) (curve_of_power n long a l) (curve_of_power k deep b m))))

-- ---- half-breadths
module _ (f : Formula) (n k : ℕ) (long : 2 ≤ n) (deep : 2 ≤ k) where
  -- z is the formula with its exponents a and b become s a and t b
  powers_exact : (s t : ℕ → ℕ) → ((a : ℕ) → a ≤ f.station_degree → s a ≤ 3) → ((b : ℕ) → b ≤ f.waterline_degree → t b ≤ 3)
      → (z : ℕ → ℕ → ℕ) → ((i j : ℕ) → i ≤ n → j ≤ k → pos (z i j) ≡ termwise f (λ a b. i ^ s a * j ^ t b))
      → pos (curve n (λ i. curve k (λ j. z i j))) ≡ termwise f (λ a b. monomial n k (s a) (t b))
  powers_exact s t low-s low-t z is =
      let up : ℕ → ℕ = λ b. curve k (λ j. j ^ t b) in
      pos_curve n (λ i. curve k (λ j. z i j))
      ∙ curve_ℤ_same n _ (λ i. termwise f (λ a b. up b * i ^ s a)) (λ i l.
      pos_curve k (z i)
      ∙ curve_ℤ_same k _ _ (λ j m. is i j l m)
      ∙ curve_termwise f k (λ j a b. i ^ s a * j ^ t b)
      ∙ termwise_same f _ _ (λ a b l m. curve_times k (i ^ s a) (λ j. j ^ t b) ∙ mul_comm (i ^ s a) (up b)))
      ∙ curve_termwise f n (λ i a b. up b * i ^ s a)
      ∙ termwise_same f _ _ (λ a b l m. curve_times n (up b) (λ i. i ^ s a) ∙ mul_comm (up b) _ ∙ monomial_is (s a) (t b) (low-s a l) (low-t b m) n k long deep)

  module _ (y : ℕ → ℕ → ℕ) (is : GivenBy f n k y) where
    pub volume_exact : f.station_degree ≤ 3 → f.waterline_degree ≤ 3 → pos (curve n (λ i. curve k (λ j. y i j))) ≡ volume f n k
    volume_exact c d = powers_exact (λ a. a) (λ b. b) (λ a l. omega arith) (λ b l. omega arith) y is

    pub longitudinal_moment_exact : f.station_degree ≤ 2 → f.waterline_degree ≤ 3 → pos (curve n (λ i. curve k (λ j. y i j * i))) ≡ longitudinal_moment_of f n k
    longitudinal_moment_exact c d =
        powers_exact (λ a. a + 1) (λ b. b) (λ a l. omega arith) (λ b l. omega arith) (λ i j. y i j * i) (λ i j l m.
        ap (λ v. v *ℤ pos i) (is i j l m)
        ∙ termwise_times f (λ a b. i ^ a * j ^ b) i
        ∙ termwise_same f _ _ (λ a b l m. mul_right_comm (i ^ a) (j ^ b) i ∙ ap (λ v. v * j ^ b) (next_power i a)))

    pub vertical_moment_exact : f.station_degree ≤ 3 → f.waterline_degree ≤ 2 → pos (curve n (λ i. curve k (λ j. y i j * j))) ≡ vertical_moment_of f n k
    vertical_moment_exact c d =
        powers_exact (λ a. a) (λ b. b + 1) (λ a l. omega arith) (λ b l. omega arith) (λ i j. y i j * j) (λ i j l m.
        ap (λ v. v *ℤ pos j) (is i j l m)
        ∙ termwise_times f (λ a b. i ^ a * j ^ b) j
        ∙ termwise_same f _ _ (λ a b l m. mul_assoc (i ^ a) (j ^ b) j ∙ ap (λ v. i ^ a * v) (next_power j b)))
