-- "Half-breadths are a polynomial .. in station and in waterline number, with whole coefficients": a formula for y at station i and waterline j,
-- and 576 times the exact double integrals of y, y·i and y·j over 0..n and 0..k.
use Rattle.std.specs.Prelude.{◌≡◌, ℕ, ◌+◌, ◌*◌, ◌/◌, ◌^◌, ◌≤◌, ℤ, pos, ◌*ℤ◌}
use Rattle.arithmetic.specs.Sum.{sum_to_ℤ}

-- its degree in i and in j, and the coefficient of iᵃ·jᵇ, of either sign, by the exponents a and b
pub record Formula : Type 0 where
  pub station_degree : ℕ
  pub waterline_degree : ℕ
  pub coefficient : ℕ → ℕ → ℤ

-- monomial by monomial: the sum of each coefficient times what the exponents make
unfoldable pub termwise : Formula → (ℕ → ℕ → ℕ) → ℤ
termwise f made = sum_to_ℤ (f.station_degree + 1) (λ a. sum_to_ℤ (f.waterline_degree + 1) (λ b. f.coefficient a b *ℤ pos (made a b)))

-- y at station i and waterline j
abbrev pub value_at : Formula → ℕ → ℕ → ℤ
value_at f i j = termwise f (λ a b. i ^ a * j ^ b)

-- half-breadths that are the formula's, at every station 0..n and waterline 0..k
abbrev pub GivenBy : Formula → ℕ → ℕ → (ℕ → ℕ → ℕ) → Type 0
GivenBy f n k y = (i j : ℕ) → i ≤ n → j ≤ k → pos (y i j) ≡ value_at f i j

-- 576 times the integral of iᵃ·jᵇ over 0..n and 0..k, which is nᵃ⁺¹·kᵇ⁺¹ / ((a + 1)·(b + 1)); for a, b ≤ 3 the quotient is whole
unfoldable pub monomial : ℕ → ℕ → ℕ → ℕ → ℕ
monomial n k a b = 576 * (n ^ (a + 1) * k ^ (b + 1)) / ((a + 1) * (b + 1))

-- 576 times the integral of y
abbrev pub volume : Formula → ℕ → ℕ → ℤ
volume f n k = termwise f (λ a b. monomial n k a b)

-- of y·i
abbrev pub longitudinal_moment_of : Formula → ℕ → ℕ → ℤ
longitudinal_moment_of f n k = termwise f (λ a b. monomial n k (a + 1) b)

-- of y·j
abbrev pub vertical_moment_of : Formula → ℕ → ℕ → ℤ
vertical_moment_of f n k = termwise f (λ a b. monomial n k a (b + 1))
