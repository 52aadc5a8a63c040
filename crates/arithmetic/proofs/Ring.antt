-- Polynomials over ℕ need no solver: `simp ring` multiplies out and sorts the products, and `omega` reads each as an unknown.
--     ring        the rule set: `simp ring (omega arith)`, and for a fact k about products `simp ring (omega (arith, simp ring at k))`
-- Serves to the fifth degree in three variables, with `suc` and numerals; the examples below show each use. Assumes nothing.
use mathlib.Core.Path.{◌≡◌, ap, ◌∙◌}
use Prim.Native.Nat.{ℕ, suc, ◌+◌, ◌*◌, ◌^◌, ◌≤◌}
use native.Mathlib.Nat.{mul-add, add-mul, mul_assoc, mul_comm, mul_left_comm, pow-suc, pow-zero, one-mul}
use native.Mathlib.Numerals.{suc-eq-add-one}
use native.Mathlib.Omega.{arith}

pub pow1 : (x : ℕ) → x ^ 1 ≡ x
pow1 x = pow-suc x 0 ∙ ap (λ y. y * x) (pow-zero x) ∙ one-mul x

pub pow2 : (x : ℕ) → x ^ 2 ≡ x * x
pow2 x = pow-suc x 1 ∙ ap (λ y. y * x) (pow1 x)

pub pow3 : (x : ℕ) → x ^ 3 ≡ x * x * x
pow3 x = pow-suc x 2 ∙ ap (λ y. y * x) (pow2 x)

pub pow4 : (x : ℕ) → x ^ 4 ≡ x * x * x * x
pow4 x = pow-suc x 3 ∙ ap (λ y. y * x) (pow3 x)

pub ruleset ring = (mul-add, add-mul, mul_assoc, mul_comm, mul_left_comm, pow2, pow3, pow4, suc-eq-add-one)

-- an equation
square : (a b : ℕ) → (a + b) ^ 2 ≡ a ^ 2 + 2 * a * b + b ^ 2
square a b = simp ring (omega arith)

-- an inequality, with a successor
grows : (a b : ℕ) → a ^ 3 + b ≤ suc a ^ 3 + b
grows a b = simp ring (omega arith)

-- from a fact about products
taken : (a b c : ℕ) → a * b ≤ c * b → (a + 1) * b ≤ b * c + b
taken a b c k = simp ring (omega (arith, simp ring at k))
