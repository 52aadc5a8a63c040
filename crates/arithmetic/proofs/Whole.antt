-- From whole numbers to those of either sign, and back: what is proved over ℤ holds over ℕ.
--     pos_injective        a whole number is known from its signed form
--     pos_sum, pos_pow     a sum over an index, and a power
-- Sums and products of two are `refl`. Assumes nothing.
use mathlib.Core.Path.{◌≡◌, refl, sym, ap, ◌∙◌}
use Prim.Native.Nat.{ℕ, zero, suc, ◌^◌}
use native.Mathlib.Nat.{pow-zero, pow-suc}
use lib.IntN.{pos, nat_abs, ◌+ℤ◌, ◌*ℤ◌, pow}
use Rattle.arithmetic.specs.Sum.{sum_by, sum_to, sum_to_ℤ}
use Rattle.arithmetic.proofs.Integer.{pow_of_zero, pow_of_suc}

pub pos_injective : {a b : ℕ} → pos a ≡ pos b → a ≡ b
pos_injective e = ap nat_abs e

pub pos_sum : (n : ℕ) (f : ℕ → ℕ) → pos (sum_to n f) ≡ sum_to_ℤ n (λ i. pos (f i))
unfolding sum_by
pos_sum zero f = refl
pos_sum (suc n) f = ap (λ s. s +ℤ pos (f n)) (pos_sum n f)

pub pos_pow : (a k : ℕ) → pos (a ^ k) ≡ pow (pos a) k
pos_pow a zero = ap pos (pow-zero a) ∙ sym (pow_of_zero (pos a))
pos_pow a (suc k) = ap pos (pow-suc a k) ∙ ap (λ p. p *ℤ pos a) (pos_pow a k) ∙ sym (pow_of_suc (pos a) k)
