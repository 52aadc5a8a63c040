-- Sums over an index, from 0 up to, not including, n. A sum over 0..n has n + 1 terms: `sum_to (n + 1)`.
-- Their laws: `Sums` of proofs/.
use Rattle.std.specs.Prelude.{ℕ, zero, suc, ◌+◌, ℤ, pos, ◌+ℤ◌}

-- f 0 + f 1 + … + f (n − 1) by an addition, from what it calls none
unfoldable pub sum_by : {R : Type 0} → (R → R → R) → R → ℕ → (ℕ → R) → R
sum_by plus none zero f = none
sum_by plus none (suc n) f = plus (sum_by plus none n f) (f n)

abbrev pub sum_to : ℕ → (ℕ → ℕ) → ℕ
sum_to = sum_by ◌+◌ 0

abbrev pub sum_to_ℤ : ℕ → (ℕ → ℤ) → ℤ
sum_to_ℤ = sum_by ◌+ℤ◌ (pos 0)
