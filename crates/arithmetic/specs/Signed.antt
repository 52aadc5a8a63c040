-- Whole numbers of either sign and the 64 bits that hold one: −2⁶³ to 2⁶³ − 1.
-- Their laws: `Crossing` of proofs/.
use Rattle.std.specs.Prelude.{◌-◌, ◌^◌, min, Bool, true, false, eqb, ℤ, pos, negsuc}

abbrev pub is_negative : ℤ → Bool
is_negative (pos n) = false
is_negative (negsuc n) = true

-- two of them are the same number
unfoldable pub eq_ℤ : ℤ → ℤ → Bool
eq_ℤ (pos m) (pos n) = eqb m n
eq_ℤ (pos m) (negsuc n) = false
eq_ℤ (negsuc m) (pos n) = false
eq_ℤ (negsuc m) (negsuc n) = eqb m n

-- the number itself where 64 bits hold it, and else the end of their range that is nearer
unfoldable pub nearest : ℤ → ℤ
nearest (pos n) = pos (min n (2 ^ 63 - 1))
nearest (negsuc n) = negsuc (min n (2 ^ 63 - 1))
