-- "For y = a + b·i + c·i² + e·i³ at stations i = 0..n the multiplied sum is 24an + 12bn² + 8cn³ + 6en⁴."
use Rattle.std.specs.Prelude.{ℤ, pos, ◌+ℤ◌, ◌*ℤ◌}
use Rattle.std.proofs.Math.IntN.{pow}

abbrev pub cubic : ℤ → ℤ → ℤ → ℤ → ℤ → ℤ
cubic a b c e i = a +ℤ b *ℤ i +ℤ c *ℤ pow i 2 +ℤ e *ℤ pow i 3

-- 24 times the integral of the cubic from 0 to n
abbrev pub area : ℤ → ℤ → ℤ → ℤ → ℤ → ℤ
area a b c e n = pos 24 *ℤ a *ℤ n +ℤ pos 12 *ℤ b *ℤ pow n 2 +ℤ pos 8 *ℤ c *ℤ pow n 3 +ℤ pos 6 *ℤ e *ℤ pow n 4
