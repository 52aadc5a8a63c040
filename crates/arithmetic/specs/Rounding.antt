-- A fraction of whole numbers, rounded up. Rounded down is the quotient a / b itself; 0 where b is 0.
-- The laws of both: `Rounding` of proofs/.
use Rattle.std.specs.Prelude.{ℕ, ◌+◌, ◌-◌, ◌/◌}

-- a / b, rounded up; 0 where b is 0
unfoldable pub rounded_up : ℕ → ℕ → ℕ
rounded_up a b = (a + (b - 1)) / b
