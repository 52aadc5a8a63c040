-- "Multipliers", in 24ths of the interval h.
use Rattle.std.specs.Prelude.{ℕ, zero, suc, ◌+◌}

-- the first rule, on two intervals: h/3 times 1, 4, 1; no other station has a part in it
unfoldable pub first_rule : ℕ → ℕ
first_rule zero = 8
first_rule (suc zero) = 32
first_rule (suc (suc zero)) = 8
first_rule (suc (suc (suc i))) = 0

-- the second rule, on three intervals: 3h/8 times 1, 3, 3, 1
unfoldable pub second_rule : ℕ → ℕ
second_rule zero = 9
second_rule (suc zero) = 27
second_rule (suc (suc zero)) = 27
second_rule (suc (suc (suc zero))) = 9
second_rule (suc (suc (suc (suc i)))) = 0

-- a rule that starts two stations later
unfoldable pub later : (ℕ → ℕ) → ℕ → ℕ
later rule zero = 0
later rule (suc zero) = 0
later rule (suc (suc i)) = rule i

-- The multiplier of station i over n intervals. "Two intervals by the first rule. Three by the second. For an even count the first rule is repeated.
-- For an odd count it covers all but the last three intervals, and the second rule covers those": the first rule on two, joined with the multipliers of the rest.
unfoldable pub multiplier : ℕ → ℕ → ℕ
multiplier zero i = 0
multiplier (suc zero) i = 0
multiplier (suc (suc zero)) i = first_rule i
multiplier (suc (suc (suc zero))) i = second_rule i
multiplier (suc (suc (suc (suc n)))) i = first_rule i + later (λ j. multiplier (suc (suc n)) j) i
