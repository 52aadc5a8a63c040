-- "The table's rule": what the sines of right and of three-fold angles have to do with each other, within one millionth.
use Rattle.std.specs.Prelude.{ℕ, suc, ◌+◌, ◌-◌, ◌*◌, ◌^◌, ◌≤◌, ◌<◌}
use Rattle.levers.specs.Sines.{sine, million, angle_count}

-- two numbers are no further apart than this
pub record Near (width a b : ℕ) : Type 0 where
  pub not_above : a ≤ b + width
  pub not_below : b ≤ a + width

-- Angle number i is of 5·i degrees: 90° − 2θ is number 18 − 2·i, 90° − θ number 18 − i, and 3θ number 3·i.
pub record SinesRight : Type 0 where
  -- "the sines rise"
  pub rise : (i : ℕ) → suc i < angle_count → sine i < sine (suc i)
  -- "1 − 2·sin²θ is the sine of 90° − 2θ (15, 20, 25, 30 degrees)"
  pub of_double : (i : ℕ) → 3 ≤ i → i ≤ 6 → Near million (2 * sine i ^ 2 + million * sine (18 - 2 * i)) (million ^ 2)
  -- "the squares of complementary angles add to 1 (30 with 60, 35 with 55, 40 with 50, 45 with itself)"
  pub of_complement : (i : ℕ) → 6 ≤ i → i ≤ 9 → Near million (sine i ^ 2 + sine (18 - i) ^ 2) (million ^ 2)
  -- 3·sin θ − 4·sin³θ is the sine of 3θ, of 0 to 20 degrees: by this 5 and 10 degrees are tied to the others
  pub of_triple : (i : ℕ) → i ≤ 4 → Near (million ^ 2) (4 * sine i ^ 3 + million ^ 2 * sine (3 * i)) (3 * million ^ 2 * sine i)
