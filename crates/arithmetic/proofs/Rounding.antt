-- Rounding, told without division, and its laws.
--     RoundedDown, RoundedUp  q is a / b rounded down, and up
--     down_of, up_of          the quotient is rounded down; `rounded_up` is rounded up
--     down_unique, up_unique  only one number is
--     down_greatest           the whole numbers up to the one rounded down are those not above the fraction
--     up_least                the whole numbers from the one rounded up on are those not below the fraction
--     down_mono, up_mono      a larger numerator, never a smaller answer
--     down_anti, up_anti      a larger divisor, never a larger answer
--     down_whole, up_whole    a whole number needs no rounding
--     up_scaled               a fraction's numerator and divisor times one number, rounded up, is the fraction rounded up
--     up_by_none              by a divisor of 0, nothing
--     up_zero, up_le          nothing, rounded up, is nothing; rounded up is no more than the numerator
--     down_le_up              rounded down is at most rounded up, and the two are at most one apart
-- How far each is from the fraction stands in the records themselves: less than the divisor, over the divisor.
-- Assumes nothing.
use mathlib.Core.Path.{◌≡◌, subst, subst₂}
use mathlib.Core.Logic.{◌↔◌}
use Prim.Native.Nat.{ℕ, ◌+◌, ◌-◌, ◌*◌, ◌/◌, ◌≤◌, ◌<◌}
use native.Mathlib.Nat.{mul-le-mul_left, mul-le-mul_right, mul-lt-mul_of_pos_left, mul_left_comm, mul-pos, mul-add, add-mul, mul-one, one-mul, div-mul-le_self, lt-div-mul-add, div-zero, lt_of_mul-lt-mul_right, le_antisymm}
use native.Mathlib.Omega.{arith}
use Rattle.arithmetic.specs.Rounding.{rounded_up}

-- q is a / b rounded down: not above it, and less than one below it
pub record RoundedDown (a b q : ℕ) : Type 0 where
  pub some : 0 < b
  pub low : q * b ≤ a
  pub high : a < q * b + b

-- q is a / b rounded up: not below it, and less than one above it
pub record RoundedUp (a b q : ℕ) : Type 0 where
  pub some : 0 < b
  pub low : a ≤ q * b
  pub high : q * b < a + b

pub down_of : (a b : ℕ) → 0 < b → RoundedDown a b (a / b)
down_of a b h = record { some = h; low = div-mul-le_self a b; high = lt-div-mul-add h }

pub up_of : (a b : ℕ) → 0 < b → RoundedUp a b (rounded_up a b)
unfolding rounded_up
up_of a b h =
    let d = down_of (a + (b - 1)) b h in
    record { some = h; low = omega arith; high = omega arith }

-- fewer times the divisor, less than one divisor more
fewer : (b q r : ℕ) → q * b < r * b + b → q ≤ r
fewer b q r h =
    let k : q * b < (r + 1) * b = simp (add-mul, one-mul) (omega arith) in
    omega (arith, lt_of_mul-lt-mul_right b k)

module _ {a b q : ℕ} where
  pub down_greatest : RoundedDown a b q → (n : ℕ) → (n ≤ q) ↔ (n * b ≤ a)
  down_greatest d n = (
    λ h. omega (arith, mul-le-mul_right b h),
    λ h. fewer b n q (omega arith),
  )

  pub up_least : RoundedUp a b q → (n : ℕ) → (q ≤ n) ↔ (a ≤ n * b)
  up_least u n = (
    λ h. omega (arith, mul-le-mul_right b h),
    λ h. fewer b q n (omega arith),
  )

  module _ {c r : ℕ} where
    pub down_mono : RoundedDown a b q → RoundedDown c b r → a ≤ c → q ≤ r
    down_mono d e h = fewer b q r (omega arith)

    pub up_mono : RoundedUp a b q → RoundedUp c b r → a ≤ c → q ≤ r
    up_mono d e h = fewer b q r (omega arith)

    pub down_anti : RoundedDown a b q → RoundedDown a c r → b ≤ c → r ≤ q
    down_anti d e h = fewer b r q (omega (arith, mul-le-mul_left r h))

    pub up_anti : RoundedUp a b q → RoundedUp a c r → b ≤ c → r ≤ q
    up_anti d e h = fewer c r q (omega (arith, mul-le-mul_left q h))

  module _ {r : ℕ} where
    pub down_unique : RoundedDown a b q → RoundedDown a b r → q ≡ r
    down_unique d f = le_antisymm (fewer b q r (omega arith)) (fewer b r q (omega arith))

    pub up_unique : RoundedUp a b q → RoundedUp a b r → q ≡ r
    up_unique d f = le_antisymm (fewer b q r (omega arith)) (fewer b r q (omega arith))

    pub down_le_up : RoundedDown a b q → RoundedUp a b r → (q ≤ r) × (r ≤ q + 1)
    down_le_up d f = (fewer b q r (omega arith), fewer b r (q + 1) (simp (add-mul, one-mul) (omega arith)))

pub down_whole : (q b : ℕ) → 0 < b → RoundedDown (q * b) b q
down_whole q b h = record { some = h; low = omega arith; high = omega arith }

pub up_whole : (q b : ℕ) → 0 < b → RoundedUp (q * b) b q
up_whole q b h = record { some = h; low = omega arith; high = omega arith }

pub up_zero : {b q : ℕ} → RoundedUp 0 b q → q ≡ 0
up_zero {b} {q} u = let h : q ≤ 0 = fewer b q 0 (omega arith) in omega arith

pub up_scaled : (c a b : ℕ) → 0 < c → 0 < b → rounded_up (c * a) (c * b) ≡ rounded_up a b
up_scaled c a b h k =
    let u = up_of a b k in
    let q = rounded_up a b in
    let scaled : RoundedUp (c * a) (c * b) q = record {
      some = mul-pos h k;
      low = subst (λ n. c * a ≤ n) (mul_left_comm c q b) (mul-le-mul_left c u.low);
      high = subst₂ ◌<◌ (mul_left_comm c q b) (mul-add c a b) (mul-lt-mul_of_pos_left u.high h);
    } in
    up_unique (up_of (c * a) (c * b) (mul-pos h k)) scaled

pub up_by_none : (a : ℕ) → rounded_up a 0 ≡ 0
unfolding rounded_up
up_by_none a = div-zero _

pub up_le : {a b q : ℕ} → RoundedUp a b q → q ≤ a
up_le {a} u = up_anti (subst (λ n. RoundedUp n 1 a) (mul-one a) (up_whole a 1 (omega arith))) u u.some

-- a quotient with a remainder, rounded up, is one more; without one, the quotient itself
module _ {a b : ℕ} (h : 0 < b) where
  pub up_exact : a / b * b ≡ a → a / b ≡ rounded_up a b
  up_exact e =
      up_unique (record { some = h; low = omega arith; high = omega arith }) (up_of a b h)

  pub up_more : a / b * b < a → a / b + 1 ≡ rounded_up a b
  up_more l =
      let d = down_of a b h in
      up_unique (record { some = h; low = simp (add-mul, one-mul) (omega arith); high = simp (add-mul, one-mul) (omega arith) }) (up_of a b h)
