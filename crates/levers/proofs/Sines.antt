-- The rule of the table of sines, by a test that is computed over the whole table, so that a slipped digit shows.
--     sines_right, test_passes     the test, and that the table passes it
--     sines_are_right                 what it says of each angle
-- Assumes nothing.
use Prim.Native.Nat.{ℕ, zero, suc, ◌+◌, ◌-◌, ◌*◌, ◌^◌, ◌<◌}
use mathlib.Core.Bool.{Bool, true, ◌&&◌}
use mathlib.Core.Path.{◌≡◌, refl}
use mathlib.Core.List.{List, [], ◌∷◌}
use native.Mathlib.Omega.{arith}
use borrow.Author.Tests.{leb-true, ltb-true}
use lib.Dec.{leb, ltb}
use lib.ListN.{length, get_or}
use Rattle.arithmetic.proofs.Tests.{both, each, each_at}
use Rattle.levers.specs.SineRule.{Near, SinesRight}
use Rattle.levers.specs.Sines.{sines, sine, million}

-- ---- the test
rising : List ℕ → Bool
rising (a ∷ b ∷ rest) = ltb a b && rising (b ∷ rest)
rising (a ∷ []) = true
rising [] = true

near : ℕ → ℕ → ℕ → Bool
near width a b = leb a (b + width) && leb b (a + width)

-- angle number i is of 5·i degrees: 90° − 2θ is number 18 − 2·i, 90° − θ number 18 − i, and 3θ number 3·i
double : ℕ → Bool
double i = near million (2 * sine i ^ 2 + million * sine (18 - 2 * i)) (million ^ 2)

complement : ℕ → Bool
complement i = near million (sine i ^ 2 + sine (18 - i) ^ 2) (million ^ 2)

triple : ℕ → Bool
triple i = near (million ^ 2) (4 * sine i ^ 3 + million ^ 2 * sine (3 * i)) (3 * million ^ 2 * sine i)

pub sines_right : Bool
sines_right = rising sines && (each double 3 4 && (each complement 6 4 && each triple 0 5))

pub test_passes : sines_right ≡ true
unfolding sines_right rising near each double complement triple
test_passes = refl

-- ---- what it says
rising_at : (l : List ℕ) → rising l ≡ true → (i : ℕ) → suc i < length l → get_or l i 0 < get_or l (suc i) 0
unfolding rising
rising_at (a ∷ b ∷ rest) e zero h = ltb-true a b (both (ltb a b) (rising (b ∷ rest)) e).0
rising_at (a ∷ b ∷ rest) e (suc i) h = rising_at (b ∷ rest) (both (ltb a b) (rising (b ∷ rest)) e).1 i (omega arith)
rising_at (a ∷ []) e i h = absurd (omega arith)
rising_at [] e i h = absurd (omega arith)

near_told : (width a b : ℕ) → near width a b ≡ true → Near width a b
unfolding near
near_told width a b e =
    let so = both (leb a (b + width)) (leb b (a + width)) e in
    record { not_above = leb-true a (b + width) so.0; not_below = leb-true b (a + width) so.1 }

rest : (rising sines ≡ true) × (each double 3 4 ≡ true) × (each complement 6 4 ≡ true) × (each triple 0 5 ≡ true)
unfolding sines_right
rest =
    let first = both (rising sines) (each double 3 4 && (each complement 6 4 && each triple 0 5)) test_passes in
    let second = both (each double 3 4) (each complement 6 4 && each triple 0 5) first.1 in
    let third = both (each complement 6 4) (each triple 0 5) second.1 in
    (first.0, second.0, third.0, third.1)

pub sines_are_right : SinesRight
unfolding double complement triple
sines_are_right = record {
  rise = rising_at sines rest.0;
  of_double = λ i h k. near_told million (2 * sine i ^ 2 + million * sine (18 - 2 * i)) (million ^ 2) (each_at double 3 4 rest.1 i h (omega arith));
  of_complement = λ i h k. near_told million (sine i ^ 2 + sine (18 - i) ^ 2) (million ^ 2) (each_at complement 6 4 rest.2 i h (omega arith));
  of_triple = λ i h. near_told (million ^ 2) (4 * sine i ^ 3 + million ^ 2 * sine (3 * i)) (3 * million ^ 2 * sine i) (each_at triple 0 5 rest.3 i (omega arith) (omega arith));
}
