-- The righting levers GZ, their peak, and their multiplied sums.
use Rattle.std.specs.Prelude.{ℕ, zero, suc, ◌+◌, ◌-◌, ◌*◌, List, [], ◌∷◌, map, ltb, ℤ, pos, ◌-ℤ◌, get_or}
use Rattle.std.specs.Int.Signed.{lt_z}
use Rattle.arithmetic.specs.Choice.{when◌then◌else◌}
use Rattle.arithmetic.specs.Rounding.{rounded_up}
use Rattle.simpson.specs.Curve.{curve_ℤ}
use Rattle.levers.specs.Sines.{sines, million, angle_count, degrees, number_at}

-- "KG .. times the sine, that product rounded up", at each angle
unfoldable pub products : ℕ → List ℕ
products kg = map (λ sine. rounded_up (kg * sine) million) sines

-- a table of KN less one of products, at angle number i: of either sign
unfoldable pub lever : List ℕ → List ℕ → ℕ → ℤ
lever kn off i = pos (get_or kn i 0) -ℤ pos (get_or off i 0)

-- "GZ = KN less KG .. times the sine"
abbrev pub GZ : List ℕ → ℕ → ℕ → ℤ
GZ kn kg = lever kn (products kg)

-- the angles by number, and what a lever is at each of them
abbrev pub angles : List ℕ
angles = 0 ∷ 1 ∷ 2 ∷ 3 ∷ 4 ∷ 5 ∷ 6 ∷ 7 ∷ 8 ∷ 9 ∷ 10 ∷ 11 ∷ 12 ∷ []

unfoldable pub at_each : (ℕ → ℤ) → List ℤ
at_each gz = map gz angles

module _ (gz : ℕ → ℤ) where
  -- "The peak is the first greatest GZ": of the angles up to a number; with one angle more it moves there where GZ is greater there
  unfoldable pub peak_up_to : ℕ → ℕ
  peak_up_to zero = 0
  peak_up_to (suc i) = when lt_z (gz (peak_up_to i)) (gz (suc i)) then suc i else peak_up_to i

  abbrev pub peak : ℕ
  peak = peak_up_to (angle_count - 1)

  -- "the multiplied sum Q of GZ" from one angle to another, by document 01's multipliers
  unfoldable pub Q : ℕ → ℕ → ℤ
  Q from to = curve_ℤ (number_at (to - from)) (λ i. gz (number_at from + i))

-- "t the peak's angle, but 15 if below and 30 if beyond"
unfoldable pub held : ℕ → ℕ
held angle = when ltb angle 15 then 15 else when ltb 30 angle then 30 else angle

abbrev pub t : (ℕ → ℤ) → ℕ
t gz = held (degrees (peak gz))
