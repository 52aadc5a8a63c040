-- "Hopper tanks have curved sides. Accept a free surface as widths to port p and to starboard q .. at 2 to 10 equal intervals h."
use Rattle.std.specs.Prelude.{ℕ, ◌+◌, ◌-◌, ◌*◌, ◌^◌, List, eqb, ℤ, pos, nat_abs, ◌-ℤ◌, ◌*ℤ◌, length, get_or}
use Rattle.std.proofs.Math.IntN.{pow}
use Rattle.arithmetic.specs.Choice.{when◌then◌else◌}
use Rattle.arithmetic.specs.Rounding.{rounded_up}
use Rattle.simpson.specs.Curve.{curve, curve_ℤ}

-- so many mm⁴ · kg/m³ are one kg·mm
abbrev pub moment_unit : ℕ
moment_unit = 1_000_000_000

module _ (port starboard : List ℕ) where
  -- one interval fewer than widths to a side
  abbrev pub intervals : ℕ
  intervals = length port - 1

  abbrev pub p : ℕ → ℕ
  p i = get_or port i 0

  abbrev pub q : ℕ → ℕ
  q i = get_or starboard i 0

  -- "With our multipliers let A, M, I be the sums for p+q, q²−p², p³+q³."
  unfoldable pub A : ℕ
  A = curve intervals (λ i. p i + q i)

  unfoldable pub M : ℤ
  M = curve_ℤ intervals (λ i. pos (q i ^ 2) -ℤ pos (p i ^ 2))

  unfoldable pub I : ℕ
  I = curve intervals (λ i. p i ^ 3 + q i ^ 3)

  -- "4·A·I − 3·M²", which is never negative: `never_negative` of proofs/Numerator
  unfoldable pub numerator : ℤ
  numerator = pos (4 * A * I) -ℤ pos 3 *ℤ pow M 2

  -- "The inertia about the surface's own centre is (4·A·I − 3·M²)/(288·A), rounded up, times h; .. with A zero it is 0."
  unfoldable pub inertia : ℕ → ℕ
  inertia h = when eqb A 0 then 0 else rounded_up (nat_abs numerator) (288 * A) * h

  -- "the moment is that times liquid density / 1,000,000,000, rounded up"
  unfoldable pub moment : ℕ → ℕ → ℕ
  moment h density = rounded_up (inertia h * density) moment_unit
