-- The sum over a curve: its ordinates at the stations 0..n, each times its multiplier. Times h/24 it is the area under the curve.
use Rattle.std.specs.Prelude.{ℕ, ◌+◌, ◌-◌, ◌*◌, ◌^◌, List, ltb, ℤ, pos, ◌*ℤ◌, length, get_or, Result, Ok, Err}
use Rattle.arithmetic.specs.Choice.{when◌then◌else◌}
use Rattle.arithmetic.specs.Sum.{sum_to, sum_to_ℤ}
use Rattle.simpson.specs.Multipliers.{multiplier}
use Rattle.simpson.specs.declared.CurveError.{CurveError}
use Rattle.simpson.specs.declared.CurveError.TheVariants.{TooShort, TooLarge}

unfoldable pub curve : ℕ → (ℕ → ℕ) → ℕ
curve n y = sum_to (n + 1) (λ i. multiplier n i * y i)

-- the same for ordinates of either sign
unfoldable pub curve_ℤ : ℕ → (ℕ → ℤ) → ℤ
curve_ℤ n y = sum_to_ℤ (n + 1) (λ i. pos (multiplier n i) *ℤ y i)

-- of a list of ordinates: one more than there are intervals, two intervals at the least, and a sum that 64 bits hold
unfoldable pub curve_sum_of : List ℕ → Result ℕ CurveError
curve_sum_of ordinates =
    let area = curve (length ordinates - 1) (λ i. get_or ordinates i 0) in
    when ltb (length ordinates) 3 then Err TooShort
    else when ltb area (2 ^ 64) then Ok area
    else Err TooLarge
