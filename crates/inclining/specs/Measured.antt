-- GM as measured: "Yards measure GM by shifting weights."
use Rattle.std.specs.Prelude.{ℕ, ◌*◌, ◌/◌, List, [], ◌∷◌, map}
use Rattle.loading.specs.Fraction.{Fraction, ◌over◌}
use Rattle.loading.specs.Total.{total}
use Rattle.inclining.specs.declared.Test.{Test}

-- a weight in kg, shifted so many mm across the deck; the pendulum's deflection in mm
pub record Shift : Type 0 where
  pub weight : ℕ
  pub distance : ℕ
  pub deflection : ℕ

-- The lent table as shifts, three numbers each; what is left over counts for nothing.
unfoldable pub shifts_of : List ℕ → List Shift
shifts_of (weight ∷ distance ∷ deflection ∷ rest) = record { weight = weight; distance = distance; deflection = deflection } ∷ shifts_of rest
shifts_of (weight ∷ distance ∷ []) = []
shifts_of (weight ∷ []) = []
shifts_of [] = []

module _ (test : Test) where
  -- "the total of weight times distance, times the length, over W times total deflection"
  unfoldable pub unrounded_gm : List Shift → Fraction
  unrounded_gm shifts =
      (total (λ s. s.weight * s.distance) shifts * test.pendulum) over (test.weight * total (λ s. s.deflection) shifts)

  -- "rounded down"
  unfoldable pub gm_measured : List Shift → ℕ
  gm_measured shifts = (unrounded_gm shifts).top / (unrounded_gm shifts).bottom

  -- "each shift's own GM by the same formula"
  unfoldable pub own_gms : List Shift → List ℕ
  own_gms shifts = map (λ s. gm_measured (s ∷ [])) shifts
