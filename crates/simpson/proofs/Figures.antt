-- The definitions give what plain formulas and their integrals come to by hand.
--     formulas_by_hand      a box, parabolic lines under sloping sides, and the third degree either way
-- Assumes nothing.
use mathlib.Core.List.{List, [], ◌∷◌}
use mathlib.Core.Path.{◌≡◌, refl}
use Prim.Native.Nat.{◌-◌}
use lib.IntN.{ℤ, pos, negsuc}
use lib.ListN.{length, get_or}
use Rattle.arithmetic.specs.Sum.{sum_by}
use Rattle.simpson.specs.Formula.{Formula, termwise, value_at, monomial, volume, longitudinal_moment_of, vertical_moment_of}

-- coefficients by the exponent of i, and each by the exponent of j
abbrev by : List (List ℤ) → Formula
by rows = record {
  station_degree = length rows - 1;
  waterline_degree = length (get_or rows 0 []) - 1;
  coefficient = λ a b. get_or (get_or rows a []) b (pos 0);
}

-- y = 3
abbrev box : Formula
box = by ((pos 3 ∷ []) ∷ [])

-- y = 25·i·(8 − i)·(j + 2)
abbrev parabolic : Formula
parabolic = by ((pos 0 ∷ pos 0 ∷ []) ∷ (pos 400 ∷ pos 200 ∷ []) ∷ (negsuc 49 ∷ negsuc 24 ∷ []) ∷ [])

-- y = i²·(6 − i)·j²·(6 − j)
abbrev bicubic : Formula
bicubic =
    let none : List ℤ = pos 0 ∷ pos 0 ∷ pos 0 ∷ pos 0 ∷ [] in
    by (none ∷ none ∷ (pos 0 ∷ pos 0 ∷ pos 36 ∷ negsuc 5 ∷ []) ∷ (pos 0 ∷ pos 0 ∷ negsuc 5 ∷ pos 1 ∷ []) ∷ [])

pub formulas_by_hand :
    (value_at box 0 0 ≡ pos 3) × (volume box 4 5 ≡ pos 34_560) × (longitudinal_moment_of box 4 5 ≡ pos 69_120) × (vertical_moment_of box 4 5 ≡ pos 86_400)
    × (value_at parabolic 3 4 ≡ pos 2_250) × (volume parabolic 8 4 ≡ pos 19_660_800) × (longitudinal_moment_of parabolic 8 4 ≡ pos 78_643_200) × (vertical_moment_of parabolic 8 4 ≡ pos 45_875_200)
    × (value_at bicubic 5 1 ≡ pos 125) × (volume bicubic 6 2 ≡ pos 746_496)
unfolding termwise monomial sum_by
formulas_by_hand = (refl, refl, refl, refl, refl, refl, refl, refl, refl, refl)
