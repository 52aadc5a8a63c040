-- The definitions give the papers' figures of the plainest surfaces.
--     plainest_surfaces_are        what each comes to
-- The others are run by the crate trials. Assumes nothing.
use Prim.Native.Nat.{ℕ}
use mathlib.Core.Path.{◌≡◌, refl}
use mathlib.Core.List.{List, [], ◌∷◌, map}
use lib.IntN.{pow, one}
use lib.ListN.{replicate}
use Rattle.arithmetic.specs.Choice.{when◌then◌else◌}
use Rattle.arithmetic.specs.Rounding.{rounded_up}
use Rattle.arithmetic.specs.Sum.{sum_by}
use Rattle.ranges.specs.Fields.{within}
use Rattle.ranges.specs.Outcome.{Outcome, answered, refused}
use Rattle.ranges.specs.Outside.{outside_from, first_outside, outside_then}
use Rattle.ranges.specs.Refusals.{out_of_range, wrong_size}
use Rattle.simpson.specs.Curve.{curve, curve_ℤ}
use Rattle.simpson.specs.Multipliers.{first_rule, second_rule, later, multiplier}
use Rattle.hoppers.specs.Hopper.{counts_fit, outside, surface_of}
use Rattle.hoppers.specs.Surface.{A, M, I, numerator, inertia, moment}
use Rattle.hoppers.specs.declared.FreeSurface.{FreeSurface}

-- widths to port and to starboard, interval and density
pub record Given : Type 0 where
  pub port : List ℕ
  pub starboard : List ℕ
  pub h : ℕ
  pub density : ℕ

abbrev given : List ℕ → List ℕ → ℕ → ℕ → Given
given port starboard h density = record { port = port; starboard = starboard; h = h; density = density }

abbrev is : ℕ → ℕ → Outcome FreeSurface
is inertia moment = answered (record { inertia = inertia; moment = moment })

abbrev pub plainest_surfaces : List (Given × Outcome FreeSurface)
plainest_surfaces =
    -- document 01's tank, 2,000 by 2,000 mm, and the same to one side
    (given (replicate 3 1_000) (replicate 3 1_000) 1_000 1_000, is 1_333_333_334_000 1_333_334)
    ∷ (given (replicate 3 1_500) (replicate 3 500) 1_000 1_000, is 1_333_333_334_000 1_333_334)
    -- three intervals, a moment that is whole
    ∷ (given (replicate 4 1_000) (replicate 4 1_000) 500 1_000, is 1_000_000_000_000 1_000_000)
    -- no width at all; one of 1 mm, rounded up and then times the interval
    ∷ (given (replicate 3 0) (replicate 3 0) 50 1, is 0 0)
    ∷ (given (1 ∷ 0 ∷ 0 ∷ []) (replicate 3 0) 777 1_500, is 777 1)
    -- two widths to a side; one more to starboard
    ∷ (given (replicate 2 0) (replicate 2 0) 50 1, refused wrong_size 0)
    ∷ (given (replicate 3 0) (replicate 4 0) 50 1, refused wrong_size 0)
    -- out of range to port before to starboard; to starboard before the interval; the interval before the density; the density
    ∷ (given (0 ∷ 0 ∷ 1_501 ∷ []) (1_501 ∷ 0 ∷ 0 ∷ []) 49 0, refused out_of_range 2)
    ∷ (given (replicate 3 0) (0 ∷ 1_501 ∷ 0 ∷ []) 49 0, refused out_of_range 4)
    ∷ (given (replicate 3 0) (replicate 3 0) 1_001 1_501, refused out_of_range 6)
    ∷ (given (replicate 3 0) (replicate 3 0) 50 1_501, refused out_of_range 7)
    ∷ []

pub plainest_surfaces_are : map (λ f. surface_of f.0.port f.0.starboard f.0.h f.0.density) plainest_surfaces ≡ map (λ f. f.1) plainest_surfaces
unfolding surface_of counts_fit outside outside_then first_outside outside_from within A M I numerator inertia moment rounded_up curve curve_ℤ sum_by multiplier first_rule second_rule later pow one when◌then◌else◌
plainest_surfaces_are = refl
