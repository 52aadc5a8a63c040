-- The definitions give the figures of the plainest tests, and of each refusal beside one that is answered.
--     plainest_tests_are        what each comes to
--     greatest_surface      the greatest free surface of a test is the greatest that the tanks of a condition make
-- The others are run by the crate trials. Assumes nothing.
use Prim.Native.Nat.{ℕ, ◌*◌}
use mathlib.Core.Path.{◌≡◌, refl}
use mathlib.Core.List.{List, [], ◌∷◌, ◌++◌, map}
use lib.IntN.{ℤ, pos}
use Rattle.arithmetic.specs.Choice.{when◌then◌else◌}
use Rattle.arithmetic.specs.Rounding.{rounded_up}
use Rattle.ranges.specs.Fields.{within, most, test_surface}
use Rattle.ranges.specs.Outcome.{Outcome, answered, refused, answer_with}
use Rattle.ranges.specs.Outside.{outside_from, first_outside, outside_then}
use Rattle.ranges.specs.Refusals.{out_of_range, wrong_size, no_light_weight, light_moment_negative}
use Rattle.ranges.specs.Sizes.{whole_records, most_tanks}
use Rattle.loading.specs.Load.{weight, longitudinal_moment_of, vertical_moment_of, transverse_moment_of}
use Rattle.loading.specs.Private.Aboard.{most_surface}
use Rattle.loading.specs.Records.{items_of, tanks_of}
use Rattle.loading.specs.Total.{total, total_ℤ}
use Rattle.inclining.specs.Inclining.{Inclined, shifts_fit, outside, inclined_of}
use Rattle.inclining.specs.Light as Light
use Rattle.inclining.specs.Light.{light_weight, light_moment, lightened}
use Rattle.inclining.specs.Measured.{shifts_of, unrounded_gm, gm_measured, own_gms}
use Rattle.inclining.specs.declared.Test.{Test}

-- the free surface of the test, its shifts, the lists, and the room for GMs
pub record Given : Type 0 where
  pub surface : ℕ
  pub shifts : List ℕ
  pub off : List ℤ
  pub on : List ℤ
  pub room : ℕ

abbrev given : ℕ → List ℕ → List ℤ → List ℤ → ℕ → Given
given surface shifts off on room = record { surface = surface; shifts = shifts; off = off; on = on; room = room }

-- 100 t with KM 3 m, and a pendulum of 1 m
abbrev lying : ℕ → Test
lying surface = record { weight = 100_000; km = 3_000; free_surface = surface; pendulum = 1_000 }

-- 1 t over 10 m, which deflects it by 100 mm, and then by 125 mm
abbrev two : List ℕ
two = 1_000 ∷ 10_000 ∷ 100 ∷ 1_000 ∷ 10_000 ∷ 125 ∷ []

-- so many kg at a height
abbrev one : ℕ → ℕ → List ℤ
one kg z = pos kg ∷ pos 0 ∷ pos 0 ∷ pos z ∷ []

abbrev is : ℕ → ℕ → ℕ → Outcome Inclined
is weight moment vcg =
    answered (record { gms = 1_000 ∷ 800 ∷ []; light = record { measured_gm = 888; weight = weight; vertical_moment = moment; vcg = vcg } })

abbrev pub plainest_tests : List (Given × Outcome Inclined)
plainest_tests =
    -- a GM of 888 8/9 mm, and neither 900, the mean of the shifts', nor their GM one by one; a KG that is whole, and one that a kg·mm of free surface brings below it
    (given 0 two [] [] 2, is 100_000 211_200_000 2_112)
    ∷ (given 1 two [] [] 2, is 100_000 211_199_999 2_112)
    -- 2.5 t at 4 m taken off, and 500 kg at 2 m put on
    ∷ (given 0 two (one 2_500 4_000) (one 500 2_000) 12, is 98_000 202_200_000 2_064)
    -- a moment of 0; and 1 kg left of the ship
    ∷ (given 211_200_000 two [] [] 2, is 100_000 0 0)
    ∷ (given 0 two (one 99_999 0) [] 2, is 1 211_200_000 211_200_000)
    -- one shift, two numbers, a list of five numbers, and room for one GM
    ∷ (given 0 (1_000 ∷ 10_000 ∷ 100 ∷ []) (pos 0 ∷ []) (pos 0 ∷ []) 0, refused wrong_size 0)
    ∷ (given 0 (1_000 ∷ 10_000 ∷ []) [] [] 2, refused wrong_size 0)
    ∷ (given 0 two (pos 0 ∷ one 0 0) (pos 0 ∷ []) 0, refused wrong_size 1)
    ∷ (given 0 two [] (one 0 0 ++ (pos 0 ∷ [])) 0, refused wrong_size 2)
    ∷ (given 10_240_000_001 two [] [] 1, refused wrong_size 3)
    -- out of range: the free surface before a deflection; that before a height; what is taken off before what is put on, and that before 20 and 21
    ∷ (given 10_240_000_001 (1_000 ∷ 10_000 ∷ 0 ∷ 1_000 ∷ 10_000 ∷ 125 ∷ []) [] [] 2, refused out_of_range 2)
    ∷ (given 0 (1_000 ∷ 10_000 ∷ 0 ∷ 1_000 ∷ 10_000 ∷ 125 ∷ []) (one 0 30_001) [] 2, refused out_of_range 6)
    ∷ (given 0 two (one 0 30_001) (one 300_001 0) 2, refused out_of_range 13)
    ∷ (given 211_200_001 two (one 100_000 0) (one 300_001 0) 2, refused out_of_range 14)
    -- nothing left of the ship, before a moment below 0; and that
    ∷ (given 211_200_001 two (one 100_000 0) [] 2, refused no_light_weight 0)
    ∷ (given 211_200_001 two (one 99_999 0) [] 2, refused light_moment_negative 0)
    ∷ []

pub plainest_tests_are : map (λ f. inclined_of (lying f.0.surface) f.0.shifts f.0.off f.0.on f.0.room) plainest_tests ≡ map (λ f. f.1) plainest_tests
unfolding inclined_of shifts_fit whole_records outside outside_then first_outside outside_from within lightened light_weight light_moment Light.vertical_moment_of gm_measured unrounded_gm own_gms shifts_of total total_ℤ weight longitudinal_moment_of vertical_moment_of transverse_moment_of items_of tanks_of rounded_up answer_with when◌then◌else◌
plainest_tests_are = refl

pub greatest_surface : most test_surface ≡ most_tanks * most_surface
greatest_surface = refl
