-- Hulls by formula that the call answers and that miss the integral by a degree, each computed: y = i⁴ and y = j⁴, and for the moments y = i³ and y = j³.
--     given_test, given_told     that a formula gives a table, by a test that is computed, and what the test says
--     four_missed                the four
-- Assumes nothing.
use mathlib.Core.Bool.{Bool, true}
use mathlib.Core.List.{List, [], ◌∷◌, ◌++◌}
use mathlib.Core.Path.{◌≡◌, refl}
use Prim.Native.Nat.{ℕ, ◌+◌, ◌*◌}
use native.Mathlib.Omega.{arith}
use lib.IntN.{ℤ, pos}
use lib.ListN.{length, replicate}
use Rattle.arithmetic.specs.Choice.{when◌then◌else◌}
use Rattle.arithmetic.specs.Signed.{eq_ℤ}
use Rattle.arithmetic.specs.Sum.{sum_by}
use Rattle.arithmetic.proofs.Crossing.{eq_ℤ_same}
use Rattle.arithmetic.proofs.Tests.{each, each_at}
use Rattle.ranges.specs.Fields.{within}
use Rattle.ranges.specs.Outcome.{answered, and_then}
use Rattle.ranges.specs.Outside.{outside_from, first_outside, too_long, bad_particular_by}
use Rattle.ranges.specs.declared.Particulars.{Particulars}
use Rattle.simpson.specs.Formula.{Formula, termwise, value_at, GivenBy, monomial, volume, longitudinal_moment_of, vertical_moment_of}
use Rattle.simpson.specs.Multipliers.{first_rule, second_rule, later, multiplier}
use Rattle.hydrostatics.specs.Hull.{half_breadth, term, S, Sx, Sz, Q, C}
use Rattle.hydrostatics.specs.Row.{row_from}
use Rattle.hydrostatics.specs.Rows.{displacement_before, rows_up_to, rows_by, rows_of}
use Rattle.demands.specs.ExactVolumes.{power, Missed}

-- at a station and waterline, and at every one
unfoldable pub given_at : Formula → (ℕ → ℕ → ℕ) → ℕ → ℕ → Bool
given_at f y i j = eq_ℤ (pos (y i j)) (value_at f i j)

unfoldable pub given_test : Formula → ℕ → ℕ → (ℕ → ℕ → ℕ) → Bool
given_test f n k y = each (λ i. each (given_at f y i) 0 (k + 1)) 0 (n + 1)

pub given_told : (f : Formula) (n k : ℕ) (y : ℕ → ℕ → ℕ) → given_test f n k y ≡ true → GivenBy f n k y
unfolding given_at given_test
given_told f n k y e i j l m =
    eq_ℤ_same (pos (y i j)) (value_at f i j)
    (each_at (given_at f y i) 0 (k + 1) (each_at (λ i. each (given_at f y i) 0 (k + 1)) 0 (n + 1) e i (omega arith) (omega arith)) j (omega arith) (omega arith))

-- five intervals of 2,500 mm and five of 500 mm, in fresh water
five : Particulars
five = record { n = 5; m = 5; s = 2_500; d = 500; density = 1_000 }

missed : (f : Formula) (sum : List ℕ → Particulars → ℕ → ℕ) (integral : Formula → ℕ → ℕ → ℤ) (table rows : List ℕ)
    → given_test f 5 5 (half_breadth table five) ≡ true → rows_of table five (length rows) ≡ answered rows → sum table five 5 ≡ 1_803_360 → integral f 5 5 ≡ pos (576 * 3_125)
    → Missed f sum integral
unfolding five
missed f sum integral table rows given so sum_is integral_is = record {
  half_breadths = table;
  p = five;
  given = given_told f 5 5 (half_breadth table five) given;
  rows = rows;
  answered_with = so;
  five_by_five = (refl, refl);
  sum_is = sum_is;
  integral_is = integral_is;
}

-- station by station: each number at all six waterlines; and all six numbers at each station
abbrev at_stations : List ℕ → List ℕ
at_stations [] = []
at_stations (y ∷ rest) = replicate 6 y ++ at_stations rest

abbrev at_waterlines : List ℕ → List ℕ
at_waterlines ys = ys ++ ys ++ ys ++ ys ++ ys ++ ys

pub four_missed : Missed (power 4 0) S volume × Missed (power 0 4) S volume × Missed (power 3 0) Sx longitudinal_moment_of × Missed (power 0 3) Sz vertical_moment_of
unfolding five given_test given_at each eq_ℤ half_breadth termwise monomial sum_by multiplier first_rule second_rule later term S Sx Sz Q C row_from rows_by rows_up_to displacement_before bad_particular_by too_long first_outside outside_from within and_then when◌then◌else◌
four_missed = (
  missed (power 4 0) S volume (at_stations (0 ∷ 1 ∷ 16 ∷ 81 ∷ 256 ∷ 625 ∷ []))
      (1_000 ∷ 3_130 ∷ 10_465 ∷ 500 ∷ 59 ∷ 559 ∷ 3_130_833
      ∷ 1_500 ∷ 4_696 ∷ 10_465 ∷ 750 ∷ 39 ∷ 789 ∷ 3_130_833
      ∷ 2_000 ∷ 6_261 ∷ 10_465 ∷ 1_000 ∷ 29 ∷ 1_029 ∷ 3_130_833
      ∷ 2_500 ∷ 7_827 ∷ 10_465 ∷ 1_250 ∷ 23 ∷ 1_273 ∷ 3_130_833 ∷ [])
      refl refl refl refl,
  missed (power 0 4) S volume (at_waterlines (0 ∷ 1 ∷ 16 ∷ 81 ∷ 256 ∷ 625 ∷ []))
      (1_000 ∷ 83 ∷ 6_250 ∷ 900 ∷ 0 ∷ 900 ∷ 400_000
      ∷ 1_500 ∷ 618 ∷ 6_250 ∷ 1_295 ∷ 7 ∷ 1_302 ∷ 2_025_000
      ∷ 2_000 ∷ 2_566 ∷ 6_250 ∷ 1_675 ∷ 54 ∷ 1_729 ∷ 6_400_000
      ∷ 2_500 ∷ 7_827 ∷ 6_250 ∷ 2_093 ∷ 259 ∷ 2_353 ∷ 15_625_000 ∷ [])
      refl refl refl refl,
  missed (power 3 0) Sx longitudinal_moment_of (at_stations (0 ∷ 1 ∷ 8 ∷ 27 ∷ 64 ∷ 125 ∷ []))
      (1_000 ∷ 781 ∷ 10_018 ∷ 500 ∷ 2 ∷ 502 ∷ 781_250
      ∷ 1_500 ∷ 1_171 ∷ 10_018 ∷ 750 ∷ 1 ∷ 751 ∷ 781_250
      ∷ 2_000 ∷ 1_562 ∷ 10_018 ∷ 1_000 ∷ 1 ∷ 1_001 ∷ 781_250
      ∷ 2_500 ∷ 1_953 ∷ 10_018 ∷ 1_250 ∷ 0 ∷ 1_250 ∷ 781_250 ∷ [])
      refl refl refl refl,
  missed (power 0 3) Sz vertical_moment_of (at_waterlines (0 ∷ 1 ∷ 8 ∷ 27 ∷ 64 ∷ 125 ∷ []))
      (1_000 ∷ 50 ∷ 6_250 ∷ 833 ∷ 0 ∷ 833 ∷ 200_000
      ∷ 1_500 ∷ 253 ∷ 6_250 ∷ 1_222 ∷ 0 ∷ 1_222 ∷ 675_000
      ∷ 2_000 ∷ 800 ∷ 6_250 ∷ 1_604 ∷ 2 ∷ 1_606 ∷ 1_600_000
      ∷ 2_500 ∷ 1_953 ∷ 6_250 ∷ 2_003 ∷ 8 ∷ 2_012 ∷ 3_125_000 ∷ [])
      refl refl refl refl,
)
