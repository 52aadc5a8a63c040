-- Exact volumes: hulls by formula get their integrals, from the theorems of the crates below.
--     exact_volumes      all of `ExactVolumes`
--     reached            what it says at its own bounds: two intervals each way, the highest degrees, the last row
-- Assumes nothing.
use mathlib.Core.Bool.{true}
use mathlib.Core.List.{List, [], ◌∷◌}
use mathlib.Core.Path.{◌≡◌, refl}
use Prim.Native.Nat.{ℕ, ◌*◌, ◌/◌}
use native.Mathlib.Omega.{arith}
use lib.IntN.{pos}
use Rattle.arithmetic.specs.Choice.{when◌then◌else◌}
use Rattle.arithmetic.specs.Signed.{eq_ℤ}
use Rattle.arithmetic.specs.Sum.{sum_by}
use Rattle.arithmetic.proofs.Tests.{each}
use Rattle.ranges.specs.Fields.{within}
use Rattle.ranges.specs.Outcome.{and_then, answer_with, left_with}
use Rattle.ranges.specs.Outside.{outside_from, first_outside, too_long, bad_particular_by}
use Rattle.ranges.specs.declared.Particulars.{Particulars}
use Rattle.simpson.specs.Formula.{termwise, volume, longitudinal_moment_of, vertical_moment_of}
use Rattle.simpson.specs.Multipliers.{first_rule, second_rule, later, multiplier}
use Rattle.simpson.proofs.Volumes.{factor_whole, monomial_cleared}
use Rattle.hydrostatics.specs.Hull.{half_breadth, term, S, Sx, Sz, Q, C}
use Rattle.hydrostatics.specs.Promise.{MakesRows}
use Rattle.hydrostatics.specs.Row.{row_from}
use Rattle.hydrostatics.specs.Rows.{displacement_before, rows_up_to, rows_by}
use Rattle.hydrostatics.specs.Usable.{row_in}
use Rattle.std.specs.Prelude.{Ok}
use Rattle.hydrostatics.proofs.ByFormula.{S_exact, Sx_exact, Sz_exact, made_displacement, made_lcb, made_kb}
use Rattle.demands.specs.ExactVolumes.{power, ExactSums, ExactRow, ExactVolumes}
use Rattle.demands.proofs.MissedHulls.{given_at, given_test, given_told, four_missed}

pub exact_volumes : ExactVolumes
exact_volumes = record {
  integrals_are_whole = λ a b l m. (factor_whole a b (omega arith) (omega arith), monomial_cleared a b (omega arith) (omega arith));
  sums_are_exact = λ half_breadths p f k long deep given. record {
    volume_is = λ c d. S_exact half_breadths p f k (omega arith) (omega arith) given (omega arith) (omega arith);
    longitudinal_is = λ c d. Sx_exact half_breadths p f k (omega arith) (omega arith) given (omega arith) (omega arith);
    vertical_is = λ c d. Sz_exact half_breadths p f k (omega arith) (omega arith) given (omega arith) (omega arith);
  };
  rows_are_exact = λ made r h f given. record {
    displacement_is = λ c d. made_displacement made r h f given (omega arith) (omega arith);
    lcb_is = λ c d. made_lcb made r h f given (omega arith) (omega arith);
    kb_is = λ c d. made_kb made r h f given (omega arith) (omega arith);
  };
  fourth_degree_fails = (four_missed.0, four_missed.1);
  third_degree_moments_fail = (four_missed.2, four_missed.3);
}

-- ---- at the bounds
-- two intervals of 2,500 mm and three of 500 mm, in fresh water
abbrev two : Particulars
two = record { n = 2; m = 3; s = 2_500; d = 500; density = 1_000 }

-- of y = iᵃ·jᵇ: the sums of the first row's waterline, and the last row
sums_and_row : (a b : ℕ) (table rows : List ℕ) → given_test (power a b) 2 3 (half_breadth table two) ≡ true → MakesRows table two rows rows (Ok 2)
    → ExactSums table two (power a b) 2 × ExactRow two (power a b) 3 (row_in rows 1)
sums_and_row a b table rows e made =
    let given = given_told (power a b) 2 3 (half_breadth table two) e in (
      exact_volumes.sums_are_exact table two (power a b) 2 (omega arith) (omega arith) (λ i j l m. given i j (omega arith) (omega arith)),
      exact_volumes.rows_are_exact made 1 (omega arith) (power a b) given,
    )

-- y = i³·j³, y = i²·j³ and y = i³·j²
abbrev third : List ℕ
third = 0 ∷ 0 ∷ 0 ∷ 0 ∷ 0 ∷ 1 ∷ 8 ∷ 27 ∷ 0 ∷ 8 ∷ 64 ∷ 216 ∷ []

abbrev second_along : List ℕ
second_along = 0 ∷ 0 ∷ 0 ∷ 0 ∷ 0 ∷ 1 ∷ 8 ∷ 27 ∷ 0 ∷ 4 ∷ 32 ∷ 108 ∷ []

abbrev second_up : List ℕ
second_up = 0 ∷ 0 ∷ 0 ∷ 0 ∷ 0 ∷ 1 ∷ 4 ∷ 9 ∷ 0 ∷ 8 ∷ 32 ∷ 72 ∷ []

-- the displacement, LCB and KB of the last row, 202 kg, 3,750 mm and 1,125 mm, from the integrals
reached :
    (576 / (4 * 4) * (4 * 4) ≡ 576)
    × (pos (S third two 2) ≡ volume (power 3 3) 2 2)
    × ((v : ℕ) × (pos v ≡ volume (power 3 3) 2 3) × (202 ≡ 2_500 * 500 * v * 1_000 / 288_000_000_000))
    × (pos (Sx second_along two 2) ≡ longitudinal_moment_of (power 2 3) 2 2)
    × ((v w : ℕ) × (pos v ≡ volume (power 2 3) 2 3) × (pos w ≡ longitudinal_moment_of (power 2 3) 2 3) × (3_750 ≡ 2_500 * w / v))
    × (pos (Sz second_up two 2) ≡ vertical_moment_of (power 3 2) 2 2)
    × ((v w : ℕ) × (pos v ≡ volume (power 3 2) 2 3) × (pos w ≡ vertical_moment_of (power 3 2) 2 3) × (1_125 ≡ 500 * w / v))
unfolding given_test given_at each eq_ℤ half_breadth termwise sum_by multiplier first_rule second_rule later term S Sx Sz Q C row_from row_in rows_by rows_up_to displacement_before bad_particular_by too_long first_outside outside_from within and_then answer_with left_with when◌then◌else◌
reached =
    let of-third =
    sums_and_row 3 3 third (1_000 ∷ 40 ∷ 4_166 ∷ 833 ∷ 3 ∷ 837 ∷ 160_000 ∷ 1_500 ∷ 202 ∷ 4_166 ∷ 1_222 ∷ 27 ∷ 1_250 ∷ 540_000 ∷ [])
    refl (record { answer_is = refl; left = refl }) in
    let along =
    sums_and_row 2 3 second_along (1_000 ∷ 26 ∷ 3_750 ∷ 833 ∷ 0 ∷ 834 ∷ 106_666 ∷ 1_500 ∷ 135 ∷ 3_750 ∷ 1_222 ∷ 5 ∷ 1_227 ∷ 360_000 ∷ [])
    refl (record { answer_is = refl; left = refl }) in
    let up =
    sums_and_row 3 2 second_up (1_000 ∷ 26 ∷ 4_166 ∷ 750 ∷ 0 ∷ 750 ∷ 80_000 ∷ 1_500 ∷ 90 ∷ 4_166 ∷ 1_125 ∷ 2 ∷ 1_127 ∷ 180_000 ∷ [])
    refl (record { answer_is = refl; left = refl }) in (
      (exact_volumes.integrals_are_whole 3 3 (omega arith) (omega arith)).0,
      of-third.0.volume_is (omega arith) (omega arith),
      of-third.1.displacement_is (omega arith) (omega arith),
      along.0.longitudinal_is (omega arith) (omega arith),
      along.1.lcb_is (omega arith) (omega arith),
      up.0.vertical_is (omega arith) (omega arith),
      up.1.kb_is (omega arith) (omega arith),
    )
