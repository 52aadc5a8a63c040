-- "Trial figures": those that the paper marks P, change request 1's on both sides of 98 per cent, and change request 4's KM over the rows of the
-- paper's own sheet, as one table. That the definitions give each of them: `figures` of proofs/.
use Rattle.std.specs.Prelude.{ℕ, zero, suc, ◌+◌, ◌^◌, List, [], ◌∷◌, ℤ, pos}
use Rattle.hydrostatics.specs.declared.Row.{Row}
use Rattle.simpson.specs.Curve.{curve}
use Rattle.simpson.specs.Multipliers.{multiplier}
use Rattle.loading.specs.Load.{Tank, Load}
use Rattle.loading.specs.Paper.{rectangle, paper_rules, default_reading}
use Rattle.loading.specs.Rules.{surface_of}
use Rattle.loading.specs.Stability.{km_at, km, gm}
use Rattle.loading.specs.Table.{Table}
use Rattle.loading.specs.declared.Reading.{Reading}
use Rattle.loading.specs.declared.Reading.TheVariants.{Lesser, StraightLine}

infix 40 multipliers_over◌are◌ cubic_over◌gives◌ tank_with◌has◌ KMat◌by◌is◌ sheet_has_km◌and_gm◌
-- the multipliers over so many intervals; the sum over the cubic y = i³; the free surface of so many kg in the paper's tank;
-- KM at a weight over the sheet's rows, by a reading; the sheet's own KM and GM
pub data Figure : Type 0 where
  multipliers_over◌are◌ : ℕ → List ℕ → Figure
  cubic_over◌gives◌ : ℕ → ℕ → Figure
  tank_with◌has◌ : ℕ → ℕ → Figure
  KMat◌by◌is◌ : ℕ → Reading → ℕ → Figure
  sheet_has_km◌and_gm◌ : ℕ → ℤ → Figure

abbrev pub trial_figures : List Figure
trial_figures =
    (multipliers_over 2 are (8 ∷ 32 ∷ 8 ∷ []))
    ∷ (multipliers_over 3 are (9 ∷ 27 ∷ 27 ∷ 9 ∷ []))
    ∷ (multipliers_over 4 are (8 ∷ 32 ∷ 16 ∷ 32 ∷ 8 ∷ []))
    ∷ (multipliers_over 5 are (8 ∷ 32 ∷ 17 ∷ 27 ∷ 27 ∷ 9 ∷ []))
    ∷ (multipliers_over 7 are (8 ∷ 32 ∷ 16 ∷ 32 ∷ 17 ∷ 27 ∷ 27 ∷ 9 ∷ []))
    ∷ (cubic_over 2 gives 96)
    ∷ (cubic_over 3 gives 486)
    ∷ (cubic_over 5 gives 3_750)
    ∷ (tank_with 5_000 has 1_333_334)
    ∷ (tank_with 8_000 has 0)
    ∷ (tank_with 0 has 0)
    ∷ (tank_with 7_999 has 0)
    ∷ (tank_with 7_840 has 0)
    ∷ (tank_with 7_839 has 1_333_334)
    ∷ (KMat 40_000 by Lesser is 1_833)
    ∷ (KMat 40_001 by Lesser is 1_638)
    ∷ (KMat 59_999 by Lesser is 1_638)
    ∷ (KMat 60_000 by Lesser is 1_638)
    ∷ (KMat 70_000 by Lesser is 1_638)
    ∷ (KMat 80_000 by Lesser is 1_666)
    ∷ (KMat 40_000 by StraightLine is 1_833)
    ∷ (KMat 50_000 by StraightLine is 1_735)
    ∷ (KMat 70_000 by StraightLine is 1_652)
    ∷ (KMat 80_000 by StraightLine is 1_666)
    ∷ (sheet_has_km 1_638 and_gm pos 681)
    ∷ []

-- f at 0, 1, …, n − 1
unfoldable pub listed : ℕ → (ℕ → ℕ) → List ℕ
listed zero f = []
listed (suc n) f = f 0 ∷ listed n (λ i. f (suc i))

-- "tank 2,000 by 2,000, density 1,000", of 8,000
abbrev pub trial_tank : ℕ → Tank
trial_tank kg = record { contents = kg; capacity = 8_000; x = 0; y = pos 0; z = 0; length = 2_000; breadth = 2_000; density = 1_000 }

-- the rows that the paper's sheet prints, the item and the tank of its file
abbrev pub sheet_row : ℕ → ℕ → ℕ → ℕ → ℕ → Row
sheet_row draft displacement kb bm km =
    record { draft = draft; displacement = displacement; lcb = 5_000; kb = kb; bm = bm; km = km; area = 40_000_000 }

abbrev pub sheet_table : Table
sheet_table = record {
  first = sheet_row 1_000 40_000 500 1_333 1_833;
  rest = sheet_row 1_500 60_000 750 888 1_638 ∷ sheet_row 2_000 80_000 1_000 666 1_666 ∷ [];
}

abbrev pub sheet_load : Load
sheet_load = record {
  items = record { kg = 45_000; x = 5_000; y = pos 0; z = 1_000 } ∷ [];
  tanks = record { contents = 5_000; capacity = 8_000; x = 5_000; y = pos 400; z = 300; length = 2_000; breadth = 2_000; density = 1_000 } ∷ [];
}

-- what the definitions give in a figure's place
abbrev pub computed : Figure → Figure
computed (multipliers_over n are row) = multipliers_over n are listed (n + 1) (multiplier n)
computed (cubic_over n gives sum) = cubic_over n gives curve n (λ i. i ^ 3)
computed (tank_with kg has surface) = tank_with kg has surface_of rectangle (trial_tank kg)
computed (KMat weight by reading is height) = KMat weight by reading is km_at (paper_rules reading) sheet_table weight
computed (sheet_has_km height and_gm above) =
    sheet_has_km km (paper_rules default_reading) sheet_table sheet_load and_gm gm (paper_rules default_reading) sheet_table sheet_load
