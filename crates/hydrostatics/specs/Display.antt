-- "Display: the seven numbers of a row become a record of floats in metres, tonnes and square metres, each a 64-bit float,
-- the whole number divided once by 1,000.0 (the area by 1,000,000.0). The first number outside is refused with 4."
use Rattle.std.specs.Prelude.{ℕ, map, ltb, Float, pos}
use Rattle.std.specs.Float.Ieee as Ieee
use Rattle.std.specs.Float.{binary64}
use Rattle.arithmetic.specs.Choice.{when◌then◌else◌}
use Rattle.ranges.specs.Outcome.{Outcome, answered, refused}
use Rattle.ranges.specs.Outside.{first_outside}
use Rattle.ranges.specs.Fields.{row_ranges}
use Rattle.ranges.specs.Refusals.{out_of_range}
use Rattle.ranges.specs.Sizes.{row_width}
use Rattle.hydrostatics.specs.Row.{numbers_of}
use Rattle.hydrostatics.specs.declared.Figures.{Figures}
use Rattle.hydrostatics.specs.declared.Row.{Row}

-- n divided once, both converted exactly
infixl 60 ◌divided_by◌
abbrev pub ◌divided_by◌ : ℕ → ℕ → Float
n divided_by k = Ieee.div binary64 (Ieee.of_int binary64 (pos n)) (Ieee.of_int binary64 (pos k))

unfoldable pub figures_of : Row → Figures
figures_of row = record {
  draft = row.draft divided_by 1_000;
  displacement = row.displacement divided_by 1_000;
  lcb = row.lcb divided_by 1_000;
  kb = row.kb divided_by 1_000;
  bm = row.bm divided_by 1_000;
  km = row.km divided_by 1_000;
  area = row.area divided_by 1_000_000;
}

unfoldable pub display_of : Row → Outcome Figures
display_of row =
    let outside = first_outside row_ranges (map pos (numbers_of row)) in
    when ltb outside row_width then refused out_of_range outside else answered (figures_of row)
