-- A row's numbers against their ranges.
--     RowInRange                           the seven ranges, as facts
--     row_in_range, none_outside           no number outside: all in range; and the converse
-- Assumes nothing.
use mathlib.Core.Path.{◌≡◌}
use mathlib.Core.List.{map}
use Prim.Native.Nat.{ℕ, ◌≤◌}
use native.Mathlib.Omega.{arith}
use lib.IntN.{pos}
use Rattle.arithmetic.proofs.Choice.{chosen}
use Rattle.ranges.specs.Fields.{Range, least, most, row_ranges}
use Rattle.ranges.specs.Private.InRange.{row_range}
use Rattle.ranges.specs.Outside.{outside_from, first_outside}
use Rattle.ranges.specs.Sizes.{row_width}
use Rattle.ranges.proofs.Facts.{all_within, within_whole, whole_within}
use Rattle.hydrostatics.specs.Row.{numbers_of}
use Rattle.hydrostatics.specs.declared.Row.{Row}

abbrev pub Between : Range → ℕ → Type 0
Between r n = (least r ≤ n) × (n ≤ most r)

pub record RowInRange (row : Row) : Type 0 where
  pub draft : Between (row_range 0) row.draft
  pub displacement : Between (row_range 1) row.displacement
  pub lcb : Between (row_range 2) row.lcb
  pub kb : Between (row_range 3) row.kb
  pub bm : Between (row_range 4) row.bm
  pub km : Between (row_range 5) row.km
  pub area : Between (row_range 6) row.area

pub row_in_range : (row : Row) → first_outside row_ranges (map pos (numbers_of row)) ≡ row_width → RowInRange row
row_in_range row e =
    let at = all_within row_ranges (map pos (numbers_of row)) (omega (arith, e)) in
    record {
      draft = within_whole (row_range 0) row.draft (at 0 (omega arith));
      displacement = within_whole (row_range 1) row.displacement (at 1 (omega arith));
      lcb = within_whole (row_range 2) row.lcb (at 2 (omega arith));
      kb = within_whole (row_range 3) row.kb (at 3 (omega arith));
      bm = within_whole (row_range 4) row.bm (at 4 (omega arith));
      km = within_whole (row_range 5) row.km (at 5 (omega arith));
      area = within_whole (row_range 6) row.area (at 6 (omega arith));
    }

pub none_outside : {row : Row} → RowInRange row → first_outside row_ranges (map pos (numbers_of row)) ≡ row_width
unfolding first_outside outside_from
none_outside r =
    simp (whole_within _ _ _ r.draft, whole_within _ _ _ r.displacement, whole_within _ _ _ r.lcb, whole_within _ _ _ r.kb, whole_within _ _ _ r.bm, whole_within _ _ _ r.km, whole_within _ _ _ r.area, chosen)
