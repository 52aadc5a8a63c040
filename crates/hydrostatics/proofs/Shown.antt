-- A row for display.
--     thousand, million                   the code's units, which it has by their bits
--     shown_refused, shown_all, shown     what is displayed, by the place of the first number outside
-- Assumes nothing.
use mathlib.Core.Path.{◌≡◌, refl, sym}
use mathlib.Core.List.{map}
use Prim.Native.Nat.{ℕ}
use native.Mathlib.Omega.{arith}
use borrow.Author.Tests.{lt-ltb, le-ltb}
use lib.Ieee.{binary64, of_bits, of_int}
use lib.IntN.{pos}
use Rattle.arithmetic.proofs.Choice.{chosen}
use Rattle.ranges.specs.Fields.{row_ranges}
use Rattle.ranges.specs.Outcome.{answered, refused}
use Rattle.ranges.specs.Outside.{first_outside}
use Rattle.ranges.specs.Refusals.{out_of_range}
use Rattle.ranges.specs.Sizes.{row_width}
use Rattle.ranges.specs.Bounds.{place_in}
use Rattle.ranges.proofs.Outside.{outside_le, some_place, none_place}
use Rattle.std.specs.Prelude.{Some, None}
use Rattle.hydrostatics.specs.Display.{figures_of, display_of}
use Rattle.hydrostatics.specs.Row.{numbers_of}
use Rattle.hydrostatics.specs.declared.Row.{Row}

pub thousand : of_bits binary64 0x408f_4000_0000_0000 ≡ of_int binary64 (pos 1_000)
unfolding of_bits of_int
thousand = refl

pub million : of_bits binary64 0x412e_8480_0000_0000 ≡ of_int binary64 (pos 1_000_000)
unfolding of_bits of_int
million = refl

-- ---- what is displayed
module _ (row : Row) where
  pub shown_refused : {place : ℕ} → Some place ≡ place_in row_width (first_outside row_ranges (map pos (numbers_of row))) → refused out_of_range place ≡ display_of row
  unfolding display_of
  shown_refused first = let at = some_place (sym first) in simp (← at.0, lt-ltb _ _ at.1, chosen)

  module _ (none : None ≡ place_in row_width (first_outside row_ranges (map pos (numbers_of row)))) where
    pub shown_all : first_outside row_ranges (map pos (numbers_of row)) ≡ row_width
    shown_all = omega (arith, none_place (sym none), outside_le row_ranges (map pos (numbers_of row)))

    pub shown : answered (figures_of row) ≡ display_of row
    unfolding display_of
    shown = simp (le-ltb _ _ (none_place (sym none)), chosen)
