-- One side of a free surface, and the two together.
--     side_most                                  how large a side's sums are
--     widths_most, squares_most, cubes_most      and on the way, width by width
--     A_by_sides, M_by_sides, I_by_sides         A and I are what both sides give, M what starboard gives less what port gives
-- Assumes nothing.
use mathlib.Core.Path.{◌≡◌, sym, ap, ◌∙◌}
use mathlib.Core.List.{List}
use Prim.Native.Nat.{ℕ, ◌+◌, ◌-◌, ◌^◌, ◌≤◌}
use native.Mathlib.Nat.{le_trans, pow-le-pow_left}
use native.Mathlib.Omega.{arith}
use lib.IntN.{pos, ◌-ℤ◌}
use lib.ListN.{length, get_or}
use Rattle.ranges.specs.Fields.{range_of, most}
use Rattle.simpson.specs.Curve.{curve}
use Rattle.simpson.proofs.Curves.{curve_plus, curve_ℤ_less}
use Rattle.simpson.proofs.Moments.{curve_le}
use Rattle.simpson.proofs.Sweep.{Swept, swept_le}
use Rattle.hoppers.specs.Private.Side.{SideInRange, side_of, most_widths, most_squares, most_cubes}
use Rattle.hoppers.specs.Surface.{A, M, I}

module _ {widths : List ℕ} (side : SideInRange widths) where
  abbrev wide : ℕ → ℕ
  wide i = get_or widths i 0

  pub side_most : ((side_of widths).widths ≤ most_widths) × ((side_of widths).squares ≤ most_squares) × ((side_of widths).cubes ≤ most_cubes)
  side_most = (
    omega (arith, side.count_most, curve_le (length widths - 1) (most (range_of 25)) wide (λ i l. side.none_wider i)),
    omega (arith, side.count_most, curve_le (length widths - 1) (most (range_of 25) ^ 2) (λ i. wide i ^ 2) (λ i l. pow-le-pow_left (side.none_wider i) 2)),
    omega (arith, side.count_most, curve_le (length widths - 1) (most (range_of 25) ^ 3) (λ i. wide i ^ 3) (λ i l. pow-le-pow_left (side.none_wider i) 3)),
  )

  module _ {i s : ℕ} where
    pub widths_most : Swept (length widths - 1) (λ i. get_or widths i 0) i s → s ≤ most_widths
    widths_most so = le_trans (swept_le so) side_most.0

    pub squares_most : Swept (length widths - 1) (λ i. get_or widths i 0 ^ 2) i s → s ≤ most_squares
    squares_most so = le_trans (swept_le so) side_most.1

    pub cubes_most : Swept (length widths - 1) (λ i. get_or widths i 0 ^ 3) i s → s ≤ most_cubes
    cubes_most so = le_trans (swept_le so) side_most.2

module _ (port starboard : List ℕ) (as_many : length port ≡ length starboard) where
  abbrev n : ℕ
  n = length port - 1

  -- what is made of each width, summed over both sides
  by_sides : (f : ℕ → ℕ) → curve n (λ i. f (get_or port i 0)) + curve (length starboard - 1) (λ i. f (get_or starboard i 0)) ≡ curve n (λ i. f (get_or port i 0) + f (get_or starboard i 0))
  by_sides f =
      ap (λ k. curve n (λ i. f (get_or port i 0)) + curve (k - 1) (λ i. f (get_or starboard i 0))) (sym as_many)
      ∙ sym (curve_plus n (λ i. f (get_or port i 0)) (λ i. f (get_or starboard i 0)))

  pub A_by_sides : (side_of port).widths + (side_of starboard).widths ≡ A port starboard
  unfolding A
  A_by_sides = by_sides (λ w. w)

  pub I_by_sides : (side_of port).cubes + (side_of starboard).cubes ≡ I port starboard
  unfolding I
  I_by_sides = by_sides (λ w. w ^ 3)

  pub M_by_sides : pos (side_of starboard).squares -ℤ pos (side_of port).squares ≡ M port starboard
  unfolding M
  M_by_sides =
      ap (λ k. pos (curve (k - 1) (λ i. get_or starboard i 0 ^ 2)) -ℤ pos (curve n (λ i. get_or port i 0 ^ 2))) (sym as_many)
      ∙ sym (curve_ℤ_less n (λ i. get_or starboard i 0 ^ 2) (λ i. get_or port i 0 ^ 2))
