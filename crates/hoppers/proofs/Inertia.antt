-- The inertia from the sums over the two sides.
--     inertia_is                            the inertia by its formula alone, which gives 0 where A is
--     rounded_most, inertia_most            how large it is, before and after it is multiplied by h
--     Summed                                the sums over the two sides, as the code has them
--     area_most, cubes_most, first_most     how large A, I and 4·A·I are
--     lean_below, lean_most                 3·M² is not above 4·A·I
--     made, made_most                       the difference of the two, rounded up over 288·A and times h, is the inertia
-- Assumes nothing.
use mathlib.Core.Path.{◌≡◌, refl, sym, ap, ap₂, ◌∙◌}
use mathlib.Core.List.{List}
use Prim.Native.Nat.{ℕ, zero, suc, ◌+◌, ◌-◌, ◌*◌, ◌≤◌}
use native.Mathlib.Nat.{mul_assoc, zero-mul, mul-le-mul, mul-le-mul_left, suc-mul}
use native.Mathlib.Omega.{arith}
use borrow.Author.Tests.{eq-eqb, ne_eqb}
use lib.IntN.{ℤ, pos, negsuc, nat_abs, ◌-ℤ◌, ◌*ℤ◌, pow}
use Rattle.arithmetic.specs.Rounding.{rounded_up}
use Rattle.arithmetic.specs.Signed.{is_negative}
use Rattle.arithmetic.proofs.Choice.{chosen}
use Rattle.arithmetic.proofs.Crossing.{less_over, less_whole}
use Rattle.arithmetic.proofs.Integer.{solve_ℤ}
use Rattle.arithmetic.proofs.Polynomial.{◌:*◌, ◌:^◌}
use Rattle.arithmetic.proofs.Rounding.{up_by_none, up_of, up_least}
use Rattle.arithmetic.proofs.Tests.{same_or_other}
use Rattle.ranges.specs.Fields.{range_of, most}
use Rattle.hoppers.specs.Private.Side.{SurfaceInRange, side_of, most_widths, most_cubes, most_rounded}
use Rattle.hoppers.specs.Surface.{A, M, I, numerator, inertia}
use Rattle.hoppers.specs.declared.Side.{Side}
use Rattle.hoppers.proofs.Numerator.{never_negative}
use Rattle.hoppers.proofs.Sides.{side_most, A_by_sides, M_by_sides, I_by_sides}

-- ---- squares: a whole number is at most its own, and that of a number of either sign is that of its size
self_le_square : (n : ℕ) → n ≤ n * n
self_le_square zero = omega arith
self_le_square (suc n) = omega (arith, suc-mul n (suc n))

square_size : (v : ℤ) → pow v 2 ≡ pos (nat_abs v * nat_abs v)
square_size v = solve_ℤ 1 (λ v. v :^ 2) (λ v. v :* v) refl v ∙ sized v
  where
    sized : (v : ℤ) → v *ℤ v ≡ pos (nat_abs v * nat_abs v)
    sized (pos n) = refl
    sized (negsuc n) = refl

module _ (port starboard : List ℕ) where
  abbrev lean : ℕ
  lean = nat_abs (M port starboard)

  -- the numerator as a difference of whole numbers
  whole : numerator port starboard ≡ pos (4 * A port starboard * I port starboard) -ℤ pos (3 * lean * lean)
  unfolding numerator
  whole =
      ap (λ s. pos (4 * A port starboard * I port starboard) -ℤ pos 3 *ℤ s) (square_size (M port starboard))
      ∙ ap (λ k. pos (4 * A port starboard * I port starboard) -ℤ pos k) (sym (mul_assoc 3 lean lean))

  below : 3 * lean * lean ≤ 4 * A port starboard * I port starboard
  below = less_whole _ _ (sym (ap is_negative whole) ∙ never_negative port starboard)

  numerator_is : nat_abs (numerator port starboard) ≡ 4 * A port starboard * I port starboard - 3 * lean * lean
  numerator_is = ap nat_abs (whole ∙ less_over _ _ below)

  pub inertia_is : (h : ℕ) → rounded_up (nat_abs (numerator port starboard)) (288 * A port starboard) * h ≡ inertia port starboard h
  unfolding inertia
  inertia_is h =
      same_or_other (A port starboard) 0
      (λ none. rw (none, up_by_none) (simp (eq-eqb 0 0 refl, chosen) (zero-mul h)))
      (λ some. rw (ne_eqb (A port starboard) 0 some) (simp chosen refl))

-- ---- how large they are
module _ {port starboard : List ℕ} {h : ℕ} (surface : SurfaceInRange port starboard h) where
  A_most : A port starboard ≤ 2 * most_widths
  A_most =
      omega (arith, sym (A_by_sides port starboard surface.as_many), (side_most surface.to_port).0, (side_most surface.to_starboard).0)

  I_most : I port starboard ≤ 2 * most_cubes
  I_most =
      omega (arith, sym (I_by_sides port starboard surface.as_many), (side_most surface.to_port).2, (side_most surface.to_starboard).2)

  -- 4·A·I is at most the most rounded inertia times 288·A
  pub rounded_most : rounded_up (nat_abs (numerator port starboard)) (288 * A port starboard) ≤ most_rounded
  rounded_most =
      same_or_other (A port starboard) 0
      (λ none. rw (none, up_by_none) (omega arith))
      (λ some. (up_least (up_of (nat_abs (numerator port starboard)) (288 * A port starboard) (omega (arith, some))) most_rounded).1
      (rw (numerator_is port starboard) (omega (arith, mul-le-mul_left (A port starboard) I_most, mul_assoc 4 (A port starboard) (I port starboard)))))

  pub inertia_most : inertia port starboard h ≤ most_rounded * most (range_of 26)
  inertia_most = rw (← inertia_is port starboard h) (mul-le-mul rounded_most surface.interval_most)

-- ---- what the code makes of the two sides' sums
pub record Summed (port starboard : List ℕ) (h : ℕ) (p s : Side) : Type 0 where
  pub surface : SurfaceInRange port starboard h
  pub port_is : p ≡ side_of port
  pub starboard_is : s ≡ side_of starboard

module _ {port starboard : List ℕ} {h : ℕ} {p s : Side} (so : Summed port starboard h p s) where
  abbrev area : ℕ
  area = p.widths + s.widths

  abbrev cubes : ℕ
  cubes = p.cubes + s.cubes

  area_is : area ≡ A port starboard
  area_is = ap₂ (λ p s. p.widths + s.widths) so.port_is so.starboard_is ∙ A_by_sides port starboard so.surface.as_many

  cubes_is : cubes ≡ I port starboard
  cubes_is = ap₂ (λ p s. p.cubes + s.cubes) so.port_is so.starboard_is ∙ I_by_sides port starboard so.surface.as_many

  pub area_most : p.widths + s.widths ≤ 2 * most_widths
  area_most = rw area_is (A_most so.surface)

  pub cubes_most : p.cubes + s.cubes ≤ 2 * most_cubes
  cubes_most = rw cubes_is (I_most so.surface)

  pub first_most : 4 * (p.widths + s.widths) * (p.cubes + s.cubes) ≤ 4 * (2 * most_widths) * (2 * most_cubes)
  first_most = mul-le-mul (mul-le-mul_left 4 area_most) cubes_most

  module _ {l : ℕ} (g : l ≡ nat_abs (pos s.squares -ℤ pos p.squares)) where
    lean_is : l ≡ lean port starboard
    lean_is =
        g
        ∙ ap₂ (λ (p s : Side). nat_abs (pos s.squares -ℤ pos p.squares)) so.port_is so.starboard_is
        ∙ ap nat_abs (M_by_sides port starboard so.surface.as_many)

    pub lean_below : 3 * l * l ≤ 4 * (p.widths + s.widths) * (p.cubes + s.cubes)
    lean_below = rw (lean_is, area_is, cubes_is) (below port starboard)

    pub lean_most : 3 * l ≤ 4 * (2 * most_widths) * (2 * most_cubes)
    lean_most = omega (arith, lean_below, first_most, mul_assoc 3 l l, self_le_square l)

    rounded_is : rounded_up (4 * area * cubes - 3 * l * l) (288 * area) ≡ rounded_up (nat_abs (numerator port starboard)) (288 * A port starboard)
    rounded_is =
        ap₂ rounded_up
        (ap₂ (λ a c. 4 * a * c - 3 * l * l) area_is cubes_is ∙ ap (λ l. 4 * A port starboard * I port starboard - 3 * l * l) lean_is ∙ sym (numerator_is port starboard))
        (ap (λ a. 288 * a) area_is)

    module _ {r : ℕ} (m : r ≡ rounded_up (4 * (p.widths + s.widths) * (p.cubes + s.cubes) - 3 * l * l) (288 * (p.widths + s.widths))) where
      pub made : r * h ≡ inertia port starboard h
      made = ap (λ r. r * h) (m ∙ rounded_is) ∙ inertia_is port starboard h

      pub made_most : r * h ≤ most_rounded * most (range_of 26)
      made_most = rw made (inertia_most so.surface)
