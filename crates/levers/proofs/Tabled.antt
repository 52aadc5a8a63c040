-- The tables of products and of levers.
--     sine_le                                     no sine is above 1
--     products_length, product_at, product_le     the products, each by its number, and none above KG
--     products_in_range                           so they are a table in range, as KN in range is: kn_in_range
--     lever_is, lever_back                        a lever by its parts; and as a callee made it
--     levers_length, lever_at                     the levers, each by its number
-- Assumes nothing.
use Prim.Native.Nat.{ℕ, zero, suc, ◌+◌, ◌*◌, ◌≤◌, ◌<◌}
use mathlib.Core.Bool.{Bool, true, ◌&&◌}
use mathlib.Core.Path.{◌≡◌, refl, sym, ap, ap₂, ◌∙◌}
use mathlib.Core.List.{List, [], ◌∷◌, map}
use native.Mathlib.Nat.{mul-le-mul_left}
use native.Mathlib.Omega.{arith}
use borrow.Author.Tests.{eqb-true}
use lib.Dec.{eqb, lit≤}
use lib.IntN.{ℤ, pos, ◌-ℤ◌}
use lib.ListN.{length, get_or, get_or-map}
use Rattle.arithmetic.specs.Choice.{when◌then◌else◌}
use Rattle.arithmetic.specs.Rounding.{rounded_up}
use Rattle.arithmetic.specs.Signed.{nearest}
use Rattle.arithmetic.proofs.Crossing.{back}
use Rattle.arithmetic.proofs.Rounding.{up_of, up_least, up_zero}
use Rattle.arithmetic.proofs.Tests.{both}
use Rattle.ranges.specs.Fields.{◌to◌, within, most, metacentre, cross_lever}
use Rattle.ranges.specs.Outside.{first_outside, outside_from}
use Rattle.ranges.proofs.Facts.{wholes_in_range}
use Rattle.levers.specs.Levers.{products, lever, angles, at_each}
use Rattle.levers.specs.Private.Parts.{value, IsLever}
use Rattle.levers.specs.Private.Tables.{TableInRange}
use Rattle.levers.specs.declared.parts.Parts.{Parts}
use Rattle.levers.specs.Sines.{sines, sine, million, angle_count}
use Rattle.levers.proofs.Comparing.{small_back}

-- ---- the products
pub sine_le : (i : ℕ) → sine i ≤ million
unfolding first_outside outside_from within when◌then◌else◌
sine_le = wholes_in_range (0 to million) sines (lit≤ tt)

module _ (kg : ℕ) where
  pub products_length : length (products kg) ≡ angle_count
  unfolding products
  products_length = refl

  -- KG times a sine of the table
  abbrev product : ℕ → ℕ
  product sine = rounded_up (kg * sine) million

  product_of_none : product 0 ≡ 0
  product_of_none =
      let none : kg * 0 ≡ 0 = omega arith in
      ap (λ n. rounded_up n million) none ∙ up_zero (up_of 0 million (omega arith))

  pub product_at : (i : ℕ) → get_or (products kg) i 0 ≡ rounded_up (kg * sine i) million
  unfolding products
  product_at i =
      ap (get_or (map product sines) i) (sym product_of_none) ∙ get_or-map product sines i 0

  pub product_le : (i : ℕ) → get_or (products kg) i 0 ≤ kg
  product_le i =
      rw (product_at i) ((up_least (up_of (kg * sine i) million (omega arith)) kg).1 (mul-le-mul_left kg (sine_le i)))

  pub products_in_range : kg ≤ most metacentre → TableInRange (products kg)
  products_in_range h = record { as_many = products_length; none_higher = λ i. omega (arith, product_le i) }

pub kn_in_range : {kn : List ℕ} → length kn ≡ angle_count → ((i : ℕ) → get_or kn i 0 ≤ most cross_lever) → TableInRange kn
kn_in_range {kn} e h = record { as_many = e; none_higher = λ i. omega (arith, h i) }

-- ---- the levers
module _ {kn off : List ℕ} (i : ℕ) where
  pub lever_is : {p : Parts} → IsLever kn off i p → value p ≡ lever kn off i
  unfolding lever
  lever_is so = ap₂ (λ a b. pos a -ℤ pos b) so.whole_is so.off_is

  pub lever_back : TableInRange kn → TableInRange off → {r : ℤ} → r ≡ nearest (pos (get_or kn i 0) -ℤ pos (get_or off i 0)) → back r ≡ lever kn off i
  unfolding lever
  lever_back k o e = small_back (get_or kn i 0) (get_or off i 0) (omega (arith, k.none_higher i)) (omega (arith, o.none_higher i)) e

-- each number of a list is its own place, counted from one on
is_in_place : ℕ → List ℕ → Bool
is_in_place from [] = true
is_in_place from (n ∷ rest) = eqb n from && is_in_place (suc from) rest

in_place : (from : ℕ) (l : List ℕ) → is_in_place from l ≡ true → (i : ℕ) → i < length l → get_or l i 0 ≡ from + i
unfolding is_in_place
in_place from [] e i h = absurd (omega arith)
in_place from (n ∷ rest) e zero h = eqb-true n from (both (eqb n from) (is_in_place (suc from) rest) e).0 ∙ omega arith
in_place from (n ∷ rest) e (suc i) h = in_place (suc from) rest (both (eqb n from) (is_in_place (suc from) rest) e).1 i (omega arith) ∙ omega arith

map_at : (f : ℕ → ℤ) (l : List ℕ) (i : ℕ) → i < length l → get_or (map f l) i (pos 0) ≡ f (get_or l i 0)
map_at f [] i h = absurd (omega arith)
map_at f (n ∷ rest) zero h = refl
map_at f (n ∷ rest) (suc i) h = map_at f rest i (omega arith)

angle_at : (i : ℕ) → i < angle_count → get_or angles i 0 ≡ i
unfolding is_in_place
angle_at i h = in_place 0 angles refl i h ∙ omega arith

module _ (gz : ℕ → ℤ) where
  pub levers_length : length (at_each gz) ≡ angle_count
  unfolding at_each
  levers_length = refl

  pub lever_at : (i : ℕ) → i < angle_count → get_or (at_each gz) i (pos 0) ≡ gz i
  unfolding at_each
  lever_at i h = map_at gz angles i h ∙ ap gz (angle_at i h)
