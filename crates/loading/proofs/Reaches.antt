-- Bounds on what is aboard, from the ranges of its numbers.
--     sides_together             the two sides of y are its distance from the middle line
--     reach_weight               what one weight brings
--     reach_less, reach_with     within a smaller reach; and two together
-- Assumes nothing.
use mathlib.Core.Path.{◌≡◌}
use Prim.Native.Nat.{ℕ, ◌+◌, ◌≤◌}
use native.Mathlib.Nat.{mul-le-mul_left, mul-add}
use native.Mathlib.Omega.{arith}
use lib.IntN.{ℤ, pos, negsuc, nat_abs}
use Rattle.ranges.specs.Fields.{most, y_range}
use Rattle.ranges.specs.Sides.{sides_of}
use Rattle.loading.specs.Private.Aboard.{◌with◌, weight_at, Stowed, Reach}
use Rattle.loading.specs.declared.Aboard.{Aboard}

pub sides_together : (y : ℤ) → (sides_of y).port + (sides_of y).starboard ≡ nat_abs y
sides_together (pos n) = omega arith
sides_together (negsuc n) = omega arith

module _ {heaviest kg x : ℕ} {y : ℤ} {z : ℕ} (s : Stowed heaviest kg x y z) where
  pub reach_weight : (surface : ℕ) → Reach heaviest surface (weight_at kg x y z surface)
  reach_weight surface =
      let both : (sides_of y).port + (sides_of y).starboard ≤ most y_range = omega (arith, sides_together y) in
      record {
        weight = s.kg_most;
        longitudinal = omega (arith, mul-le-mul_left kg s.x_most);
        transverse = omega (arith, mul-le-mul_left kg both, mul-add kg (sides_of y).port (sides_of y).starboard);
        vertical = omega (arith, mul-le-mul_left kg s.z_most);
        surface = omega arith;
      }

pub reach_less : {k s l t : ℕ} {a : Aboard} → Reach k s a → k ≤ l → s ≤ t → Reach l t a
reach_less {k} {s} {l} {t} {a} f g h = record {
  weight = omega arith;
  longitudinal = f.longitudinal;
  transverse = f.transverse;
  vertical = f.vertical;
  surface = omega arith;
}

pub reach_with : {k s l t : ℕ} {a b : Aboard} → Reach k s a → Reach l t b → Reach (k + l) (s + t) (a with b)
reach_with {k} {s} {l} {t} {a} {b} f g = record {
  weight = omega arith;
  longitudinal = omega arith;
  transverse = omega arith;
  vertical = omega arith;
  surface = omega arith;
}
