-- A number against a range, as the code keeps it.
--     at_field           one field has one range
--     within_by_size     a number that is not below 0 is held to its range by its size
-- Assumes nothing.
use mathlib.Core.Path.{◌≡◌, refl, sym, ap}
use mathlib.Core.Bool.{false}
use Prim.Native.Nat.{ℕ}
use lib.IntN.{ℤ, pos, negsuc, nat_abs}
use Rattle.arithmetic.specs.Signed.{is_negative}
use Rattle.arithmetic.proofs.Tests.{never}
use Rattle.ranges.specs.Fields.{Range, within, range_of}

pub at_field : {field k : ℕ} → field ≡ k → range_of k ≡ range_of field
at_field e = ap range_of (sym e)

pub within_by_size : (r : Range) (v : ℤ) → is_negative v ≡ false → within r v ≡ within r (pos (nat_abs v))
within_by_size r (pos n) e = refl
within_by_size r (negsuc n) e = never (sym e)
