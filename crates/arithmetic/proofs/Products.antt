-- Products that fit a machine word, from bounds on their factors; once for every width.
--     product_fits        a · b, where a ≤ A, b ≤ B and A · B fits
--     powers_le           a square and a cube, as a product, of a number that is no larger
-- A product of three is two of these: `product_fits (mul-le-mul h₁ h₂) h₃ tt`, with `mul-le-mul` of the kit. Assumes nothing.
use Prim.Native.Nat.{ℕ, ◌*◌, ◌≤◌, ◌^◌}
use native.Mathlib.Nat.{mul-le-mul}
use lib.Dec.{T, ltb}
use mir.Facts.{Fits-le, Fits-lit}
use mir.Syntax.{Width}
use mir.Val.{Fits, bits}
use Rattle.arithmetic.proofs.Ring.{pow2, pow3}

pub product_fits : {w : Width} {a b A B : ℕ} → a ≤ A → b ≤ B → T (ltb (A * B) (2 ^ bits w)) → Fits w (a * b)
product_fits h k t = Fits-le (mul-le-mul h k) (Fits-lit t)

pub powers_le : {a A : ℕ} → a ≤ A → (a * a ≤ A ^ 2) × (a * a * a ≤ A ^ 3)
powers_le {A} h = (rw (pow2 A) (mul-le-mul h h), rw (pow3 A) (mul-le-mul (mul-le-mul h h) h))
