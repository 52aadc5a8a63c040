-- Numbers up to 2⁵³ are converted to a float without loss.
--     exact_whole       a whole number
--     exact_signed      a signed one
-- Assumes nothing.
use Prim.Native.Nat.{ℕ, ◌^◌, ◌≤◌}
use lib.Dec.{T, le→leb, lt→ltb}
use lib.Ieee.{binary64, in_float}
use lib.IntN.{ℤ, pos, negsuc, nat_abs}

pub exact_whole : {n : ℕ} → n ≤ 2 ^ 53 → T (in_float binary64 (pos n))
unfolding in_float
exact_whole {n} h = le→leb n (2 ^ 53) h

pub exact_signed : (z : ℤ) → nat_abs z ≤ 2 ^ 53 → T (in_float binary64 z)
unfolding in_float
exact_signed (pos n) h = le→leb n (2 ^ 53) h
exact_signed (negsuc n) h = lt→ltb n (2 ^ 53) h
