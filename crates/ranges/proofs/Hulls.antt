-- Which particulars are refused: one out of its range, or else s of a hull that is too long. Of any limits.
--     bad_outside, bad_length, bad_none      each of the three answers
--     none_bad                               where none is refused
--     not_too_long                           a length that is not refused
-- Assumes nothing.
use mathlib.Core.Path.{◌≡◌, refl}
use mathlib.Core.Bool.{Bool, true, false}
use Prim.Native.Nat.{ℕ, ◌*◌, ◌≤◌, ◌<◌}
use native.Mathlib.Omega.{arith}
use borrow.Author.Tests.{ltb-true, ltb-false, lt-ltb, le-ltb}
use lib.Dec.{ltb}
use lib.ListN.{length}
use Rattle.arithmetic.specs.Choice.{when◌then◌else◌}
use Rattle.arithmetic.proofs.Choice.{chosen}
use Rattle.ranges.specs.Fields.{particulars, particulars_by, spacing}
use Rattle.ranges.specs.Limits.{Limits}
use Rattle.ranges.specs.Outside.{first_outside, numbers_of, too_long, bad_particular_by}
use Rattle.ranges.specs.declared.Particulars.{Particulars}

-- none is refused where neither test refuses
none_told : (out long : Bool) (place : ℕ) → length particulars ≤ (when out then place else when long then spacing else length particulars)
    → (out ≡ true → place < length particulars) → (out ≡ false → length particulars ≤ place) → (length particulars ≤ place) × (long ≡ false)
unfolding when◌then◌else◌
none_told true long place h low high = absurd (omega (arith, low refl))
none_told false true place h low high = absurd (omega arith)
none_told false false place h low high = (high refl, refl)

module _ (allowed : Limits) (p : Particulars) where
  abbrev outside : ℕ
  outside = first_outside (particulars_by allowed) (numbers_of p)

  pub bad_outside : outside < length particulars → bad_particular_by allowed p ≡ outside
  unfolding bad_particular_by
  bad_outside h = simp (lt-ltb _ _ h, chosen)

  pub bad_length : length particulars ≤ outside → too_long allowed p ≡ true → bad_particular_by allowed p ≡ spacing
  unfolding bad_particular_by
  bad_length h long = simp (le-ltb _ _ h, long, chosen)

  pub bad_none : length particulars ≤ outside → too_long allowed p ≡ false → bad_particular_by allowed p ≡ length particulars
  unfolding bad_particular_by
  bad_none h short = simp (le-ltb _ _ h, short, chosen)

  pub none_bad : length particulars ≤ bad_particular_by allowed p → (length particulars ≤ outside) × (too_long allowed p ≡ false)
  unfolding bad_particular_by
  none_bad h = none_told (ltb outside (length particulars)) (too_long allowed p) outside h (ltb-true outside (length particulars)) (ltb-false outside (length particulars))

  pub not_too_long : too_long allowed p ≡ false → p.n * p.s ≤ allowed.longest_hull
  unfolding too_long
  not_too_long short = ltb-false allowed.longest_hull (p.n * p.s) short
