-- Wider ranges and longer limits: what passed the narrower passes them.
--     Wider, Widened, widened_length     ranges that hold all that others hold; lists of them, as long
--     wider_to, same_range               from the same least number to a greatest that is no smaller; and as it is
--     inside_still                       a table with no number outside
--     Longer                             limits that are nowhere shorter
--     particulars_widened, not_too_long_still, none_bad_still     the particulars: their ranges, their length, and both
--     document_one, longer_now            document 01's limits, before request 6; today's are longer
--     no_length_then, bad_then           by document 01's ranges no hull is too long, so that a particular was refused for its range alone
-- Assumes nothing.
use mathlib.Core.Path.{◌≡◌, refl, ap, subst, ◌∙◌}
use mathlib.Core.Bool.{true, false}
use mathlib.Core.List.{List, [], ◌∷◌}
use mathlib.Core.Logic.{◌⊎◌, inl, inr}
use Prim.Native.Nat.{ℕ, zero, suc, ◌*◌, ◌%◌, ◌≤◌, ◌<◌}
use native.Mathlib.Nat.{mul-le-mul}
use native.Mathlib.Omega.{arith}
use borrow.Author.Tests.{le-ltb}
use lib.IntN.{ℤ, pos, negsuc}
use lib.ListN.{length, get_or}
use Rattle.arithmetic.proofs.Tests.{less_or_not}
use Rattle.ranges.specs.Fields.{Range, ◌to◌, within, particulars, particulars_by, spacing, range_of}
use Rattle.ranges.specs.Limits.{Limits, limits}
use Rattle.ranges.specs.Outside.{first_outside, numbers_of, too_long, bad_particular_by}
use Rattle.ranges.specs.declared.Particulars.{Particulars}
use Rattle.ranges.proofs.Facts.{all_within, all_inside, within_whole, whole_within}
use Rattle.ranges.proofs.Outside.{outside_le}
use Rattle.ranges.proofs.Hulls.{none_bad, bad_none, bad_outside, not_too_long}

-- ---- ranges
abbrev pub Wider : Range → Range → Type 0
Wider narrow wide = (v : ℤ) → within narrow v ≡ true → within wide v ≡ true

pub same_range : (range : Range) → Wider range range
same_range range v h = h

pub wider_to : (a : ℕ) {b c : ℕ} → b ≤ c → Wider (a to b) (a to c)
unfolding within
wider_to a {b} {c} more (pos n) h = let in-narrow = within_whole (a to b) n h in whole_within a c n (in-narrow.0, omega arith)
wider_to a {b} {c} more (negsuc n) h = h

pub data Widened : List Range → List Range → Type 0 where
  none : Widened [] []
  both : {a b : Range} {narrow wide : List Range} → Wider a b → Widened narrow wide → Widened (a ∷ narrow) (b ∷ wide)

pub widened_length : {narrow wide : List Range} → Widened narrow wide → length narrow ≡ length wide
widened_length none = refl
widened_length (both w more) = ap suc (widened_length more)

widened_at : {narrow wide : List Range} → Widened narrow wide → (i : ℕ) → Wider (get_or narrow i (1 to 0)) (get_or wide i (1 to 0))
widened_at none i v h = h
widened_at (both w more) zero v h = w v h
widened_at (both w more) (suc i) v h = widened_at more i v h

pub inside_still : {narrow wide : List Range} → Widened narrow wide → (table : List ℤ) → length table ≤ first_outside narrow table → first_outside wide table ≡ length table
inside_still {narrow} {wide} w table h =
    all_inside wide table (λ i l.
    subst (λ width. within (get_or wide (i % width) (1 to 0)) (get_or table i (pos 0)) ≡ true) (widened_length w)
    (widened_at w (i % length narrow) _ (all_within narrow table h i l)))

-- ---- limits
pub record Longer (short long : Limits) : Type 0 where
  pub intervals : short.most_intervals ≤ long.most_intervals
  pub hull : short.longest_hull ≤ long.longest_hull
  pub file : short.longest_file ≤ long.longest_file

module _ {short long : Limits} (longer : Longer short long) where
  pub particulars_widened : Widened (particulars_by short) (particulars_by long)
  particulars_widened =
      both (wider_to 2 longer.intervals) (both (same_range _) (both (same_range _) (both (same_range _) (both (same_range _) none))))

  module _ (p : Particulars) where
    pub not_too_long_still : too_long short p ≡ false → too_long long p ≡ false
    unfolding too_long
    not_too_long_still h = le-ltb long.longest_hull (p.n * p.s) (omega (arith, not_too_long short p h, longer.hull))

    pub none_bad_still : length particulars ≤ bad_particular_by short p → bad_particular_by long p ≡ length particulars
    none_bad_still h =
        let none = none_bad short p h in
        bad_none long p (omega (arith, inside_still particulars_widened (numbers_of p) none.0)) (not_too_long_still none.1)

-- ---- document 01's: it names no greatest length, and 40 intervals of 2,500 mm are the most that its ranges hold
abbrev pub document_one : Limits
document_one = record { most_intervals = 40; longest_hull = 40 * 2_500; longest_file = 16_384 }

pub longer_now : Longer document_one limits
longer_now = record { intervals = omega arith; hull = omega arith; file = omega arith }

module _ (p : Particulars) where
  pub no_length_then : length particulars ≤ first_outside (particulars_by document_one) (numbers_of p) → too_long document_one p ≡ false
  unfolding too_long
  no_length_then h =
      let at = all_within (particulars_by document_one) (numbers_of p) h in
      let n = within_whole (2 to document_one.most_intervals) p.n (at 0 (omega arith)) in
      let s = within_whole (range_of spacing) p.s (at 2 (omega arith)) in
      le-ltb document_one.longest_hull (p.n * p.s) (omega (arith, mul-le-mul n.1 s.1))

  pub bad_then : bad_particular_by document_one p ≡ first_outside (particulars_by document_one) (numbers_of p)
  bad_then = by_range (less_or_not (first_outside (particulars_by document_one) (numbers_of p)) (length particulars))
    where
      by_range : (first_outside (particulars_by document_one) (numbers_of p) < length particulars) ⊎ (length particulars ≤ first_outside (particulars_by document_one) (numbers_of p))
          → bad_particular_by document_one p ≡ first_outside (particulars_by document_one) (numbers_of p)
      by_range (inl out) = bad_outside document_one p out
      by_range (inr all) = bad_none document_one p all (no_length_then all) ∙ omega (arith, outside_le (particulars_by document_one) (numbers_of p))
