-- What being in range tells.
--     sides_of_negative, sides_of_whole     the two sides of y by its sign
--     sides_are                             y is what lies to starboard less what lies to port
--     all_within, all_inside                no number of a table is outside: each is within its field's range; and the other way
--     within_whole, whole_within            what that says of a whole number, and the other way
--     not_within                            a whole number that is not so is outside
--     within_size                           the same of the size of any number
--     within_positive                       of a range from 0 on: each number is its own size
--     wholes_in_range, wholes_inside        of a table of whole numbers of one range: none is above it, at any place; and the other way
--     whole_outside                         one that is not in it is outside
--     first_above, none_above               of numbers from 0 to b: the first above b, and where none is
--     half_breadths_in_range, particulars_in_range      the same as facts
--     records_are                           what a count of whole records is
-- Assumes nothing.
use mathlib.Core.Path.{◌≡◌, refl, sym, ◌∙◌}
use mathlib.Core.Bool.{Bool, true, false, ◌&&◌}
use mathlib.Core.List.{List, [], ◌∷◌, map}
use mathlib.Core.Logic.{⊎_elim}
use Prim.Native.Nat.{ℕ, zero, suc, ◌+◌, ◌%◌, ◌/◌, ◌≤◌, ◌<◌}
use native.Mathlib.Nat.{zero-add, add-zero, mod-one}
use native.Mathlib.Omega.{arith}
use borrow.Author.Tests.{leb-true, le-leb, eqb-true}
use lib.Dec.{leb, eqb}
use lib.IntN.{ℤ, pos, negsuc, nat_abs, ◌-ℤ◌, +ℤ_idl, +ℤ_idr}
use lib.ListN.{length, get_or, get_or-map, length-map}
use Rattle.arithmetic.specs.Signed.{is_negative}
use Rattle.arithmetic.specs.Choice.{when◌then◌else◌}
use Rattle.arithmetic.proofs.Choice.{chosen}
use Rattle.arithmetic.proofs.Tests.{both, never, by_test, less_or_not}
use Rattle.ranges.specs.Fields.{Range, ◌to◌, ±◌, within, least, most, range_of, particulars, half_breadth}
use Rattle.ranges.specs.Limits.{limits}
use Rattle.ranges.specs.Outside.{outside_from, first_outside, numbers_of, bad_particular}
use Rattle.ranges.specs.Private.InRange.{ParticularsInRange, HalfBreadthsInRange}
use Rattle.ranges.specs.Sides.{sides_of}
use Rattle.ranges.specs.Sizes.{whole_records}
use Rattle.ranges.specs.declared.Particulars.{Particulars}
use Rattle.ranges.proofs.Hulls.{none_bad, not_too_long}
use Rattle.ranges.proofs.Outside.{outside_le, outside_first}

-- ---- sides
module _ (y : ℤ) (size : ℕ) (e : size ≡ nat_abs y) where
  pub sides_of_negative : is_negative y ≡ true → record { port = size; starboard = 0 } ≡ sides_of y
  sides_of_negative n = rw e (negative y n)
    where
      negative : (y : ℤ) → is_negative y ≡ true → record { port = nat_abs y; starboard = 0 } ≡ sides_of y
      negative (pos n) e = cc e
      negative (negsuc n) e = refl

  pub sides_of_whole : is_negative y ≡ false → record { port = 0; starboard = size } ≡ sides_of y
  sides_of_whole n = rw e (whole y n)
    where
      whole : (y : ℤ) → is_negative y ≡ false → record { port = 0; starboard = nat_abs y } ≡ sides_of y
      whole (pos n) e = refl
      whole (negsuc n) e = cc e

pub sides_are : (y : ℤ) → pos (sides_of y).starboard -ℤ pos (sides_of y).port ≡ y
sides_are (pos n) = +ℤ_idr (pos n)
sides_are (negsuc n) = +ℤ_idl (negsuc n)

-- ---- a table with no number outside
-- the walk went on at this number, and over the rest
went_on : (t : Bool) (far place count : ℕ) → (when t then far else place) ≡ place + suc count → (t ≡ true) × (far ≡ (place + 1) + count)
unfolding when◌then◌else◌
went_on true far place count e = (refl, omega arith)
went_on false far place count e = absurd (omega arith)

inside : (section : List Range) (place : ℕ) (table : List ℤ) → outside_from section place table ≡ place + length table → (i : ℕ) → i < length table → within (get_or section ((place + i) % length section) (1 to 0)) (get_or table i (pos 0)) ≡ true
unfolding outside_from
inside section place [] e i h = absurd (omega arith)
inside section place (v ∷ rest) e zero h =
    let on = went_on (within (get_or section (place % length section) (1 to 0)) v) (outside_from section (place + 1) rest) place (length rest) e in
    rw add-zero on.0
inside section place (v ∷ rest) e (suc i) h =
    let on = went_on (within (get_or section (place % length section) (1 to 0)) v) (outside_from section (place + 1) rest) place (length rest) e in
    let at : place + suc i ≡ (place + 1) + i = omega arith in
    rw at (inside section (place + 1) rest on.1 i (omega arith))

pub all_within : (section : List Range) (table : List ℤ) → length table ≤ first_outside section table → (i : ℕ) → i < length table → within (get_or section (i % length section) (1 to 0)) (get_or table i (pos 0)) ≡ true
unfolding first_outside
all_within section table e i h =
    let none : first_outside section table ≡ length table = omega (arith, outside_le section table) in
    rw zero-add at (inside section 0 table (none ∙ sym (zero-add _)) i h)

-- and the other way
walked : (section : List Range) (place : ℕ) (table : List ℤ) → ((i : ℕ) → i < length table → within (get_or section ((place + i) % length section) (1 to 0)) (get_or table i (pos 0)) ≡ true) → outside_from section place table ≡ place + length table
unfolding outside_from
walked section place [] h = sym (add-zero place)
walked section place (v ∷ rest) h =
    let first : within (get_or section (place % length section) (1 to 0)) v ≡ true = rw add-zero at (h zero (omega arith)) in
    let others = walked section (place + 1) rest (λ i l. let on : place + 1 + i ≡ place + suc i = omega arith in rw on (h (suc i) (omega arith))) in
    rw first (simp chosen (omega arith))

pub all_inside : (section : List Range) (table : List ℤ) → ((i : ℕ) → i < length table → within (get_or section (i % length section) (1 to 0)) (get_or table i (pos 0)) ≡ true) → first_outside section table ≡ length table
unfolding first_outside
all_inside section table h = walked section 0 table (λ i l. rw zero-add (h i l)) ∙ zero-add (length table)

-- ---- what it says of a whole number
between : (a b n : ℕ) → leb a n && leb n b ≡ true → (a ≤ n) × (n ≤ b)
between a b n e = let h = both (leb a n) (leb n b) e in (leb-true a n h.0, leb-true n b h.1)

pub within_whole : (r : Range) (n : ℕ) → within r (pos n) ≡ true → (least r ≤ n) × (n ≤ most r)
unfolding within
within_whole (a to b) n e = between a b n e
within_whole (± b) n e = (omega arith, leb-true n b e)

pub whole_within : (a b n : ℕ) → (a ≤ n) × (n ≤ b) → within (a to b) (pos n) ≡ true
unfolding within
whole_within a b n h = rw (le-leb a n h.0, le-leb n b h.1)

pub not_within : (a b n : ℕ) → ((a ≤ n) × (n ≤ b) → ⊥) → within (a to b) (pos n) ≡ false
not_within a b n h = by_test (within (a to b) (pos n)) (λ t. absurd (h (within_whole (a to b) n t))) (λ e. e)

pub within_size : (r : Range) (v : ℤ) → within r v ≡ true → (least r ≤ nat_abs v) × (nat_abs v ≤ most r)
unfolding within
within_size r (pos n) e = within_whole r n e
within_size (a to b) (negsuc n) e = never e
within_size (± b) (negsuc n) e = (omega arith, leb-true (suc n) b e)

-- a field that is never below 0
pub within_positive : (a b : ℕ) (v : ℤ) → within (a to b) v ≡ true → pos (nat_abs v) ≡ v
unfolding within
within_positive a b (pos n) e = refl
within_positive a b (negsuc n) e = never e

-- a bound on each number of a table holds at every place, since beyond the end there is 0
pub everywhere : (b : ℕ) (table : List ℕ) → ((k : ℕ) → k < length table → get_or table k 0 ≤ b) → (k : ℕ) → get_or table k 0 ≤ b
everywhere b [] h k = omega arith
everywhere b (y ∷ rest) h zero = h zero (omega arith)
everywhere b (y ∷ rest) h (suc k) = everywhere b rest (λ i l. h (suc i) (omega arith)) k

pub wholes_in_range : (r : Range) (table : List ℕ) → length table ≤ first_outside (r ∷ []) (map pos table) → (k : ℕ) → get_or table k 0 ≤ most r
wholes_in_range r table e =
    everywhere (most r) table (λ k h.
    let at = all_within (r ∷ []) (map pos table) (omega (arith, length-map table pos)) k (omega (arith, length-map table pos)) in
    (within_whole r (get_or table k 0) (rw (mod-one, get_or-map pos table k 0) at at)).1)

pub wholes_inside : (a b : ℕ) (table : List ℕ) → ((k : ℕ) → k < length table → (a ≤ get_or table k 0) × (get_or table k 0 ≤ b)) → first_outside ((a to b) ∷ []) (map pos table) ≡ length table
wholes_inside a b table h =
    all_inside ((a to b) ∷ []) (map pos table) (λ k l. rw (mod-one, get_or-map pos table k 0) (whole_within a b (get_or table k 0) (h k (omega (arith, length-map table pos)))))
    ∙ length-map table pos

pub whole_outside : (r : Range) (table : List ℕ) (k : ℕ) → k < length table → within r (pos (get_or table k 0)) ≡ false → first_outside (r ∷ []) (map pos table) < length table
whole_outside r table k h e =
    ⊎_elim (λ less. less)
    (λ none.
    let at = all_within (r ∷ []) (map pos table) (omega (arith, length-map table pos)) k (omega (arith, length-map table pos)) in
    never (sym e ∙ rw (mod-one, get_or-map pos table k 0) at at))
    (less_or_not (first_outside (r ∷ []) (map pos table)) (length table))

module _ (b : ℕ) (table : List ℕ) where
  pub first_above : (i : ℕ) → i < length table → b < get_or table i 0 → ((j : ℕ) → j < i → get_or table j 0 ≤ b) → i ≡ first_outside ((0 to b) ∷ []) (map pos table)
  first_above i there above before =
      sym (outside_first ((0 to b) ∷ []) (map pos table) i (omega (arith, length-map table pos))
      (rw (mod-one, get_or-map pos table i 0) (not_within 0 b (get_or table i 0) (λ is_in_range. omega (arith, is_in_range.1))))
      (λ j l. rw (mod-one, get_or-map pos table j 0) (whole_within 0 b (get_or table j 0) (omega arith, before j l))))

  pub none_above : ((i : ℕ) → i < length table → get_or table i 0 ≤ b) → length table ≡ first_outside ((0 to b) ∷ []) (map pos table)
  none_above all = sym (wholes_inside 0 b table (λ i l. (omega arith, all i l)))

pub half_breadths_in_range : (table : List ℕ) → length table ≤ first_outside half_breadth (map pos table) → HalfBreadthsInRange table
half_breadths_in_range = wholes_in_range (range_of 5)

pub particulars_in_range : (p : Particulars) → length particulars ≤ bad_particular p → ParticularsInRange p
particulars_in_range p e =
    let none = none_bad limits p e in
    let at = all_within particulars (numbers_of p) none.0 in
    let n = within_whole (range_of 0) p.n (at 0 (omega arith)) in
    let m = within_whole (range_of 1) p.m (at 1 (omega arith)) in
    let s = within_whole (range_of 2) p.s (at 2 (omega arith)) in
    let d = within_whole (range_of 3) p.d (at 3 (omega arith)) in
    let density = within_whole (range_of 4) p.density (at 4 (omega arith)) in
    record {
      n_least = n.0;
      n_most = n.1;
      m_least = m.0;
      m_most = m.1;
      s_least = s.0;
      s_most = s.1;
      d_least = d.0;
      d_most = d.1;
      density_least = density.0;
      density_most = density.1;
      length_most = not_too_long limits p none.1;
    }

-- ---- a count of whole records
pub records_are : (width allowed count : ℕ) → whole_records width allowed count ≡ true → (count % width ≡ 0) × (count / width ≤ allowed)
unfolding whole_records
records_are width allowed count e =
    let h = both (eqb (count % width) 0) (leb (count / width) allowed) e in
    (eqb-true (count % width) 0 h.0, leb-true (count / width) allowed h.1)
