-- A hull that is tried while it is swept.
--     line_outside                  a half-breadth that is out of range on its waterline is so in the table
--     lines_in_range                a complete hull whose waterlines are in range is in range
--     one_outside, all_inside, found       what the walk over the table finds, or does not
--     none_outside                  and no number of its table is outside
--     tried_made, tried_outside     what an engine answers, either way
-- Assumes nothing.
use mathlib.Core.Path.{◌≡◌, refl, sym, subst, ◌∙◌}
use mathlib.Core.Bool.{true, false}
use mathlib.Core.List.{List, map}
use Prim.Native.Nat.{ℕ, ◌+◌, ◌*◌, ◌/◌, ◌%◌, ◌≤◌, ◌<◌}
use native.Mathlib.Nat.{mod-lt, div-add-mod', div-lt_iff_lt-mul}
use native.Mathlib.Omega.{arith}
use lib.IntN.{pos}
use lib.ListN.{length}
use Rattle.arithmetic.proofs.Tests.{never}
use Rattle.ranges.specs.Bounds.{place_in}
use Rattle.ranges.proofs.Outside.{place_some, some_place, none_place}
use Rattle.std.specs.Prelude.{Option, Some, None}
use Rattle.std.specs.Option.{is_some, IsSome}
use Rattle.hydrostatics.proofs.Answers.{hull_told}
use Rattle.ranges.specs.Fields.{range_of, most, within}
use Rattle.ranges.specs.Fields as Fields
use Rattle.ranges.specs.Outside.{first_outside}
use Rattle.ranges.specs.declared.Particulars.{Particulars}
use Rattle.ranges.proofs.Facts.{everywhere, wholes_inside, whole_outside}
use Rattle.hydrostatics.specs.Hull.{half_breadth}
use Rattle.hydrostatics.specs.Private.Hull.{Complete, InRange, OneOutside}
use Rattle.hydrostatics.specs.Private.Sums.{MakesSums, TriedSums}
use Rattle.hydrostatics.specs.Private.Waterplanes.{LineInRange}
use Rattle.hydrostatics.specs.declared.table.Sums.{Sums}
use Rattle.hydrostatics.proofs.Limits.{place_within}

module _ {table : List ℕ} {p : Particulars} (hull : Complete table p) where
  pub line_outside : {i j y : ℕ} → i ≤ p.n → j ≤ p.m → y ≡ half_breadth table p i j → within (range_of 5) (pos y) ≡ false → OneOutside table
  unfolding half_breadth
  line_outside {i} {j} h k e f =
      whole_outside (range_of 5) table (i * (p.m + 1) + j) (place_within hull h k).1 (rw e at f)

  pub lines_in_range : ((j : ℕ) → j < p.m + 1 → LineInRange table p j) → InRange table p
  unfolding half_breadth
  lines_in_range lines = record {
    complete = hull;
    half_breadths_ranged =
        everywhere (most (range_of 5)) table (λ k h.
        let w = p.m + 1 in
        let station : k / w < p.n + 1 = (div-lt_iff_lt-mul (omega arith)).1 (omega (arith, hull.points)) in
        rw (div-add-mod' k w) at (lines (k % w) (mod-lt k (omega arith)) (k / w) station));
  }

-- what the walk over the table answers
pub one_outside : (table : List ℕ) {o : Option ℕ} → o ≡ place_in (length table) (first_outside Fields.half_breadth (map pos table)) → true ≡ is_some o → OneOutside table
one_outside table {o = Some place} e t = (some_place (sym e)).1
one_outside table {o = None} e t = never (sym t)

pub all_inside : {table : List ℕ} {p : Particulars} {o : Option ℕ} → Complete table p → o ≡ place_in (length table) (first_outside Fields.half_breadth (map pos table)) → false ≡ is_some o → InRange table p
all_inside {o = Some place} hull e t = never t
all_inside {o = None} hull e t = hull_told hull refl (none_place (sym e))

pub found : (table : List ℕ) {o : Option ℕ} → OneOutside table → o ≡ place_in (length table) (first_outside Fields.half_breadth (map pos table)) → IsSome o
found table h e = subst (λ o. IsSome o) (sym (e ∙ place_some h)) refl

pub none_outside : {table : List ℕ} {p : Particulars} → InRange table p → first_outside Fields.half_breadth (map pos table) ≡ length table
none_outside {table} hull = wholes_inside 0 (most (range_of 5)) table (λ k l. (omega arith, hull.half_breadths_ranged k))

-- ---- what an engine answers
pub tried_made : {table : List ℕ} {p : Particulars} {sums : List Sums} → InRange table p → MakesSums table p sums → TriedSums table p (Some sums)
tried_made hull made = (hull, made)

pub tried_outside : (table : List ℕ) (p : Particulars) → OneOutside table → TriedSums table p None
tried_outside table p out = out
