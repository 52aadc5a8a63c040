-- What refusal 10 leaves: a table of rows that is usable.
--     usable_count         what is answered of a usable table is its count,
--     usable_row_of           and each of its rows is usable,
--     UsableRow, row_facts, row_rises     which says so much in numbers
--     usable_at, rises_at     the same of a usable table's rows;
--     usable_table         so the table is usable in the words of demand 3
-- Assumes nothing.
use mathlib.Core.Path.{◌≡◌, refl, sym, ap, subst, ◌∙◌}
use mathlib.Core.Bool.{true, ◌&&◌}
use mathlib.Core.List.{List, map}
use Prim.Native.Nat.{ℕ, zero, suc, ◌+◌, ◌*◌, ◌-◌, ◌≤◌, ◌<◌}
use native.Mathlib.Nat.{mul_comm}
use native.Mathlib.Numerals.{add-one}
use native.Mathlib.Decide.{dec_lt}
use native.Mathlib.Omega.{arith}
use borrow.Author.Tests.{ltb-true, eqb-true}
use lib.Dec.{eqb}
use lib.IntN.{pos}
use lib.ListN.{length}
use Rattle.arithmetic.proofs.Tests.{both}
use Rattle.hydrostatics.specs.Row.{numbers_of, waterline_of}
use Rattle.hydrostatics.specs.Usable.{seven, row_in, spacing, in_range, spaced, rises, metacentre_fits, usable_row, usable_up_to}
use Rattle.ranges.specs.Fields.{within, range_of, least, most, row_ranges}
use Rattle.ranges.specs.Outcome.{answered}
use Rattle.ranges.specs.Outside.{first_outside}
use Rattle.ranges.specs.Refusals.{rows_not_usable}
use Rattle.ranges.specs.Sizes.{row_width}
use Rattle.ranges.proofs.Facts.{within_whole}
use Rattle.ranges.proofs.Outcomes.{was_passed, answered_then}
use Rattle.hydrostatics.proofs.InRows.{RowInRange, row_in_range}
use Rattle.hydrostatics.proofs.Reading.{seven_are}
use Rattle.loading.specs.Private.Afloat.{RowsUsable}
use Rattle.loading.proofs.Laws.{Waterlines, last, next, Usable}
use Rattle.loading.specs.Table.{table_of, rows_from}

module _ (rows : List ℕ) where
  pub usable_row_of : (count n : ℕ) → usable_up_to rows count ≡ answered n → (r : ℕ) → r < count → usable_row rows r ≡ true
  unfolding usable_up_to
  usable_row_of zero n e r h = absurd (omega arith)
  usable_row_of (suc count) n e r h =
      let before = answered_then e in
      let here = was_passed rows_not_usable count before.2 in
      by_order (λ m. usable_row_of count before.0 before.1 r m) here.0 (dec_lt r count)
    where
      by_order : (r < count → usable_row rows r ≡ true) → usable_row rows count ≡ true → Dec (r < count) → usable_row rows r ≡ true
      by_order f g (yes m) = f m
      by_order f g (no m) = let e : r ≡ count = omega arith in subst (λ k. usable_row rows k ≡ true) (sym e) g

  -- what is answered is the count
  pub usable_count : (count n : ℕ) → usable_up_to rows count ≡ answered n → usable_up_to rows count ≡ answered count
  unfolding usable_up_to
  usable_count zero n e = refl
  usable_count (suc count) n e =
      let before = answered_then e in
      let here = was_passed rows_not_usable count before.2 in
      e ∙ sym here.1

  -- a usable row in numbers
  pub record UsableRow (r : ℕ) : Type 0 where
    pub ranged : RowInRange (row_in rows r)
    pub spacing_least : least (range_of 3) ≤ spacing rows
    pub spacing_most : spacing rows ≤ most (range_of 3)
    pub draft_is : (row_in rows r).draft ≡ waterline_of r * spacing rows

  tests : (r : ℕ) → usable_row rows r ≡ true → (in_range rows r ≡ true) × (spaced rows r ≡ true) × (rises rows r ≡ true)
  unfolding usable_row
  tests r e =
      let all = both (in_range rows r && spaced rows r && rises rows r) (metacentre_fits rows r) e in
      let front = both (in_range rows r && spaced rows r) (rises rows r) all.0 in
      let ranged = both (in_range rows r) (spaced rows r) front.0 in
      (ranged.0, ranged.1, front.1)

  is_in_range : (r : ℕ) → row_width * r + row_width ≤ length rows → in_range rows r ≡ true → first_outside row_ranges (map pos (numbers_of (row_in rows r))) ≡ row_width
  unfolding in_range
  is_in_range r h e =
      ap (λ l. first_outside row_ranges (map pos l)) (sym (seven_are rows r h))
      ∙ eqb-true (first_outside row_ranges (map pos (seven rows r))) row_width e

  spacing_is : (r : ℕ) → spaced rows r ≡ true → (least (range_of 3) ≤ spacing rows) × (spacing rows ≤ most (range_of 3)) × ((row_in rows r).draft ≡ waterline_of r * spacing rows)
  unfolding spaced
  spacing_is r e =
      let whole = eqb (2 * spacing rows) (row_in rows 0).draft in
      let placed = both (whole && within (range_of 3) (pos (spacing rows))) (eqb (row_in rows r).draft (waterline_of r * spacing rows)) e in
      let g = within_whole (range_of 3) (spacing rows) (both whole (within (range_of 3) (pos (spacing rows))) placed.0).1 in
      (g.0, g.1, eqb-true (row_in rows r).draft (waterline_of r * spacing rows) placed.1)

  pub row_facts : (r : ℕ) → row_width * r + row_width ≤ length rows → usable_row rows r ≡ true → UsableRow r
  row_facts r h e =
      let test = tests r e in
      let g = spacing_is r test.1 in
      record {
        ranged = row_in_range (row_in rows r) (is_in_range r h test.0);
        spacing_least = g.0;
        spacing_most = g.1;
        draft_is = g.2;
      }

  rises_above : (r : ℕ) → rises rows (suc r) ≡ true → (row_in rows r).displacement < (row_in rows (suc r)).displacement
  unfolding rises
  rises_above r e = ltb-true (row_in rows r).displacement (row_in rows (suc r)).displacement e

  pub row_rises : (r : ℕ) → usable_row rows (r + 1) ≡ true → (row_in rows r).displacement < (row_in rows (r + 1)).displacement
  row_rises r e = rw add-one (rises_above r (tests (suc r) (rw add-one at e)).2)

module _ (rows : List ℕ) (count : ℕ) (u : RowsUsable rows count) where
  pub usable_at : (r : ℕ) → r < count → UsableRow rows r
  usable_at r h = row_facts rows r (omega (arith, u.size.whole)) (usable_row_of rows count count u.usable r h)

  pub rises_at : (r : ℕ) → r + 1 < count → (row_in rows r).displacement < (row_in rows (r + 1)).displacement
  rises_at r h = row_rises rows r (usable_row_of rows count count u.usable (r + 1) h)

  waterlines : (more r : ℕ) → r + more < count → Waterlines (spacing rows) (r + 2) (row_in rows r) (rows_from rows (r + 1) more)
  unfolding rows_from
  waterlines zero r h = last ((usable_at r (omega arith)).draft_is ∙ mul_comm (r + 2) (spacing rows))
  waterlines (suc more) r h =
      let e : r + 1 + 2 ≡ r + 2 + 1 = omega arith in
      next ((usable_at r (omega arith)).draft_is ∙ mul_comm (r + 2) (spacing rows)) (rises_at r (omega arith))
      (subst (λ k. Waterlines (spacing rows) k (row_in rows (r + 1)) (rows_from rows (r + 1 + 1) more)) e (waterlines more (r + 1) (omega arith)))

  pub usable_table : Usable (table_of rows count)
  usable_table = record {
    afloat = (usable_at 0 (omega arith)).ranged.displacement.0;
    spaced = omega (arith, (usable_at 0 (omega arith)).spacing_least);
    waterlines = waterlines (count - 1) 0 (omega arith);
  }
