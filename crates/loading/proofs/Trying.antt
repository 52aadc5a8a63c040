-- The tests of a row, and of a table row by row.
--     before_none, before_some                     the row before it
--     unusable_range, usable_is, heights_most      the row
--     rows_none, rows_on, rows_bad                 the table
--     lent_whole, lent_wrong, lent_bad, lent_good  the lent table, as it is tried,
--     lent_usable, lent_answered                   and what its being answered tells
-- Assumes nothing.
use mathlib.Core.Path.{◌≡◌, refl, sym, ap, ◌∙◌}
use mathlib.Core.Bool.{true, false, ◌&&◌}
use mathlib.Core.List.{List, map}
use Prim.Native.Nat.{ℕ, zero, suc, ◌+◌, ◌*◌, ◌-◌, ◌≤◌, ◌<◌}
use native.Mathlib.Numerals.{add-one}
use native.Mathlib.Decide.{dec_lt}
use native.Mathlib.Omega.{arith}
use borrow.Author.Tests.{eq-eqb, ne_eqb, ltb-true, ltb-false, leb-true}
use lib.Dec.{leb, ltb, eqb}
use lib.IntN.{pos}
use lib.ListN.{length}
use Rattle.std.specs.Prelude.{Option, Some, None, is_some}
use Rattle.arithmetic.proofs.Choice.{chosen}
use Rattle.arithmetic.proofs.Tests.{by_test, both, never}
use Rattle.hydrostatics.specs.Row.{numbers_of}
use Rattle.hydrostatics.specs.Usable.{row_in, in_range, spaced, rises, metacentre_fits, usable_row, usable_up_to}
use Rattle.hydrostatics.specs.declared.Row.{Row}
use Rattle.ranges.specs.Fields.{most, row_ranges}
use Rattle.ranges.specs.Private.InRange.{row_range}
use Rattle.ranges.specs.Outcome.{Outcome, answered, refused, and_then}
use Rattle.ranges.specs.Outside.{first_outside}
use Rattle.ranges.specs.Bounds.{place_in}
use Rattle.ranges.proofs.Outside.{outside_le}
use Rattle.ranges.specs.Refusals.{rows_not_usable, wrong_size, row_table}
use Rattle.ranges.specs.Sizes.{whole_records, row_width, least_rows, most_rows}
use Rattle.hydrostatics.proofs.InRows.{row_in_range}
use Rattle.ranges.proofs.Facts.{records_are}
use Rattle.loading.specs.Condition.{rows_allowed}
use Rattle.loading.specs.Private.Afloat.{count_of, spaced_from, row_before, rises_after, fits_metacentre, rows_tried, is_answered, RowsWhole, RowsUsable}
use Rattle.loading.proofs.Usability.{usable_count}
use Rattle.hydrostatics.proofs.Reading.{seven_are}

rises_is : (rows : List ℕ) (r : ℕ) → rises rows r ≡ rises_after (row_before rows r) (row_in rows r)
unfolding rises
rises_is rows zero = refl
rises_is rows (suc r) = refl

pub before_none : (rows : List ℕ) (r : ℕ) → r ≡ 0 → row_before rows r ≡ None
before_none rows r e = ap (row_before rows) e

pub before_some : (rows : List ℕ) (r : ℕ) → 0 < r → row_before rows r ≡ Some (row_in rows (r - 1))
before_some rows zero h = absurd (omega arith)
before_some rows (suc r) h =
    let m : r ≡ suc r - 1 = omega arith in ap (λ i. Some (row_in rows i)) m

-- ---- the row
module _ (rows : List ℕ) (r : ℕ) (whole : row_width * r + row_width ≤ length rows) {row : Row} (here : row ≡ row_in rows r) where
  range_is : in_range rows r ≡ eqb (first_outside row_ranges (map pos (numbers_of row))) row_width
  unfolding in_range
  range_is = ap (λ l. eqb (first_outside row_ranges (map pos l)) row_width) (seven_are rows r whole ∙ ap numbers_of (sym here))

  abbrev outside : ℕ
  outside = first_outside row_ranges (map pos (numbers_of row))

  module _ {found : Option ℕ} (o : found ≡ place_in row_width outside) where
    some_is : is_some found ≡ ltb outside row_width
    unfolding place_in
    some_is = ap is_some o ∙ by_test (ltb outside row_width) (λ t. simp (t, chosen)) (λ t. simp (t, chosen))

    pub unusable_range : is_some found ≡ true → usable_row rows r ≡ false
    unfolding usable_row
    unusable_range n =
        let low : outside < row_width = ltb-true outside row_width (sym some_is ∙ n) in
        rw (range_is, ne_eqb outside row_width (λ e. omega arith))

    module _ (n : is_some found ≡ false) where
      all_inside : outside ≡ row_width
      all_inside =
          let high : row_width ≤ outside = ltb-false outside row_width (sym some_is ∙ n) in
          omega (arith, outside_le row_ranges (map pos (numbers_of row)))

      ranged : in_range rows r ≡ true
      ranged = range_is ∙ eq-eqb outside row_width all_inside

      pub usable_is : {first : Row} {before : Option Row} → first ≡ row_in rows 0 → before ≡ row_before rows r → usable_row rows r ≡ (spaced_from first row r && rises_after before row && fits_metacentre row)
      unfolding usable_row spaced metacentre_fits
      usable_is e f = rw (ranged, rises_is rows r, e, f, here)

      -- KB and BM are in their ranges, so that their sum fits
      pub heights_most : (row.kb ≤ most (row_range 3)) × (row.bm ≤ most (row_range 4))
      heights_most = let facts = row_in_range row all_inside in (facts.kb.1, facts.bm.1)

-- ---- the table
module _ (rows : List ℕ) where
  pub rows_none : usable_up_to rows 0 ≡ answered 0
  unfolding usable_up_to
  rows_none = refl

  pub rows_on : (r : ℕ) → usable_up_to rows r ≡ answered r → usable_row rows r ≡ true → usable_up_to rows (r + 1) ≡ answered (r + 1)
  unfolding usable_up_to and_then
  rows_on r e u = rw (add-one, e, u) (simp chosen)

  -- a refusal is passed on to the end
  pub rows_bad : (r count : ℕ) → r < count → usable_up_to rows r ≡ answered r → usable_row rows r ≡ false → usable_up_to rows count ≡ refused rows_not_usable r
  unfolding usable_up_to and_then
  rows_bad r zero h e u = absurd (omega arith)
  rows_bad r (suc count) h e u = by_order (λ m. rows_bad r count m e u) (dec_lt r count)
    where
      by_order : (r < count → usable_up_to rows count ≡ refused rows_not_usable r) → Dec (r < count) → usable_up_to rows (suc count) ≡ refused rows_not_usable r
      by_order f (yes m) = rw (f m)
      by_order f (no m) = let k : count ≡ r = omega arith in rw (k, e, u) (simp chosen)

-- ---- the lent table: its size, and then its rows
module _ (rows : List ℕ) where
  pub lent_whole : rows_allowed (length rows) ≡ true → RowsWhole rows (count_of rows)
  lent_whole allowed =
      let h = both (whole_records row_width most_rows (length rows)) (leb least_rows (count_of rows)) allowed in
      let whole = records_are row_width most_rows (length rows) h.0 in
      record { whole = omega arith; least = leb-true least_rows (count_of rows) h.1; most = whole.1 }

  pub lent_wrong : rows_allowed (length rows) ≡ false → rows_tried rows ≡ refused wrong_size row_table
  unfolding rows_tried
  lent_wrong e = simp (e, chosen)

  module _ (allowed : rows_allowed (length rows) ≡ true) where
    pub lent_bad : {bad : ℕ} → refused rows_not_usable bad ≡ usable_up_to rows (count_of rows) → rows_tried rows ≡ refused rows_not_usable bad
    unfolding rows_tried and_then
    lent_bad e = simp (allowed, ← e, chosen)

    pub lent_good : answered (count_of rows) ≡ usable_up_to rows (count_of rows) → rows_tried rows ≡ answered rows
    unfolding rows_tried and_then
    lent_good e = simp (allowed, ← e, chosen)

  was_answered : {A B : Type 0} (o : Outcome A) (b : B) → is_answered (and_then o (λ good. answered b)) ≡ true → (a : A) × (o ≡ answered a)
  unfolding and_then
  was_answered (answered a) b e = (a, refl)
  was_answered (refused number place) b e = never e

  module _ (usable : is_answered (rows_tried rows) ≡ true) where
    allowed_is : rows_allowed (length rows) ≡ true
    unfolding rows_tried
    allowed_is = by_test (rows_allowed (length rows)) (λ t. t) (λ t. never (simp (t, chosen) at usable))

    pub lent_usable : RowsUsable rows (count_of rows)
    unfolding rows_tried
    lent_usable =
        let up_to = was_answered (usable_up_to rows (count_of rows)) rows (simp (allowed_is, chosen) at usable) in
        record { size = lent_whole allowed_is; usable = usable_count rows (count_of rows) up_to.0 up_to.1 }

    pub lent_answered : rows_tried rows ≡ answered rows
    lent_answered = lent_good allowed_is (sym lent_usable.usable)
