-- What the rows answer is a usable table: all that the loading condition relies on.
--     answered_rows        what an answer tells of the hull and its rows
--     Served, served       the numbers of an answer, whatever stands beyond them: how many, and that each row is usable
--     made_usable          the same from the promise
-- Assumes nothing.
use mathlib.Core.Path.{◌≡◌, refl, ap, ◌∙◌}
use mathlib.Core.Bool.{true, ◌||◌, or-true}
use mathlib.Core.List.{List, ◌++◌, map}
use mathlib.Core.Logic.{◌⊎◌, inl, inr}
use Prim.Native.Nat.{ℕ, zero, suc, ◌+◌, ◌*◌, ◌/◌, ◌≤◌, ◌<◌}
use native.Mathlib.Nat.{mul_comm}
use native.Mathlib.Omega.{arith}
use borrow.Author.Tests.{lt-ltb, eq-eqb, ltb-false, not-false, eqb-true}
use lib.Dec.{eqb}
use lib.IntN.{pos}
use lib.ListN.{length, drop}
use Rattle.arithmetic.proofs.Choice.{chosen}
use Rattle.ranges.specs.Fields.{least, most, range_of, particulars, half_breadth}
use Rattle.ranges.specs.Outcome.{answered, and_then, left_with}
use Rattle.ranges.specs.Outside.{first_outside, bad_particular}
use Rattle.ranges.specs.Refusals.{out_of_range, wrong_size, place_of_half_breadths, half_breadth_table, row_table}
use Rattle.ranges.specs.Sizes.{points_of, row_width, rows_over, least_rows, most_rows}
use Rattle.ranges.specs.declared.Particulars.{Particulars}
use Rattle.ranges.proofs.Facts.{whole_within}
use Rattle.ranges.proofs.Outcomes.{not_refused}
use Rattle.hydrostatics.specs.Promise.{table_after, MakesRows}
use Rattle.hydrostatics.specs.Row.{waterline_of, row_from, row_of}
use Rattle.hydrostatics.specs.Rows.{displacement_before, rows_by, rows_of}
use Rattle.hydrostatics.specs.Usable.{in_range, spaced, rises, metacentre_fits, usable_row, usable_up_to}
use Rattle.hydrostatics.specs.Private.Hull.{Complete, InRange}
use Rattle.std.specs.Prelude.{Ok}
use Rattle.hydrostatics.proofs.Answers.{particulars_told, hull_told}
use Rattle.hydrostatics.proofs.InRows.{none_outside}
use Rattle.hydrostatics.proofs.Metacentre.{metacentre_fitting}
use Rattle.hydrostatics.proofs.Passed.{Passed, passed, counted}
use Rattle.hydrostatics.proofs.Ranged.{row_ranged}
use Rattle.hydrostatics.proofs.Reading.{Holds, numbers_part, seven_in, row_in_is}
use Rattle.hydrostatics.proofs.Writing.{numbers_length}

-- ---- what an answer tells
pub record Answered (table : List ℕ) (p : Particulars) (numbers : List ℕ) : Type 0 where
  pub hull : InRange table p
  pub rows : Passed (row_of table p) (rows_over p.m) numbers

pub answered_rows : {table : List ℕ} {p : Particulars} {numbers : List ℕ} (room : ℕ) → rows_of table p room ≡ answered numbers → Answered table p numbers
unfolding rows_by
answered_rows {table} {p} room e =
    let bad = bad_particular p in
    let whole = length table in
    let size = points_of p.n p.m in
    let place = first_outside half_breadth (map pos table) in
    let one = not_refused out_of_range bad e in
    let two = not_refused wrong_size half_breadth_table one.1 in
    let three = not_refused wrong_size row_table two.1 in
    let four = not_refused out_of_range (place_of_half_breadths + place) three.1 in
    let hull : Complete table p = record {
      particulars = particulars_told refl (ltb-false bad (length particulars) one.0);
      points = eqb-true whole size (not-false (eqb whole size) two.0);
    } in
    record {
      hull = hull_told hull refl (ltb-false place whole four.0);
      rows = passed (rows_over p.m) four.1;
    }

-- ---- each test of a row that is read back
both : (a b c : ℕ) → (a ≡ c) ⊎ (b ≡ c) → eqb a c || eqb b c ≡ true
both a b c (inl e) = rw (eq-eqb a c e)
both a b c (inr e) = rw (eq-eqb b c e) (or-true (eqb a c))

module _ {table : List ℕ} {p : Particulars} {numbers : List ℕ} (so : Answered table p numbers) (beyond : List ℕ) where
  held : (r : ℕ) → r < rows_over p.m → Holds (numbers ++ beyond) r (row_of table p r)
  held r h = rw so.rows.numbers_are (numbers_part (row_of table p) (rows_over p.m) r beyond h)

  module _ (r : ℕ) (h : r < rows_over p.m) where
    ranged : in_range (numbers ++ beyond) r ≡ true
    unfolding in_range
    ranged =
        let range = so.hull.complete.particulars in
        let above = so.rows.rises r h in
        let ok = row_ranged so.hull {k = waterline_of r} (omega arith) (omega arith) (omega arith) (so.rows.under r h) in
        rw (seven_in (held r h), none_outside ok)

    evenly : spaced (numbers ++ beyond) r ≡ true
    unfolding spaced row_from
    evenly =
        let d : (least (range_of 3) ≤ p.d) × (p.d ≤ most (range_of 3)) = (so.hull.complete.particulars.d_least, so.hull.complete.particulars.d_most) in
        let half : p.d * 2 / 2 ≡ p.d = omega arith in
        rw (row_in_is (held 0 (omega arith)), row_in_is (held r h), half, eq-eqb (2 * p.d) (p.d * 2) (omega arith), whole_within (least (range_of 3)) (most (range_of 3)) p.d d, eq-eqb (p.d * waterline_of r) (waterline_of r * p.d) (mul_comm p.d (waterline_of r)))

    fits : metacentre_fits (numbers ++ beyond) r ≡ true
    unfolding metacentre_fits
    fits = rw (row_in_is (held r h)) (both _ _ _ (metacentre_fitting table p (waterline_of r)))

  upward : (r : ℕ) → r < rows_over p.m → rises (numbers ++ beyond) r ≡ true
  unfolding rises displacement_before
  upward zero h = refl
  upward (suc r) h = rw (row_in_is (held r (omega arith)), row_in_is (held (suc r) h), lt-ltb _ _ (so.rows.rises (suc r) h))

  row_usable : (r : ℕ) → r < rows_over p.m → usable_row (numbers ++ beyond) r ≡ true
  unfolding usable_row
  row_usable r h = rw (ranged r h, evenly r h, upward r h, fits r h)

  rows_usable : (count : ℕ) → count ≤ rows_over p.m → usable_up_to (numbers ++ beyond) count ≡ answered count
  unfolding usable_up_to and_then
  rows_usable zero h = refl
  rows_usable (suc r) h = rw (rows_usable r (omega arith)) (simp (row_usable r (omega arith), chosen))

pub record Served (numbers : List ℕ) (count : ℕ) : Type 0 where
  pub long : length numbers ≡ row_width * count
  pub least : least_rows ≤ count
  pub most : count ≤ most_rows
  pub each : (beyond : List ℕ) (r : ℕ) → r < count → usable_row (numbers ++ beyond) r ≡ true
  pub all : (beyond : List ℕ) → usable_up_to (numbers ++ beyond) count ≡ answered count

pub served : (table : List ℕ) (p : Particulars) (room : ℕ) {numbers : List ℕ} → rows_of table p room ≡ answered numbers → Served numbers (rows_over p.m)
served table p room {numbers} e =
    let so : Answered table p numbers = answered_rows room e in
    let range = so.hull.complete.particulars in
    record {
      long = ap length so.rows.numbers_are ∙ numbers_length (row_of table p) (rows_over p.m);
      least = omega arith;
      most = omega arith;
      each = λ beyond. row_usable so beyond;
      all = λ beyond. rows_usable so beyond (rows_over p.m) (omega arith);
    }

-- the same of the promise: under a success the lent table begins with such numbers
pub record MadeUsable (after : List ℕ) (count : ℕ) : Type 0 where
  pub numbers : List ℕ
  pub beyond : List ℕ
  pub after_is : after ≡ numbers ++ beyond
  pub usable : Served numbers count

pub made_usable : {table : List ℕ} {p : Particulars} {rows after : List ℕ} {count : ℕ} → MakesRows table p rows after (Ok count) → MadeUsable after count
unfolding left_with
made_usable {table} {p} {rows} made =
    counted (rows_of table p (length rows)) made.answer_is (λ numbers so e.
    let good = served table p (length rows) so in
    let count_is : _ ≡ rows_over p.m = e ∙ ap (λ n. n / row_width) good.long ∙ omega arith in
    record {
      numbers = numbers;
      beyond = drop (length numbers) rows;
      after_is = made.left ∙ ap (λ o. table_after o rows) so;
      usable = rw count_is good;
    })
