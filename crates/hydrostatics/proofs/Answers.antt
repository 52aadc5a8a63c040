-- What is answered, by the tests in the paper's order.
--     particulars_told, particulars_passed, hull_told                 no number outside: all are in range
--     bad_particular_said, wrong_table, wrong_room, bad_half_breadth       the refusals before the rows
--     rows_follow                                                     where none of them holds
--     refuses, makes, refuses_at                                      the promise, of a refusal and where the rows follow
-- Assumes nothing.
use mathlib.Core.Path.{◌≡◌, sym}
use mathlib.Core.List.{List, map}
use Prim.Native.Nat.{ℕ, ◌+◌, ◌*◌, ◌≤◌, ◌<◌}
use native.Mathlib.Omega.{arith}
use borrow.Author.Tests.{lt-ltb, le-ltb, eq-eqb, ne_eqb}
use lib.IntN.{pos}
use lib.ListN.{length}
use Rattle.arithmetic.proofs.Choice.{chosen}
use Rattle.ranges.specs.Fields.{particulars, half_breadth}
use Rattle.ranges.specs.Private.InRange.{ParticularsInRange}
use Rattle.ranges.specs.Outcome.{refused, answer_with, left_with}
use Rattle.ranges.specs.Outside.{first_outside, bad_particular}
use Rattle.ranges.specs.Refusals.{out_of_range, wrong_size, place_of_half_breadths, half_breadth_table, row_table}
use Rattle.ranges.specs.Sizes.{points_of, row_width, rows_over}
use Rattle.ranges.specs.declared.Particulars.{Particulars}
use Rattle.ranges.specs.declared.refusal.Reason.{Reason}
use Rattle.ranges.specs.declared.refusal.Refusal.{Refusal}
use Rattle.std.specs.Prelude.{Result, None, Err}
use Rattle.ranges.specs.Bounds.{place_in}
use Rattle.ranges.proofs.Outside.{none_place}
use Rattle.ranges.proofs.Facts.{particulars_in_range, half_breadths_in_range}
use Rattle.ranges.specs.Reasons.{number_of, paper}
use Rattle.hydrostatics.specs.Promise.{MakesRows}
use Rattle.hydrostatics.specs.Row.{row_of}
use Rattle.hydrostatics.specs.Rows.{rows_up_to, rows_by, rows_of}
use Rattle.hydrostatics.specs.Private.Hull.{Complete, InRange}
use Rattle.hydrostatics.specs.Private.Table.{FillsRows}

pub particulars_told : {p : Particulars} {particular : ℕ} → particular ≡ bad_particular p → length particulars ≤ particular → ParticularsInRange p
particulars_told {p} first a = particulars_in_range p (omega (arith, first))

pub particulars_passed : {p : Particulars} → None ≡ place_in (length particulars) (bad_particular p) → ParticularsInRange p
particulars_passed {p} none = particulars_in_range p (none_place (sym none))

pub hull_told :
    {table : List ℕ} {p : Particulars} {place : ℕ}
    → Complete table p
    → place ≡ first_outside half_breadth (map pos table)
    → length table ≤ place
    → InRange table p
hull_told {table} hull second d = record {
  complete = hull;
  half_breadths_ranged = half_breadths_in_range table (omega (arith, second));
}

-- ---- the outcome that the tests tell
module _ (table : List ℕ) (p : Particulars) (room : ℕ) {particular : ℕ} (first : particular ≡ bad_particular p) where
  pub bad_particular_said : particular < length particulars → rows_of table p room ≡ refused out_of_range particular
  unfolding rows_by
  bad_particular_said a = simp (← first, lt-ltb _ _ a, chosen)

  module _ (a : length particulars ≤ particular) where
    pub wrong_table : (length table ≡ points_of p.n p.m → ⊥) → rows_of table p room ≡ refused wrong_size half_breadth_table
    unfolding rows_by
    wrong_table b = simp (← first, le-ltb _ _ a, ne_eqb _ _ b, chosen)

    module _ (b : length table ≡ points_of p.n p.m) where
      pub wrong_room : room < row_width * rows_over p.m → rows_of table p room ≡ refused wrong_size row_table
      unfolding rows_by
      wrong_room c = simp (← first, le-ltb _ _ a, eq-eqb _ _ b, lt-ltb _ _ c, chosen)

      module _ (c : row_width * rows_over p.m ≤ room) {place : ℕ} (second : place ≡ first_outside half_breadth (map pos table)) where
        pub bad_half_breadth : place < length table → rows_of table p room ≡ refused out_of_range (place_of_half_breadths + place)
        unfolding rows_by
        bad_half_breadth d = simp (← first, ← second, le-ltb _ _ a, eq-eqb _ _ b, le-ltb _ _ c, lt-ltb _ _ d, chosen)

        pub rows_follow : length table ≤ place → rows_of table p room ≡ rows_up_to (row_of table p) (rows_over p.m)
        unfolding rows_by
        rows_follow d = simp (← first, ← second, le-ltb _ _ a, eq-eqb _ _ b, le-ltb _ _ c, le-ltb _ _ d, chosen)

-- ---- the promise
module _ {table : List ℕ} {p : Particulars} {rows : List ℕ} {answer : Result ℕ Refusal} where
  pub refuses : {number place : ℕ} → rows_of table p (length rows) ≡ refused number place → paper answer ≡ refused number place → MakesRows table p rows rows answer
  unfolding answer_with left_with
  refuses e f = record { answer_is = rw e f; left = rw e }

  pub makes : {after : List ℕ} → rows_of table p (length rows) ≡ rows_up_to (row_of table p) (rows_over p.m) → FillsRows (row_of table p) (rows_over p.m) answer rows after → MakesRows table p rows after answer
  makes e f = record { answer_is = rw e f.tried.answer_is; left = rw e f.left }

pub refuses_at : {table : List ℕ} {p : Particulars} {rows : List ℕ} {r : Refusal} {reason : Reason} {place : ℕ} → rows_of table p (length rows) ≡ refused (number_of reason) place → r ≡ record { reason = reason; place = place } → MakesRows table p rows rows (Err r)
unfolding answer_with left_with
refuses_at e f = record { answer_is = rw (e, f); left = rw e }
