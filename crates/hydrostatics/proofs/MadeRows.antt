-- What stands in the lent table under a success: the paper's row at each waterline from number 2 up.
--     made_rows        how many rows, and each of them
--     made_length      the hull has two intervals of length or more
--     made_area        and the waterplane area of one of the rows
-- Assumes nothing.
use mathlib.Core.Path.{◌≡◌, ap, ◌∙◌}
use mathlib.Core.List.{List}
use Prim.Native.Nat.{ℕ, ◌*◌, ◌/◌, ◌≤◌, ◌<◌}
use native.Mathlib.Omega.{arith}
use lib.ListN.{length}
use Rattle.ranges.specs.Sizes.{row_width, rows_over}
use Rattle.ranges.specs.declared.Particulars.{Particulars}
use Rattle.ranges.specs.Outcome.{left_with}
use Rattle.hydrostatics.specs.Promise.{table_after, MakesRows}
use Rattle.hydrostatics.specs.Hull.{Q}
use Rattle.hydrostatics.specs.Row.{row_from, row_of, waterline_of}
use Rattle.hydrostatics.specs.Rows.{rows_of}
use Rattle.hydrostatics.specs.Usable.{row_in}
use Rattle.std.specs.Prelude.{Ok}
use Rattle.hydrostatics.proofs.Passed.{counted}
use Rattle.hydrostatics.proofs.Reading.{numbers_part, row_in_is}
use Rattle.hydrostatics.proofs.Usable.{answered_rows, served}

pub made_rows : {table : List ℕ} {p : Particulars} {rows after : List ℕ} {count : ℕ} → MakesRows table p rows after (Ok count) → (count ≡ rows_over p.m) × ((r : ℕ) → r < count → row_in after r ≡ row_of table p r)
unfolding left_with
made_rows {table} {p} {rows} {after} {count} made =
    counted (rows_of table p (length rows)) made.answer_is (λ numbers so e.
    let long = (served table p (length rows) so).long in
    let all : count ≡ rows_over p.m = e ∙ ap (λ n. n / row_width) long ∙ omega arith in
    let left = made.left ∙ ap (λ o. table_after o rows) so in (
      all,
      λ r h.
          rw (left, (answered_rows (length rows) so).rows.numbers_are)
          (row_in_is (numbers_part (row_of table p) (rows_over p.m) r _ (omega arith))),
    ))

pub made_length : {table : List ℕ} {p : Particulars} {rows after : List ℕ} {count : ℕ} → MakesRows table p rows after (Ok count) → 2 ≤ p.n
made_length {table} {p} {rows} made =
    counted (rows_of table p (length rows)) made.answer_is (λ numbers so e. (answered_rows (length rows) so).hull.complete.particulars.n_least)

pub made_area : {table : List ℕ} {p : Particulars} {rows after : List ℕ} {count : ℕ} → MakesRows table p rows after (Ok count) → (r : ℕ) → r < count → (2 ≤ p.n) × ((row_in after r).area ≡ p.s * Q table p (waterline_of r) / 12)
unfolding row_from
made_area made r h = (made_length made, ap (λ row. row.area) ((made_rows made).1 r h))
