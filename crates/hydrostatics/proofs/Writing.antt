-- Rows as they lie in a table, and the table that is written row by row.
--     numbers_more, numbers_length                     one row more, in the code's `r + 1`; seven numbers a row
--     Written                                          the table after the first r rows
--     written_none, written_more                       before the first row; one row more, by its part
-- Assumes nothing.
use mathlib.Core.Path.{◌≡◌, refl, ap, ◌∙◌}
use mathlib.Core.List.{List, ◌++◌, append_assoc}
use Prim.Native.Nat.{ℕ, zero, suc, ◌+◌, ◌*◌, ◌≤◌}
use native.Mathlib.Nat.{mul-suc}
use native.Mathlib.Numerals.{add-one}
use native.Mathlib.Omega.{arith}
use lib.ListN.{length, take, drop, length-append, length-drop}
use lib.Seq.{take_at, drop_at, drop-drop}
use Rattle.ranges.specs.Sizes.{row_width}
use Rattle.hydrostatics.specs.Row.{numbers_of}
use Rattle.hydrostatics.specs.Private.Table.{numbers_up_to}
use Rattle.hydrostatics.specs.declared.Row.{Row}

pub numbers_more : (row : ℕ → Row) (r : ℕ) → numbers_up_to row (r + 1) ≡ numbers_up_to row r ++ numbers_of (row r)
unfolding numbers_up_to
numbers_more row r = rw add-one

pub numbers_length : (row : ℕ → Row) (count : ℕ) → length (numbers_up_to row count) ≡ row_width * count
unfolding numbers_up_to
numbers_length row zero = refl
numbers_length row (suc r) = rw (length-append, numbers_length row r, mul-suc)

pub record Written (row : ℕ → Row) (was : List ℕ) (r : ℕ) (rows : List ℕ) : Type 0 where
  pub long : length rows ≡ length was
  pub so_far : rows ≡ numbers_up_to row r ++ drop (row_width * r) was

module _ {row : ℕ → Row} {was : List ℕ} where
  pub written_none : Written row was 0 was
  unfolding numbers_up_to
  written_none = record { long = refl; so_far = refl }

  module _ {r : ℕ} {rows : List ℕ} (so : Written row was r rows) where
    -- the row's part, from 7r on, came back with the row in it
    pub written_more :
        {made : Row} → made ≡ row r
        → (back : List ℕ)
        → row_width * (r + 1) ≤ length was
        → back ≡ numbers_of made
        → {width : ℕ} → width ≡ row_width
        → Written row was (r + 1) (take (row_width * r) rows ++ (back ++ drop width (drop (row_width * r) rows)))
    written_more is back h e {width} w =
        let next : row_width * (r + 1) ≡ row_width * r + row_width = omega arith in
        let front : take (row_width * r) rows ≡ numbers_up_to row r = rw (so.so_far, take_at (numbers_up_to row r) (drop (row_width * r) was) (row_width * r) (numbers_length row r)) in
        let behind : drop (row_width * r) rows ≡ drop (row_width * r) was = rw (so.so_far, drop_at (numbers_up_to row r) (drop (row_width * r) was) (row_width * r) (numbers_length row r)) in
        let filled : take (row_width * r) rows ++ (back ++ drop width (drop (row_width * r) rows)) ≡ numbers_up_to row (r + 1) ++ drop (row_width * (r + 1)) was =
        rw (numbers_more row r, next, front, behind, e, is, w, drop-drop, append_assoc) in
        record {
          long = ap length filled ∙ length-append (numbers_up_to row (r + 1)) (drop (row_width * (r + 1)) was) ∙ omega (arith, numbers_length row (r + 1), length-drop (row_width * (r + 1)) was);
          so_far = filled;
        }
