-- Rows read back from the table in which they lie, whatever stands beyond them.
--     numbers_part          the table from 7r on is row r's numbers and what follows
--     row_in_is, seven_in      so the row that is read there is row r
--     seven_are             the part of a table that a row is read from, whatever made it
-- Assumes nothing.
use mathlib.Core.Path.{◌≡◌, sym, ap, ◌∙◌}
use mathlib.Core.List.{List, ◌++◌, append_assoc}
use mathlib.Core.Logic.{⊎_elim}
use Prim.Native.Nat.{ℕ, zero, suc, ◌+◌, ◌*◌, ◌≤◌, ◌<◌}
use native.Mathlib.Nat.{add-zero, add_assoc, eq-or-lt_of_le}
use native.Mathlib.Omega.{arith}
use lib.ListN.{length, get_or, drop}
use lib.Seq.{drop_at, get_or-drop}
use Rattle.arithmetic.proofs.Parts.{drop_step}
use Rattle.ranges.specs.Sizes.{row_width}
use Rattle.hydrostatics.specs.Row.{numbers_of}
use Rattle.hydrostatics.specs.Private.Table.{numbers_up_to}
use Rattle.hydrostatics.specs.Usable.{seven, row_in}
use Rattle.hydrostatics.specs.declared.Row.{Row}
use Rattle.hydrostatics.proofs.Writing.{numbers_length}

-- a table whose part from 7r on begins with row
pub record Holds (rows : List ℕ) (r : ℕ) (row : Row) : Type 0 where
  pub rest : List ℕ
  pub part : drop (row_width * r) rows ≡ numbers_of row ++ rest

pub numbers_part : (row : ℕ → Row) (count r : ℕ) (beyond : List ℕ) → r < count → Holds (numbers_up_to row count ++ beyond) r (row r)
unfolding numbers_up_to
numbers_part row zero r beyond h = absurd (omega arith)
numbers_part row (suc last) r beyond h =
    rw (append_assoc (numbers_up_to row last) (numbers_of (row last)) beyond)
    (⊎_elim
    (λ (e : r ≡ last). rw e (record { rest = beyond; part = drop_at (numbers_up_to row last) (numbers_of (row last) ++ beyond) (row_width * last) (numbers_length row last) }))
    (λ (l : r < last). numbers_part row last r (numbers_of (row last) ++ beyond) l)
    (eq-or-lt_of_le (omega arith)))

module _ {rows : List ℕ} {r : ℕ} {row : Row} (h : Holds rows r row) where
  pub seven_in : seven rows r ≡ numbers_of row
  seven_in = rw h.part

  number_in : (i : ℕ) → get_or rows (row_width * r + i) 0 ≡ get_or (numbers_of row ++ h.rest) i 0
  number_in i = sym (get_or-drop (row_width * r) rows i 0) ∙ ap (λ l. get_or l i 0) h.part

  pub row_in_is : row_in rows r ≡ row
  unfolding row_in
  row_in_is =
      let first : get_or rows (row_width * r) 0 ≡ row.draft = ap (λ k. get_or rows k 0) (sym (add-zero (row_width * r))) ∙ number_in 0 in
      rw (first, number_in 1, number_in 2, number_in 3, number_in 4, number_in 5, number_in 6)

pub seven_are : (rows : List ℕ) (r : ℕ) → row_width * r + row_width ≤ length rows → seven rows r ≡ numbers_of (row_in rows r)
unfolding row_in
seven_are rows r h =
    let a = row_width * r in
    rw (drop_step rows a 0 (omega arith), drop_step rows (a + 1) 0 (omega arith), add_assoc, drop_step rows (a + 2) 0 (omega arith), add_assoc, drop_step rows (a + 3) 0 (omega arith), add_assoc, drop_step rows (a + 4) 0 (omega arith), add_assoc, drop_step rows (a + 5) 0 (omega arith), add_assoc, drop_step rows (a + 6) 0 (omega arith))
