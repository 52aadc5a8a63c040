-- The lent list of rows as a table, row by row from number r on.
--     rows_next                         the next row
--     last_row_of_table                          the last row is the one before the count
--     place_next, place_on, place_between      where W falls from row r on
-- Assumes nothing.
use mathlib.Core.Path.{◌≡◌, refl, sym, ap, ◌∙◌}
use mathlib.Core.List.{List, ◌∷◌}
use Prim.Native.Nat.{ℕ, zero, suc, ◌+◌, ◌-◌, ◌≤◌, ◌<◌}
use native.Mathlib.Nat.{add-zero}
use native.Mathlib.Omega.{arith}
use borrow.Author.Tests.{lt-ltb, le-ltb, eq-eqb, ne_eqb}
use Rattle.arithmetic.proofs.Choice.{chosen}
use Rattle.hydrostatics.specs.Usable.{row_in}
use Rattle.loading.specs.Table.{rows_from, table_of, last_from, last_row, on, between, place_from}

module _ (rows : List ℕ) where
  pub rows_next : (count r : ℕ) → r < count → rows_from rows r (count - r) ≡ row_in rows r ∷ rows_from rows (r + 1) (count - (r + 1))
  unfolding rows_from
  rows_next count r h =
      let e : count - r ≡ suc (count - (r + 1)) = omega arith in
      rw e

  last_of : (more r : ℕ) → last_from (row_in rows r) (rows_from rows (r + 1) more) ≡ row_in rows (r + more)
  unfolding rows_from
  last_of zero r = ap (row_in rows) (sym (add-zero r))
  last_of (suc more) r =
      let e : r + 1 + more ≡ r + suc more = omega arith in
      last_of more (r + 1) ∙ ap (row_in rows) e

  pub last_row_of_table : (count : ℕ) → 0 < count → last_row (table_of rows count) ≡ row_in rows (count - 1)
  last_row_of_table count h =
      let e : 0 + (count - 1) ≡ count - 1 = omega arith in
      last_of (count - 1) 0 ∙ ap (row_in rows) e

  module _ (count r W : ℕ) where
    pub place_next : r + 1 < count → (row_in rows (r + 1)).displacement ≤ W → place_from (row_in rows r) (rows_from rows (r + 1) (count - (r + 1))) W ≡ place_from (row_in rows (r + 1)) (rows_from rows (r + 1 + 1) (count - (r + 1 + 1))) W
    unfolding place_from
    place_next h l = rw (rows_next count (r + 1) h, le-ltb _ _ l) (simp chosen)

    pub place_on : (r + 1 < count → W < (row_in rows (r + 1)).displacement) → r < count → W ≡ (row_in rows r).displacement → place_from (row_in rows r) (rows_from rows (r + 1) (count - (r + 1))) W ≡ on (row_in rows r)
    unfolding place_from rows_from
    place_on h l e = by_rest (count - (r + 1)) refl
      where
        by_rest : (more : ℕ) → count - (r + 1) ≡ more → place_from (row_in rows r) (rows_from rows (r + 1) more) W ≡ on (row_in rows r)
        by_rest zero f = refl
        by_rest (suc more) f =
            let m : r + 1 < count = omega arith in
            rw (lt-ltb _ _ (h m), eq-eqb _ _ e) (simp chosen)

    pub place_between : r + 1 < count → W < (row_in rows (r + 1)).displacement → (W ≡ (row_in rows r).displacement → ⊥) → place_from (row_in rows r) (rows_from rows (r + 1) (count - (r + 1))) W ≡ between (row_in rows r) (row_in rows (r + 1))
    unfolding place_from
    place_between h l n = rw (rows_next count (r + 1) h, lt-ltb _ _ l, ne_eqb _ _ n) (simp chosen)
