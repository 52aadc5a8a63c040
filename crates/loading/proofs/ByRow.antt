-- KM of an answered condition, by the numbers of the rows.
--     own_weight_stands      at a row's own weight that row's KM, by either reading
--     read_between           strictly between two rows what the reading makes of the two: by the lesser the lesser KM
-- Assumes nothing.
use mathlib.Core.Path.{◌≡◌, refl, ap, subst, ◌∙◌}
use mathlib.Core.List.{List}
use Prim.Native.Nat.{ℕ, zero, suc, ◌+◌, ◌-◌, ◌/◌, ◌≤◌, ◌<◌}
use native.Mathlib.Omega.{arith}
use lib.ListN.{length}
use Rattle.hydrostatics.specs.Usable.{row_in}
use Rattle.ranges.specs.Sizes.{row_width}
use Rattle.loading.specs.Condition.{condition_at}
use Rattle.loading.specs.Load.{weight}
use Rattle.loading.specs.Paper.{rule_of}
use Rattle.loading.specs.Private.Afloat.{RowsUsable}
use Rattle.loading.specs.Table.{hull, table_of, rows_from, Place, on, between, place_from, place_of}
use Rattle.loading.specs.declared.Condition.{Condition}
use Rattle.loading.specs.declared.Reading.{Reading}
use Rattle.loading.proofs.Demand3.{ConditionOver, aboard, tried, is}
use Rattle.loading.proofs.Order.{rows_whole}
use Rattle.loading.proofs.Readings.{own_weight}
use Rattle.loading.proofs.Tables.{place_next, place_on, place_between}
use Rattle.loading.proofs.Usability.{rises_at}

-- where a weight falls is found from any row that is not above it
module _ (rows : List ℕ) (count W : ℕ) (u : RowsUsable rows count) where
  place_from_row : (r : ℕ) → r < count → (row_in rows r).displacement ≤ W → place_of (table_of rows count) W ≡ place_from (row_in rows r) (rows_from rows (r + 1) (count - (r + 1))) W
  place_from_row zero h l = refl
  place_from_row (suc r) h l =
      let e : r + 1 ≡ suc r = omega arith in
      let here : (row_in rows (r + 1)).displacement ≤ W = rw e l in
      let below = rises_at rows count u r (omega arith) in
      subst (λ k. place_of (table_of rows count) W ≡ place_from (row_in rows k) (rows_from rows (k + 1) (count - (k + 1))) W) e
      (place_from_row r (omega arith) (omega (arith, below, here)) ∙ place_next rows count r W (omega arith) here)

  falls_on : (r : ℕ) → r < count → W ≡ (row_in rows r).displacement → place_of (table_of rows count) W ≡ on (row_in rows r)
  falls_on r h e =
      place_from_row r h (omega (arith, e))
      ∙ place_on rows count r W (λ more. omega (arith, e, rises_at rows count u r more)) h e

  falls_between : (r : ℕ) → r + 1 < count → (row_in rows r).displacement < W → W < (row_in rows (r + 1)).displacement → place_of (table_of rows count) W ≡ between (row_in rows r) (row_in rows (r + 1))
  falls_between r h low high =
      place_from_row r (omega arith) (omega (arith, low))
      ∙ place_between rows count r W h high (λ e. omega (arith, e, low))

module _ {reading : Reading} {rows : List ℕ} {c : Condition} (a : ConditionOver reading rows c) where
  usable : RowsUsable rows (length rows / row_width)
  usable = record { size = rows_whole a.items a.tanks rows (tried a).sized; usable = (tried a).rows_usable }

  read_at : (p : Place) → place_of (hull rows) c.weight ≡ p → c.km ≡ (rule_of reading).given p c.weight
  unfolding condition_at
  read_at p e = rw (is a) (ap (λ q. (rule_of reading).given q (weight (aboard a))) (rw (is a) at e))

  pub own_weight_stands : (r : ℕ) → r < length rows / row_width → c.weight ≡ (row_in rows r).displacement → c.km ≡ (row_in rows r).km
  own_weight_stands r h e =
      read_at (on (row_in rows r)) (falls_on rows (length rows / row_width) c.weight usable r h e)
      ∙ own_weight reading (row_in rows r) c.weight

  pub read_between : (r : ℕ) → r + 1 < length rows / row_width → (row_in rows r).displacement < c.weight → c.weight < (row_in rows (r + 1)).displacement
      → c.km ≡ (rule_of reading).given (between (row_in rows r) (row_in rows (r + 1))) c.weight
  read_between r h low high =
      read_at (between (row_in rows r) (row_in rows (r + 1))) (falls_between rows (length rows / row_width) c.weight usable r h low high)
