-- From the sums that an engine makes of a hull to the rows.
--     sums_within, all_within      how large the sums of a row of a hull in range are, and those of all rows
--     up_to_same                   equal rows come to the same
--     made_front                   those of the rows alone
--     fills_hull                   so what is filled from an engine's sums is the hull's rows
-- Assumes nothing.
use mathlib.Core.Path.{◌≡◌, refl, ap, ◌∙◌}
use lib.ListN.{length, take}
use Rattle.hydrostatics.proofs.Filling.{filled_front}
use mathlib.Core.List.{List}
use Prim.Native.Nat.{ℕ, zero, suc, ◌≤◌, ◌<◌}
use native.Mathlib.Omega.{arith}
use Rattle.ranges.specs.Fields.{range_of, most}
use Rattle.ranges.specs.Sizes.{rows_over}
use Rattle.ranges.specs.declared.Particulars.{Particulars}
use Rattle.hydrostatics.specs.Row.{waterline_of, sums_at, row_from, row_of}
use Rattle.hydrostatics.specs.Rows.{displacement_before, rows_up_to}
use Rattle.hydrostatics.specs.Private.Hull.{InRange}
use Rattle.hydrostatics.specs.Private.Sums.{MakesSums, SumsWithin, AllWithin}
use Rattle.hydrostatics.specs.Private.Table.{rows_from, FillsRows}
use Rattle.hydrostatics.specs.declared.Row.{Row}
use Rattle.ranges.specs.declared.refusal.Refusal.{Refusal}
use Rattle.std.specs.Prelude.{Result}
use Rattle.hydrostatics.specs.declared.table.Sums.{Sums}
use Rattle.hydrostatics.proofs.Limits.{Q_most, C_most, S_most, Sz_most, Sx_most}

before_same : (f g : ℕ → Row) (r : ℕ) → ((i : ℕ) → i < r → f i ≡ g i) → displacement_before f r ≡ displacement_before g r
unfolding displacement_before
before_same f g zero h = refl
before_same f g (suc r) h = ap (λ row. row.displacement) (h r (omega arith))

pub up_to_same : (f g : ℕ → Row) (count : ℕ) → ((r : ℕ) → r < count → f r ≡ g r) → rows_up_to f count ≡ rows_up_to g count
unfolding rows_up_to
up_to_same f g zero h = refl
up_to_same f g (suc r) h =
    rw (up_to_same f g r (λ i l. h i (omega arith)), before_same f g r (λ i l. h i (omega arith)), h r (omega arith))

module _ {table : List ℕ} {p : Particulars} where
  pub sums_within : InRange table p → {k : ℕ} → k ≤ most (range_of 1) → SumsWithin k (sums_at table p k)
  sums_within hull {k} h = record {
    k_most = h;
    sum_most = S_most hull k h;
    sz_most = Sz_most hull k h;
    sx_most = Sx_most hull k h;
    q_most = Q_most hull k;
    c_most = C_most hull k;
  }

  module _ {sums : List Sums} (made : MakesSums table p sums) (all : length sums ≡ rows_over p.m) where
    pub all_within : InRange table p → AllWithin p sums
    all_within hull = record {
      particulars = hull.complete.particulars;
      each = λ r h. rw (made.each.at r (omega (arith, all))) (sums_within hull (omega (arith, all, hull.complete.particulars.m_most)));
    }

    pub fills_hull : {rows after : List ℕ} {answer : Result ℕ Refusal} → FillsRows (rows_from p sums) (length sums) answer rows after → FillsRows (row_of table p) (rows_over p.m) answer rows after
    fills_hull filled =
        let same : rows_up_to (rows_from p sums) (length sums) ≡ rows_up_to (row_of table p) (rows_over p.m) = ap (rows_up_to (rows_from p sums)) all ∙ up_to_same (rows_from p sums) (row_of table p) (rows_over p.m) (λ r h. ap (row_from p (waterline_of r)) (made.each.at r h)) in
        record { tried = record { answer_is = rw same at filled.tried.answer_is }; left = rw same at filled.left }

  -- the sums of the rows alone, of an array with room for all that there may be
  pub made_front : {sums : List Sums} → MakesSums table p sums → MakesSums table p (take (rows_over p.m) sums)
  made_front made = record { each = filled_front made.each }
